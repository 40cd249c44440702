use Rattle.std.proofs.Common.{◌≡◌, false, rules}
use Rattle.jobs.specs.Jobs.{blocked}
use Rattle.board.specs.Boards.{jobs_of}
use Rattle.board.proofs.Made.{made}
use Rattle.board.proofs.table.Table.blocked_set.Goals as goal

pub returns : goal.returns
unfolding blocked
returns c =
    let s = c.args.self.now in
    made c.from_fn.ensures.items (λ k x. x ≡ blocked (jobs_of s.rows) c.args.cores k) (λ k x q m h. let a = s.counted k m in let b = c.requires k m in search rules) false
