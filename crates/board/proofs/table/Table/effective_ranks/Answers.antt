use Rattle.std.proofs.Common.{◌≡◌, rules}
use Rattle.board.specs.Boards.{jobs_of}
use Rattle.board.specs.Settling.{rank}
use Rattle.board.proofs.Made.{made}
use Rattle.board.proofs.Ranking.{rank_inherited}
use Rattle.board.proofs.table.Table.effective_ranks.Goals as goal

pub returns : goal.returns
returns c =
    let s = c.args.self.now in
    let best = c.least_waiting-best in
    made c.from_fn.ensures.items (λ k x. x ≡ rank (jobs_of s.rows) k) (λ k x q m h.
    let a = s.counted k m in
    let b = rank_inherited (jobs_of s.rows) k m best.result best.ensures (s.known k) in
    search rules) 0
