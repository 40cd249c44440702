use Rattle.std.proofs.Common.{false, replicate, refl}
use Rattle.orders.proofs.Fresh.{fresh}
use Rattle.board.specs.Boards.{unheld}
use Rattle.board.proofs.Kept.{new_runs, new_blocks, new_short, new_brief}
use Rattle.board.proofs.board.Board.new.Goals as goal

pub invariant_of-result : goal.invariant_of-result
invariant_of-result c =
    let rows = c.new.result.rows in
    let nobody = replicate 64 false in
    let none = fresh 64 false false refl in
    record {
      runs = new_runs rows c.new.ensures c.args.cores nobody none;
      blocks = new_blocks rows c.new.ensures c.args.cores nobody none;
      short = new_short rows c.new.ensures;
      brief = new_brief (replicate 32 c.new-2.result) (fresh 32 c.new-2.result unheld c.new-2.ensures);
    }

pub returns : goal.returns
returns c = record { cores = refl; now = refl; rows = c.new.ensures; holds = fresh 32 c.new-2.result unheld c.new-2.ensures }
