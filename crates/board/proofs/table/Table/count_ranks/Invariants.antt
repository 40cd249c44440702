use Rattle.std.proofs.Common.{length}
use Rattle.board.proofs.Passes.{Sharing}
use Rattle.board.proofs.table.Table.count_ranks.Given as goal

abbrev pub invariant-loop-row : goal.invariant-loop-row
invariant-loop-row l = Sharing l.self.rows l.counts (length l.yielded)
