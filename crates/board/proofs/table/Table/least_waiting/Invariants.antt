use Rattle.std.proofs.Common.{length}
use Rattle.board.proofs.Passes.{Leading}
use Rattle.board.proofs.table.Table.least_waiting.Given as goal

abbrev pub invariant-loop-row : goal.invariant-loop-row
invariant-loop-row l = Leading l.self.rows l.best (length l.yielded)
