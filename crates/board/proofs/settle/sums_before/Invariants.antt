use Rattle.board.proofs.Passes.{Sums}
use Rattle.board.proofs.settle.sums_before.Given as goal

abbrev pub invariant-loop-p : goal.invariant-loop-p
invariant-loop-p l = Sums l.counts l.sums l.sum l.p
