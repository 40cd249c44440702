use Rattle.longest_run.specs.Reached.{Rounded}
use Rattle.longest_run.proofs.run.release_in_turn.Given as goal

abbrev pub invariant-loop-j : goal.invariant-loop-j
invariant-loop-j g l = Rounded g.K.KeyKind l.initial.kernel l.cores.number l.j l.kernel
