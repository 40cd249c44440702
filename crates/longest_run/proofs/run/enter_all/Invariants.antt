use Rattle.longest.specs.Longest.{entries}
use Rattle.longest_run.specs.Reached.{Went}
use Rattle.longest_run.proofs.run.enter_all.Given as goal

abbrev pub invariant-loop-i : goal.invariant-loop-i
invariant-loop-i g l = Went g.K.KeyKind l.initial.kernel (entries l.cores.number l.declared l.i) l.kernel
