use Rattle.std.proofs.Common.{take}
use Rattle.kernel.proofs.Running.{Sofar}
use Rattle.kernel.proofs.kernel.Kernel.run.Given as goal

abbrev pub invariant-loop-call : goal.invariant-loop-call
invariant-loop-call g l = Sofar g.O.Order g.K.KeyKind l.initial.self (take l.call-index l.calls) l.accepted l.self
