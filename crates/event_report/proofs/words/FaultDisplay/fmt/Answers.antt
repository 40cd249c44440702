use Rattle.std.proofs.Common.{rules}
use Rattle.event_report.proofs.words.FaultDisplay.fmt.Goals as goal

pub returns-clause-writes : goal.returns-clause-writes
returns-clause-writes g c = rw (← c.number-number.ensures, ← c.layer-layer.ensures) (search rules)
