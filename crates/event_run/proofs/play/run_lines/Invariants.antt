use Rattle.std.proofs.Common.{◌+◌, ◌≤◌, length, vec_items, string_bytes}
use Rattle.fields.specs.Cutting.{lines}
use Rattle.event_run.specs.Taking.{Sofar}
use Rattle.event_run.proofs.play.run_lines.Given as goal

abbrev pub invariant-loop-line : goal.invariant-loop-line
invariant-loop-line g l =
    Sofar g.O.Order g.K.KeyKind g.K.EventKind.read l.initial.kernel (lines l.bytes) (lines l.rest) l.n (string_bytes l.initial.report.output) (vec_items l.initial.report.faults) l.kernel (string_bytes l.report.output) (vec_items l.report.faults)
    × (l.n + length l.rest ≤ length l.bytes)

abbrev pub decreases-loop-line : goal.decreases-loop-line
decreases-loop-line g l = length l.rest
