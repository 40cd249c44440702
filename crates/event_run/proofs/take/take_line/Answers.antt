use Rattle.std.proofs.Common.{sym, ap, ◌∙◌}
use Rattle.event_report.specs.Reasons.{refused_row}
use Rattle.event_run.proofs.Taking.{taken_call, taken_text}
use Rattle.event_run.proofs.take.take_line.Goals as goal

pub returns-in-Ok : goal.returns-in-Ok
returns-in-Ok g c =
    let handled = c.handle.ensures in
    taken_call g.O.Order g.K.KeyKind c.args.kernel.now c.handle.new.self c.in-Ok.call c.handle.result c.answered.result _ (sym c.in-Ok.ensures) handled.took handled.plain c.answered.ensures

pub returns-in-Err : goal.returns-in-Err
returns-in-Err g c = taken_text g.O.Order g.K.KeyKind c.args.kernel.now c.in-Err.fault c.refused.result _ (sym c.in-Err.ensures) (c.refused.ensures ∙ ap refused_row c.into.ensures)
