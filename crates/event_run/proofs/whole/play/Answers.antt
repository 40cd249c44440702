use Rattle.std.proofs.Common.{true, ◌++◌, vec_items, string_bytes, refl, ap, ◌∙◌}
use Rattle.fields.specs.Cutting.{lines}
use Rattle.transcript.specs.Rows.{start_row}
use Rattle.event_run.proofs.FileRuns.{ran}
use Rattle.event_run.proofs.whole.play.Goals as goal

pub returns : goal.returns
returns g c =
    let f = c.args.facts in
    let made = c.start-kernel in
    let ok = refl {a = true} in
    ran g.O.Order g.K.KeyKind g.K.EventKind.read f.cores f.tasks f.resources c.args.order (lines c.args.rest.now) made.result c.run_lines.new.kernel (record { output = c.add_resources.new.text; faults = c.run_lines.new.report.faults })
    (string_bytes c.add_start.new.text) (string_bytes c.run_lines.new.report.output) (string_bytes c.add_tasks.new.text) (vec_items c.new-2.result) c.guarantee_stands.ensures (made.ensures.facts c.requires) made.ensures.order
    (made.ensures.fresh c.requires) (c.in_ok-add_start.ensures ok ∙ ap (λ x. x ++ start_row 0) c.new.ensures.bytes) c.new-2.ensures.items (c.in_ok-run_lines.ensures ok) (c.in_ok-add_tasks.ensures ok)
    (c.in_ok-add_resources.ensures ok)
