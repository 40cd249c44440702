use Rattle.std.proofs.Common.{true, vec_items, string_bytes, refl, arith}
use Rattle.fields.specs.Cutting.{lines}
use Rattle.event_run.proofs.Lines.{sofar_none, sofar_more, sofar_all}
use Rattle.event_run.proofs.play.run_lines.Goals as goal

pub loop-line-init : goal.loop-line-init
loop-line-init g c =
    let start = c.args.report.now in
    (sofar_none g.O.Order g.K.KeyKind g.K.EventKind.read c.args.kernel.now (lines c.args.bytes.now) (string_bytes start.output) (vec_items start.faults) c.requires c.guarantee_stands.ensures, omega arith)

pub loop-line-preserved : goal.loop-line-preserved
loop-line-preserved g c =
    let start = c.args.report.now in
    let before = c.loop-line.report in
    let after = c.run_line.new.report in
    let cut = c.in-Some.ensures in (
      sofar_more g.O.Order g.K.KeyKind g.K.EventKind.read c.args.kernel.now (lines c.args.bytes.now) (string_bytes start.output) (vec_items start.faults) c.requires c.guarantee_stands.ensures
          c.in-Some.line.now (lines c.loop-line.rest.now) (lines c.in-Some.next.now) c.loop-line.n c.loop-line.kernel c.run_line.new.kernel (string_bytes before.output) (string_bytes after.output) (vec_items before.faults) (vec_items after.faults) cut.cut c.loop-line.invariant.0 (c.in_ok-run_line.ensures (refl {a = true})),
      omega (arith, cut.shorter, c.loop-line.invariant.1),
    )

pub returns : goal.returns
returns g c = λ _. let start = c.args.report.now in let end = c.loop-line.report in
    (c.loop-line.n, sofar_all g.O.Order g.K.KeyKind g.K.EventKind.read c.args.kernel.now (lines c.args.bytes.now) (string_bytes start.output) (vec_items start.faults) c.loop-line.rest.now c.loop-line.n c.loop-line.kernel (string_bytes end.output) (vec_items end.faults) c.in_default.ensures c.loop-line.invariant.0)
