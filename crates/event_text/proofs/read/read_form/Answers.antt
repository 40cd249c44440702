use Rattle.std.proofs.Common.{sym, ap, rules, ◌∙◌}
use Rattle.event_text.specs.declared.fault.TextFault.TheVariants.{NoForm, BadNumber}
use Rattle.event_text.specs.Grammar.{unless_bad}
use Rattle.event_text.proofs.Sofar.{absent, one_more, more_fields, all_read}
use Rattle.event_text.proofs.There.{err_is, missing, all_there}
use Rattle.event_text.proofs.read.read_form.Goals as goal

pub returns-in_err-field : goal.returns-in_err-field
returns-in_err-field g c =
    err_is c.from_residual.result NoForm (search rules)
    ∙ absent c.args.form c.args.line.now c.loop-i.i c.loop-i.found _ c.loop-i.next c.loop-i.invariant (search rules) (sym c.in_err-field.ensures.ok_part ∙ c.read_next.ensures)

pub loop-i-preserved : goal.loop-i-preserved
loop-i-preserved g c =
    one_more c.args.form c.args.line.now c.loop-i.i c.loop-i.found _ c.loop-i.next c.loop-i.invariant (search rules) c.in_ok-field.field (sym c.in_ok-field.ensures.ok_part ∙ c.read_next.ensures)

pub returns-then-is_some : goal.returns-then-is_some
returns-then-is_some g c = more_fields c.args.form c.args.line.now c.loop-i.i c.loop-i.found c.loop-i.next c.if-is_some.ensures c.loop-i.invariant (search rules)

pub returns-in_err-numbers : goal.returns-in_err-numbers
returns-in_err-numbers g c =
    err_is c.from_residual-in_err-numbers.result BadNumber (search rules)
    ∙ missing c.loop-i.found c.loop-i-2.numbers c.loop-i-2.i c.loop-i-2.invariant.there (search rules) c.in_err-numbers.ensures.ok_part
    ∙ all_read c.args.form c.args.line.now c.loop-i.i c.loop-i.found c.loop-i.next c.if-is_some.ensures c.loop-i.invariant (search rules)

pub returns : goal.returns
returns g c =
    let there = all_there c.loop-i.found c.loop-i-2.numbers c.loop-i-2.i c.loop-i-2.invariant.there (search rules) (search rules) in
    let read = all_read c.args.form c.args.line.now c.loop-i.i c.loop-i.found c.loop-i.next c.if-is_some.ensures c.loop-i.invariant (search rules) in
    ap unless_bad (sym there) ∙ read
