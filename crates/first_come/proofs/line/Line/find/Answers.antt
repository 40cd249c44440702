use Rattle.std.proofs.Common.{◌∙◌, rules}
use Rattle.first_come.proofs.Seats.{seat_unknown, seat_past, seat_tells}
use Rattle.first_come.proofs.line.Line.find.Goals as goal

pub returns-in_err-seat : goal.returns-in_err-seat
returns-in_err-seat c = let l = c.args.self.now in c.from_residual.ensures ∙ seat_unknown c.args.task l.entries.items l.seats l.seated l.neat (search rules)

pub returns-in_err-entry : goal.returns-in_err-entry
returns-in_err-entry c = let l = c.args.self.now in c.from_residual-in_err-entry.ensures ∙ seat_past c.args.task l.entries.items l.seats l.seated (search rules)

pub returns : goal.returns
returns c = let l = c.args.self.now in c.then_some.ensures ∙ seat_tells c.args.task l.entries.items l.seats l.seated c.in_ok-seat.field-0.now c.in_ok-entry.entry.now (search rules) (search rules) (search rules)
