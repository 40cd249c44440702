use Rattle.std.proofs.Common.{◌<◌, length, sym, rules}
use Rattle.std.proofs.lemmas.Bool.{eqb-true, eqb-false}
use Rattle.orders.specs.Orders.{size}
use Rattle.orders.specs.Services.{meaning}
use Rattle.orders.proofs.Bounds.{lawful_met}
use Rattle.gate.proofs.Gatesteps.{beside_set, unmarked_set, entered_set, closed_admit, below_admit, gate_admit}
use Rattle.gate.proofs.serve.GateOrder.admit.Goals as goal

pub returns-then-not-is_open : goal.returns-then-not-is_open
returns-then-not-is_open g c = closed_admit g.L.Order (lawful_met g.met.L.Order) c.args.self.now c.args.resource c.args.task c.args.urgency (search rules) (search rules) (sym c.if-not-is_open.ensures)

pub returns-then-is_full : goal.returns-then-is_full
returns-then-is_full g c =
    let o = g.L.Order in
    let s = c.args.self.now in
    let r = c.args.resource in
    let t = c.args.task in
    let long : r < length s.rows = search rules in
    let full = eqb-true (size (meaning o s.lower) r) (o.width s.lower) (sym c.if-is_full.ensures) in
    gate_admit o (lawful_met g.met.L.Order) s r t c.args.urgency _ (search rules) (search rules) (sym c.if-not-is_open.ensures) (sym c.if-queued.ensures) full
    (entered_set s.rows r c.put.new.self long t c.args.urgency (search rules) (search rules) c.put.ensures)

pub returns : goal.returns
returns g c =
    let o = g.L.Order in
    let s = c.args.self.now in
    let r = c.args.resource in
    let row = c.clear.new.self in
    let long : r < length s.rows = search rules in
    let free = eqb-false (size (meaning o s.lower) r) (o.width s.lower) (sym c.if-is_full.ensures) in
    below_admit o (lawful_met g.met.L.Order) s r c.args.task c.args.urgency c.admit.result c.admit.new.self _ (search rules) (search rules) (sym c.if-not-is_open.ensures) (sym c.if-queued.ensures) free c.admit.ensures
    (beside_set s.rows r row long) (λ u. unmarked_set s.rows r row long u (c.clear.ensures.marks u))
