use Rattle.std.proofs.Common.{◌<◌, length, sym, ◌∙◌, rules}
use Rattle.orders.proofs.Bounds.{lawful_met}
use Rattle.gate.proofs.Gatesteps.{held_known, moved_pass}
use Rattle.gate.proofs.serve.GateOrder.pass.Goals as goal

pub put-requires : goal.put-requires
put-requires g c = held_known g.L.Order (lawful_met g.met.L.Order) c.args.self.now c.args.resource c.in_ok-first.first (sym c.holder.ensures ∙ c.in_ok-first.ensures.ok_part)

pub returns : goal.returns
returns g c =
    let s = c.args.self.now in
    let r = c.args.resource in
    let next = c.in-Some.next in
    let long : r < length s.rows = search rules in
    moved_pass g.L.Order (lawful_met g.met.L.Order) s r c.in_ok-first.first (search rules) (sym c.holder.ensures ∙ c.in_ok-first.ensures.ok_part) c.pass.result c.pass.new.self c.pass.ensures
    next.task next.code c.put.new.self c.put-2.new.self c.admit.result c.admit.new.self c.holder-2.result long c.in-Some.ensures.task c.in-Some.ensures.code
    c.put.ensures c.put-2.ensures c.admit.ensures c.holder-2.ensures
