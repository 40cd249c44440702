use Rattle.std.proofs.Common.{arith}
use Rattle.orders.proofs.Answered.{asked_some}
use Rattle.orders.specs.Services.{meaning}
use Rattle.gate.proofs.gate.Gate.delay_by.Goals as goal

pub overflow_add-result : goal.overflow_add-result
overflow_add-result g c =
    let v = meaning g.L.Order c.args.self.now.lower in
    let rules = g.met.L.Order.rules c.args.self.now.lower in
    let a = asked_some (v.queued c.args.resource c.args.rival) (v.count c.args.resource c.args.rival) c.in_ok-n.n c.in_ok-n.ensures in
    omega (arith, a.1, rules.bounded c.args.resource c.args.rival a.0, rules.small)
