use Rattle.std.proofs.Common.{not, ◌||◌, rules}
use Rattle.orders.specs.Counting.{ahead}
use Rattle.orders.specs.Services.{meaning}
use Rattle.orders.proofs.Ranges.{every_from_all}
use Rattle.gate.proofs.gate.Gate.is_behind.Goals as goal

pub returns : goal.returns
returns g c =
    let v = meaning g.L.Order c.args.self.now.lower in
    let r = c.args.resource in
    every_from_all (λ u. not (v.queued r u) || ahead (v.code r u) u c.args.rank.code c.args.rank.task) 64 _ _ _ c.all.ensures.ran (λ x b q k. search rules)
