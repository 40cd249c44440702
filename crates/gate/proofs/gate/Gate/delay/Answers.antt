use Rattle.std.proofs.Common.{rules, ◌∙◌}
use Rattle.orders.specs.Services.{meaning}
use Rattle.orders.specs.Gating.{against}
use Rattle.orders.proofs.Ranges.{most_from_max}
use Rattle.gate.proofs.gate.Gate.delay.Goals as goal

pub returns-clause-told : goal.returns-clause-told
returns-clause-told g c =
    let v = meaning g.L.Order c.args.self.now.lower in
    let r = c.args.resource in
    c.unwrap_or.ensures ∙ most_from_max (against v r c.args.rank.code c.args.rank.task) (v.count r) 64 _ _ _ c.max.ensures.ran c.filter_map.ensures.source c.filter_map.ensures.closure (λ x o q k. search rules)
