use Rattle.std.proofs.Common.{rules}
use Rattle.orders.specs.Services.{meaning}
use Rattle.orders.proofs.Ranges.{tally_from_count}
use Rattle.gate.proofs.gate.Gate.size.Goals as goal

pub returns : goal.returns
returns g c = tally_from_count ((meaning g.L.Order c.args.self.now.lower).queued c.args.resource) 64 _ _ _ c.count.ensures.ran c.filter.ensures.source c.filter.ensures.closure (λ x b q k. search rules)
