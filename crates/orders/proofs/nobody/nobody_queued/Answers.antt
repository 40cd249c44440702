use Rattle.std.proofs.Common.{not, is_some, rules}
use Rattle.orders.specs.Services.{meaning}
use Rattle.orders.proofs.Ranges.{every_from_all}
use Rattle.orders.proofs.nobody.nobody_queued.Goals as goal

pub returns : goal.returns
returns g c = every_from_all (λ r. not (is_some ((meaning g.O.Order c.args.order.now).holder r))) 32 _ _ _ c.all.ensures.ran (λ x b q k. search rules)
