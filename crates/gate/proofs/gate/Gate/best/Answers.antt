use Rattle.std.proofs.Common.{not, ◌&&◌, rules}
use Rattle.orders.specs.Services.{meaning}
use Rattle.orders.proofs.Ranks.{leads_from_min}
use Rattle.gate.specs.Gates.{marked, noted}
use Rattle.gate.proofs.Gatesteps.{best_from}
use Rattle.gate.proofs.gate.Gate.best.Goals as goal

pub returns-clause-task : goal.returns-clause-task
returns-clause-task g c =
    let s = c.args.self.now in
    let v = meaning g.L.Order s.lower in
    let r = c.args.resource in
    let leads = leads_from_min (λ u. marked s.rows r u && not (v.queued r u)) (noted s.rows r) 64 _ _ _ c.min.ensures.ran c.filter_map.ensures.source c.filter_map.ensures.closure (λ x o q k. search rules) in
    (best_from v s.rows r 64 _ (search rules) leads).0
