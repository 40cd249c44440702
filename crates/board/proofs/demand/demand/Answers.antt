use Rattle.std.proofs.Common.{◌∙◌, get_or, rules, tests}
use Rattle.std.proofs.lemmas.Iterator.{YieldsList-from_slice}
use Rattle.std.proofs.lemmas.Iterator.Consumers.{YieldsList-at, YieldsList-from_enumerate, YieldsList-from_filter, count_from_yields_List}
use Rattle.board.specs.Boards.{blank}
use Rattle.board.proofs.Demands.{before, demand_counted}
use Rattle.board.proofs.demand.demand.Goals as goal

pub returns : goal.returns
returns c =
    let rows = c.args.rows.now in
    let t = c.args.task.number in
    let listed = YieldsList-at c.filter.ensures.source (YieldsList-from_enumerate (YieldsList-at c.enumerate.ensures.source (YieldsList-from_slice rows (cc))) c.enumerate.ensures.count) in
    count_from_yields_List c.filter.result _ c.count-ahead.ensures.ran (YieldsList-from_filter _ (λ p. before p.1 p.0 (get_or rows t blank) t) listed c.filter.ensures.closure (λ x r q k. search (rules, tests)))
    ∙ demand_counted rows t (search rules)
