use Rattle.std.proofs.Common.{◌≡◌, Some, ap, ◌∙◌, rules}
use Rattle.std.specs.Result.{result_err}
use Rattle.runs.specs.declared.refusal.Refusal.TheVariants.{DoesNotRun}
use Rattle.cases.proofs.Release.{fits, outcome}
use Rattle.cases.proofs.run.release_behind.Goals as goal

pub returns : goal.returns
returns c =
    let g = c.gated_line-order.result in
    let new = c.gated_line-order.ensures.empty in
    let made = c.start-kernel.ensures in
    let all = outcome g new c.args.due c.requires.sooner.0 c.requires.sooner.1
    c.arrive-first_arrival.result c.request-told.result c.arrive-second_arrival.result c.release-release.result
    c.start-kernel.result c.arrive-first_arrival.new.self c.request-told.new.self c.arrive-second_arrival.new.self c.release-release.new.self
    made.order (made.facts (fits g new)) c.arrive-first_arrival.ensures c.request-told.ensures c.arrive-second_arrival.ensures c.release-release.ensures in
    let e : c.err.result ≡ Some DoesNotRun = c.err.ensures.value ∙ ap result_err all.release in
    let number : c.map-release_number.result ≡ Some 7 = search rules in
    rw (number, all.first_arrival, all.told, all.second_arrival, all.release)
