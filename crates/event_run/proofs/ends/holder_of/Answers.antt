use Rattle.std.proofs.Common.{ℕ, true, false, rules, tests, ◌≡◌}
use Rattle.std.proofs.lemmas.Iterator.{first_from_Range}
use Rattle.kernel.specs.Views.{task_answer}
use Rattle.event_run.specs.Outputs.{holding}
use Rattle.event_run.proofs.EndRows.{first_is}
use Rattle.event_run.proofs.ends.holder_of.Goals as goal

pub returns : goal.returns
returns g c =
    let p = λ (t : ℕ). holding c.args.resource (task_answer c.args.kernel.now t) in
    first_is p c.args.tasks c.find.result (first_from_Range _ _ _ c.find.result (λ t. p t ≡ true) (λ t. p t ≡ false) c.find.ensures.ran (λ x q k. search (rules, tests)) (λ x q k. search (rules, tests)))
