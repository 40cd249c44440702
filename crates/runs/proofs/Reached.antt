-- What a state that a run from a checked start leads to may rely on
use Rattle.std.proofs.Common.{ℕ, ◌<◌, List, Some, Ok, sym}
use Rattle.jobs.specs.Jobs.{Formed}
use Rattle.orders.specs.declared.order.Order.{Ghosts}
use Rattle.orders.specs.Services.{meaning, Lawful}
use Rattle.orders.proofs.Answered.{pass_ok}
use Rattle.runs.specs.Histories.{Event}
use Rattle.runs.specs.Steps.{Kernel, State, Fresh, Leads}
use Rattle.runs.proofs.Agreement.{formed}
use Rattle.runs.proofs.Induction.{stands}

-- the next holder that an order names is below 64
pub next_inside : {S : Type 0} (o : Ghosts S) → Lawful o → (s z : S) (r u : ℕ) → o.passed s r (Ok (Some u)) z → u < 64
next_inside o lawful s z r u p =
    let rules = lawful.rules z in
    let next = (pass_ok (meaning o s) r _ _ (sym (lawful.passing s r _ z p).told)).2 in
    (rules.within r u (rules.held r u next)).1

module _ {S D : Type 0} (k : Kernel S D) (lawful : Lawful k.service) (start : State S) (fresh : Fresh k start) {h : List (Event D)} {s : State S} (l : Leads k start h s) where
  -- no job is above 63, each resource waited for has a holder, and none has two
  pub formed_jobs : Formed s.jobs
  formed_jobs = formed s.jobs _ (stands k lawful start fresh l).agrees (lawful.rules s.order)
