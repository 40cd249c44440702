-- Every state of a run from a checked start stands
use Rattle.std.proofs.Common.{◌≡◌, ℕ, ◌<◌, false, not, ltb, List, sym, refl, subst, arith}
use Rattle.std.proofs.lemmas.Bool.{ltb-true, not-false, ne_eqb}
use Rattle.jobs.specs.declared.state.TaskState.{TaskState}
use Rattle.jobs.specs.declared.state.TaskState.TheVariants.{Idle, Ready, Waiting, Holding}
use Rattle.jobs.specs.Jobs.{pending, is_waiting, is_holding}
use Rattle.orders.specs.Services.{meaning, Lawful}
use Rattle.runs.specs.Histories.{Event}
use Rattle.runs.specs.Steps.{Kernel, State, Step, Fresh, Leads}
use Rattle.orders.proofs.Fresh.{nobody}
use Rattle.runs.proofs.Checked.{Fits, fit_parts}
use Rattle.runs.proofs.Served.{entered, passed}
use Rattle.runs.proofs.Agreement.{uses}
use Rattle.runs.proofs.Standing.{Stands, stands_start, stands_quiet, stands_request, stands_release, stands_tick}

-- a job that is not pending uses nothing
absent : (p : TaskState) → pending p ≡ false → (r : ℕ) → uses r p ≡ false
absent Idle e r = refl
absent Ready e r = refl
absent (Waiting q) e r = absurd (grind arith)
absent (Holding q) e r = absurd (grind arith)

-- nor does one that neither waits nor holds
pub free : (p : TaskState) → is_waiting p ≡ false → is_holding p ≡ false → (r : ℕ) → uses r p ≡ false
free Idle e f r = refl
free Ready e f r = refl
free (Waiting q) e f r = absurd (grind arith)
free (Holding q) e f r = absurd (grind arith)

module _ {S D : Type 0} (k : Kernel S D) (lawful : Lawful k.service) (start : State S) (fresh : Fresh k start) where
  -- the facts that check found right
  pub fits : Fits k.facts.cores k.facts.tasks k.facts.resources (meaning k.service start.order)
  fits = fit_parts _ _ _ _ fresh.fit

  -- nobody is queued at the start
  pub unqueued : (r t : ℕ) → k.service.queue start.order r t ≡ false
  unqueued = nobody _ (lawful.rules start.order) fits.empty

  -- the start stands
  begins : Stands k (k.service.reach start.order) start
  begins = subst (Stands k (k.service.reach start.order)) (sym fresh.blank) (stands_start k start.order (lawful.rules start.order) fits.wide unqueued)

  -- a task of the kernel is below 64
  below : (t : ℕ) → not (ltb t k.facts.tasks) ≡ false → t < 64
  below t e = let x = ltb-true _ _ (not-false _ e) in let y = fits.few_tasks in omega arith

  -- a step keeps that
  stands_on : (s z : State S) (e : Event D) → Stands k (k.service.reach start.order) s → Step k s e z → Stands k (k.service.reach start.order) z
  stands_on s z e a (Step.refuses f) = a
  stands_on s z e a (Step.keeps_out f ad) = a
  stands_on s z e a (Step.keeps_in f at ad) = a
  stands_on s z e a (Step.arrives {t = t} {d = d} f) =
      let known : not (ltb t k.facts.tasks) ≡ false = grind arith in let new : pending (s.jobs.state t) ≡ false = grind arith in
      stands_quiet k _ s a t Ready _ (absent _ new) (λ r. refl) (below t known) (λ i ne. rw (ne_eqb i t ne))
  stands_on s z e a (Step.requests {t = t} {r = r} {z = o} f ad) =
      let known : not (ltb t k.facts.tasks) ≡ false = grind arith in let waits_not : is_waiting (s.jobs.state t) ≡ false = grind arith in let holds_not : is_holding (s.jobs.state t) ≡ false = grind arith in
      stands_request k _ s a t r o (free _ waits_not holds_not) (below t known) (lawful.rules o) (entered _ _ r t _ (lawful.rules _) (lawful.admitting _ r t _ _ o ad))
  stands_on s z e a (Step.releases {t = t} {r = r} {n = n} {z = o} f at ad) =
      stands_release k _ s a t r n o at (lawful.rules o) (passed _ _ r n (lawful.passing _ r _ o ad))
  stands_on s z e a (Step.finishes {t = t} f) =
      let known : not (ltb t k.facts.tasks) ≡ false = grind arith in let waits_not : is_waiting (s.jobs.state t) ≡ false = grind arith in let holds_not : is_holding (s.jobs.state t) ≡ false = grind arith in
      stands_quiet k _ s a t Idle _ (free _ waits_not holds_not) (λ r. refl) (below t known) (λ i ne. refl)
  stands_on s z e a (Step.goes_on f) = stands_tick k _ s a (lawful.rules _)

  -- so does every state that the run leads to
  pub stands : {h : List (Event D)} {s : State S} → Leads k start h s → Stands k (k.service.reach start.order) s
  stands Leads.none = begins
  stands (Leads.more {s = s} {z = z} {e = e} l step) = stands_on s z e (stands l) step
