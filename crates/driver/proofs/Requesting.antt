-- what an accepted request leaves of its task
use Rattle.std.proofs.Common.{◌≡◌, ℕ, suc, true, false, cond, ◌||◌, eqb, ltb, Some, None, Option, sym, refl, subst, arith}
use Rattle.std.proofs.lemmas.Bool.{eq-eqb, and_from}
use Rattle.jobs.specs.declared.state.TaskState.TheVariants.{Waiting, Holding}
use Rattle.jobs.specs.Jobs.{is_waiting, is_holding}
use Rattle.runs.specs.Histories.{Event}
use Rattle.runs.specs.Steps.{Kernel, State, Step, granted}
use Rattle.driver.specs.Tokens.{is_on}

-- a task that was admitted waits or holds
uses_some : (h : Option ℕ) (t r : ℕ) → (is_waiting (granted h t r) || is_holding (granted h t r)) ≡ true
uses_some None t r = refl
uses_some (Some u) t r = elim (eqb u t) as (λ b. (is_waiting (cond b (Holding r) (Waiting r)) || is_holding (cond b (Holding r) (Waiting r))) ≡ true) [ true ↦ refl | false ↦ refl ]

module _ {S D : Type 0} (k : Kernel S D) where
  pub record Asked (s : State S) (t r c : ℕ) (z : State S) : Type 0 where
    pub checked : k.facts.checked ≡ true
    pub known : ltb t k.facts.tasks ≡ true
    pub serial : z.serial t ≡ suc (s.serial t)
    pub told : z.told t ≡ c
    pub uses : (is_waiting (z.jobs.state t) || is_holding (z.jobs.state t)) ≡ true

  pub asked_by : (s z : State S) (e : Event D) (t r c : ℕ) → Step k s e z → e ≡ Event.requested t r c → Asked s t r c z
  asked_by s z e t r c (Step.refuses f) q = absurd (grind arith)
  asked_by s z e t r c (Step.keeps_out f ad) q = absurd (grind arith)
  asked_by s z e t r c (Step.keeps_in f at pa) q = absurd (grind arith)
  asked_by s z e t r c (Step.arrives f) q = absurd (grind arith)
  asked_by s z e t r c (Step.requests {t = u} {r = p} {z = o} f ad) q =
      let x : u ≡ t = cc in
      let y : p ≡ r = cc in
      let w : k.service.count o p u ≡ c = cc in
      let here : eqb t u ≡ true = eq-eqb t u (sym x) in
      record { checked = grind arith; known = subst (λ (i : ℕ). ltb i k.facts.tasks ≡ true) x (grind arith); serial = rw (here, x); told = rw here w; uses = rw here (uses_some (k.service.holder o p) u p) }
  asked_by s z e t r c (Step.releases f at pa) q = absurd (grind arith)
  asked_by s z e t r c (Step.finishes f) q = absurd (grind arith)
  asked_by s z e t r c (Step.goes_on f) q = absurd (grind arith)

  -- the request is on
  pub asked_on : (s z : State S) (t r c : ℕ) → Asked s t r c z → is_on k.facts z t (suc (s.serial t)) ≡ true
  asked_on s z t r c a = and_from _ _ a.known (and_from _ _ (eq-eqb _ _ a.serial) a.uses)
