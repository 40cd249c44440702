-- a ticket of the request that is on names what its task last asked for
use Rattle.std.proofs.Common.{◌≡◌, ℕ, suc, ◌≤◌, true, eqb, List, [], ◌∷◌, sym, refl, ap, ◌∙◌, inl, inr, arith}
use Rattle.std.proofs.lemmas.Bool.{cases_eq, eq-eqb, ne_eqb, eqb-true, and_parts}
use Rattle.jobs.specs.declared.state.TaskState.{TaskState}
use Rattle.jobs.specs.declared.state.TaskState.TheVariants.{Idle, Ready, Waiting, Holding}
use Rattle.jobs.specs.Jobs.{Jobs, is_holding}
use Rattle.orders.specs.Services.{Lawful}
use Rattle.runs.specs.Histories.{Event, asked, serials, jobs_after}
use Rattle.runs.specs.Steps.{Kernel, State, Fresh, Leads}
use Rattle.runs.specs.Guarantee.{Guarantee}
use Rattle.runs.proofs.Agreement.{uses}
use Rattle.runs.proofs.Guaranteed.{guaranteed}
use Rattle.driver.specs.Tokens.{is_on}
use Rattle.driver.specs.Naming.{Gave}
use Rattle.driver.proofs.Using.{suits}

-- a serial that was given is not above the last one
gave_below : {D : Type 0} (h : List (Event D)) (t n r : ℕ) → Gave h t n r → n ≤ serials h t
gave_below [] t n r g = absurd g
gave_below (Event.refused c e ∷ h) t n r g = gave_below h t n r g
gave_below (Event.arrived u d ∷ h) t n r g = gave_below h t n r g
gave_below (Event.requested u q c ∷ h) t n r (inl g) = let here : eqb t u ≡ true = eq-eqb t u (sym g.0) in let y : serials h u ≡ serials h t = ap (serials h) g.0 in rw here (omega (arith, g.2, y))
gave_below (Event.requested u q c ∷ h) t n r (inr g) = elim (cases_eq t u) [
  | inl x ↦ rw (eq-eqb t u x) (let l = gave_below h t n r g in let y : serials h u ≡ serials h t = ap (serials h) (sym x) in omega (arith, l, y))
  | inr x ↦ rw (ne_eqb t u x) (gave_below h t n r g)
]
gave_below (Event.released u i ∷ h) t n r g = gave_below h t n r g
gave_below (Event.finished u ∷ h) t n r g = gave_below h t n r g
gave_below (Event.ticked ∷ h) t n r g = gave_below h t n r g

-- the last serial of a task stands for what it last asked for
gave_last : {D : Type 0} (h : List (Event D)) (t n r : ℕ) → Gave h t n r → serials h t ≡ n → asked h t ≡ r
gave_last [] t n r g e = absurd g
gave_last (Event.refused c x ∷ h) t n r g e = gave_last h t n r g e
gave_last (Event.arrived u d ∷ h) t n r g e = gave_last h t n r g e
gave_last (Event.requested u q c ∷ h) t n r (inl g) e = let here : eqb t u ≡ true = eq-eqb t u (sym g.0) in rw here g.1
gave_last (Event.requested u q c ∷ h) t n r (inr g) e = elim (cases_eq t u) [
  | inl x ↦
      let l = gave_below h t n r g in
      let y : serials h u ≡ serials h t = ap (serials h) (sym x) in
      let more : suc (serials h u) ≡ n = rw (eq-eqb t u x) at e in
      absurd (omega (arith, l, y, more))
  | inr x ↦ rw (ne_eqb t u x) (gave_last h t n r g (rw (ne_eqb t u x) at e))
]
gave_last (Event.released u i ∷ h) t n r g e = gave_last h t n r g e
gave_last (Event.finished u ∷ h) t n r g e = gave_last h t n r g e
gave_last (Event.ticked ∷ h) t n r g e = gave_last h t n r g e

-- a holding job holds what its task asked for
held_resource : (p : TaskState) (r : ℕ) → is_holding p ≡ true → ((q : ℕ) → uses q p ≡ true → r ≡ q) → p ≡ Holding r
held_resource Idle r e f = absurd (grind arith)
held_resource Ready r e f = absurd (grind arith)
held_resource (Waiting q) r e f = absurd (grind arith)
held_resource (Holding q) r e f = ap Holding (sym (f q (eq-eqb q q refl)))

module _ {S D : Type 0} (k : Kernel S D) (lawful : Lawful k.service) (start : State S) (fresh : Fresh k start) {h : List (Event D)} {s : State S} (l : Leads k start h s) where
  kept : Guarantee k start h s
  kept = guaranteed k lawful start fresh l

  pub names : (t n r : ℕ) → Gave h t n r → is_on k.facts s t n ≡ true → is_holding (s.jobs.state t) ≡ true → (jobs_after k.key h).state t ≡ Holding r
  names t n r g on holds =
      let last : s.serial t ≡ n = eqb-true _ _ (and_parts _ _ (and_parts _ _ on).1).0 in
      let resource : s.resource t ≡ r = ap (λ (f : ℕ → ℕ). f t) kept.resource ∙ gave_last h t n r g (sym (ap (λ (f : ℕ → ℕ). f t) kept.serial) ∙ last) in
      sym (ap (λ (j : Jobs). j.state t) kept.jobs) ∙ held_resource (s.jobs.state t) (s.resource t) holds (suits k lawful start fresh l t) ∙ ap Holding resource
