-- a job that waits or holds does so for what its task last asked for
use Rattle.std.proofs.Common.{◌≡◌, ℕ, true, false, cond, eqb, List, Some, None, Option, sym, refl, ap, ◌∙◌, subst, inl, inr, arith}
use Rattle.std.proofs.lemmas.Bool.{cases_eq, eq-eqb, ne_eqb, eqb-true, both_ways}
use Rattle.std.proofs.lemmas.Bool.Decides.{nat_tests}
use Rattle.jobs.specs.declared.state.TaskState.{TaskState}
use Rattle.jobs.specs.declared.state.TaskState.TheVariants.{Idle, Ready, Waiting, Holding}
use Rattle.orders.specs.Services.{meaning, Lawful}
use Rattle.runs.specs.Histories.{Event, put, hand}
use Rattle.runs.specs.Steps.{Kernel, State, Step, Fresh, Leads, granted}
use Rattle.runs.proofs.Served.{Passed, passed}
use Rattle.runs.proofs.Agreement.{Agrees, uses}
use Rattle.runs.proofs.Induction.{stands}

uses_waiting : (r q : ℕ) → uses q (Waiting r) ≡ true → r ≡ q
uses_waiting r q e = grind (arith, nat_tests)

-- what a job that was admitted for r uses is r
uses_granted : (h : Option ℕ) (t r q : ℕ) → uses q (granted h t r) ≡ true → r ≡ q
uses_granted None t r q e = uses_waiting r q e
uses_granted (Some u) t r q e =
    elim (eqb u t) as (λ b. uses q (cond b (Holding r) (Waiting r)) ≡ true → r ≡ q) [ true ↦ λ x. eqb-true r q x | false ↦ λ x. uses_waiting r q x ] e

module _ {S D : Type 0} (k : Kernel S D) (lawful : Lawful k.service) (start : State S) (fresh : Fresh k start) where
  -- each job that waits or holds does so for its task's resource
  abbrev Suits : State S → Type 0
  Suits s = (t r : ℕ) → uses r (s.jobs.state t) ≡ true → s.resource t ≡ r

  -- where one job changes to a state that uses nothing
  suits_quiet : (state : ℕ → TaskState) (resource : ℕ → ℕ) (u : ℕ) (p : TaskState) → ((r : ℕ) → uses r p ≡ false) → ((t r : ℕ) → uses r (state t) ≡ true → resource t ≡ r) → (t r : ℕ) → uses r (put state u p t) ≡ true → resource t ≡ r
  suits_quiet state resource u p none a t r e = elim (cases_eq t u) [
    | inl x ↦ absurd (both_ways (uses r p) (none r) (rw (eq-eqb t u x) at e))
    | inr x ↦ a t r (rw (ne_eqb t u x) at e)
  ]

  -- the next holder of r used it before
  heir : (s : State S) (t r u : ℕ) (z : S) → Agrees s.jobs (meaning k.service s.order) → s.jobs.state t ≡ Holding r → Passed (meaning k.service s.order) r (Some u) (meaning k.service z) → uses r (s.jobs.state u) ≡ true
  heir s t r u z a at pa =
      let q = (lawful.rules z).held r u pa.then in
      let h = pa.held in
      let other : (meaning k.service s.order).holder r ≡ Some u → ⊥ = λ e. let same : h.0 ≡ u = cc in both_ways ((meaning k.service z).queued r u) (rw same at h.2) q in
      sym (a.queues r u) ∙ (sym (pa.rest u other) ∙ q)

  suits_release : (s : State S) (t r : ℕ) (n : Option ℕ) → Suits s → ((u : ℕ) → n ≡ Some u → uses r (s.jobs.state u) ≡ true) → (i q : ℕ) → uses q (hand (put s.jobs.state t Ready) n (Holding r) i) ≡ true → s.resource i ≡ q
  suits_release s t r None a next i q e = suits_quiet s.jobs.state s.resource t Ready (λ _. refl) a i q e
  suits_release s t r (Some u) a next i q e = elim (cases_eq i u) [
    | inl x ↦ let same : r ≡ q = eqb-true r q (rw (eq-eqb i u x) at e) in ap s.resource x ∙ a u r (next u refl) ∙ same
    | inr x ↦ suits_quiet s.jobs.state s.resource t Ready (λ _. refl) a i q (rw (ne_eqb i u x) at e)
  ]

  suits_on : (s z : State S) (e : Event D) → Agrees s.jobs (meaning k.service s.order) → Suits s → Step k s e z → Suits z
  suits_on s z e g a (Step.refuses f) = a
  suits_on s z e g a (Step.keeps_out f ad) = a
  suits_on s z e g a (Step.keeps_in f at ad) = a
  suits_on s z e g a (Step.arrives {t = u} f) = suits_quiet s.jobs.state s.resource u Ready (λ _. refl) a
  suits_on s z e g a (Step.requests {t = u} {r = p} {z = o} f ad) = λ t r w. elim (cases_eq t u) [
    | inl x ↦ rw (eq-eqb t u x) (uses_granted (k.service.holder o p) u p r (rw (eq-eqb t u x) at w))
    | inr x ↦ rw (ne_eqb t u x) (a t r (rw (ne_eqb t u x) at w))
  ]
  suits_on s z e g a (Step.releases {t = t} {r = r} {n = n} {z = o} f at ad) =
      suits_release s t r n a (λ u is. heir s t r u o g at (subst (λ (m : Option ℕ). Passed (meaning k.service s.order) r m (meaning k.service o)) is (passed _ _ r n (lawful.passing _ r _ o ad))))
  suits_on s z e g a (Step.finishes {t = u} f) = suits_quiet s.jobs.state s.resource u Idle (λ _. refl) a
  suits_on s z e g a (Step.goes_on f) = a

  pub suits : {h : List (Event D)} {s : State S} → Leads k start h s → Suits s
  suits Leads.none = subst Suits (sym fresh.blank) (λ t r e. absurd (grind arith))
  suits (Leads.more {s = s} {z = z} {e = e} l step) = suits_on s z e (stands k lawful start fresh l).agrees (suits l) step
