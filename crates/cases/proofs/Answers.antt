-- What a call of the kernel answers, from its step
use Rattle.std.proofs.Common.{◌≡◌, ℕ, Some, None, Ok, Err, Option, Result, refl, ap, ◌∙◌, arith}
use Rattle.orders.specs.declared.refusal.OrderRefusal.{OrderRefusal}
use Rattle.runs.specs.declared.call.Call.TheVariants.{Arrive, Request, Release}
use Rattle.runs.specs.declared.refusal.Refusal.{Refusal}
use Rattle.runs.specs.Histories.{Event}
use Rattle.runs.specs.Steps.{Kernel, State, Step, refusal, arrive_state, request_state}
use Rattle.longest.specs.Longest.{call_of}
use Rattle.longest.proofs.Inversions.{arrive_inv, request_inv}
use Rattle.kernel.proofs.Running.{noted_call}
use Rattle.kernel.specs.Views.{noted, done, counted, handed}

-- the answer of an arrival, of a request and of a release, by the event that it makes
arrive_ok : {D : Type 0} (t : ℕ) (d : D) (a : Result (Unit {0}) Refusal) → noted (Arrive t d) (done a) ≡ Event.arrived t d → a ≡ Ok tt
arrive_ok t d (Ok u) q = refl
arrive_ok t d (Err e) q = absurd (grind arith)

request_ok : {D : Type 0} (t r n : ℕ) (a : Result ℕ Refusal) → noted {D = D} (Request t r) (counted a) ≡ Event.requested t r n → a ≡ Ok n
request_ok t r n (Ok k) q = let x : k ≡ n = cc in ap Ok x
request_ok t r n (Err e) q = absurd (grind arith)

release_err : {D : Type 0} (t : ℕ) (w : Refusal) (a : Result (Option ℕ) Refusal) → noted {D = D} (Release t) (handed a) ≡ Event.refused (Release t) w → a ≡ Err w
release_err t w (Ok n) q = absurd (grind arith)
release_err t w (Err e) q = let x : e ≡ w = cc in ap Err x

-- a call is refused in one way, or in none
clash : (w : Refusal) (o : Option Refusal) → o ≡ None → o ≡ Some w → ⊥
clash w o a b = grind arith

same_refusal : (e w : Refusal) (o : Option Refusal) → o ≡ Some e → o ≡ Some w → e ≡ w
same_refusal e w o a b = cc

-- a call that is refused makes that refusal
refused_inv : {S D : Type 0} (k : Kernel S D) (s z : State S) (e : Event D) (w : Refusal) → Step k s e z → refusal k s (call_of e) ≡ Some w → e ≡ Event.refused (call_of e) w
refused_inv k s z e w (Step.refuses {c = c} {e = n} f) q = ap (Event.refused c) (same_refusal n w _ f q)
refused_inv k s z e w (Step.keeps_out f ad) q = absurd (clash w _ f q)
refused_inv k s z e w (Step.keeps_in f at pa) q = absurd (clash w _ f q)
refused_inv k s z e w (Step.arrives f) q = absurd (clash w _ f q)
refused_inv k s z e w (Step.requests f ad) q = absurd (clash w _ f q)
refused_inv k s z e w (Step.releases f at pa) q = absurd (clash w _ f q)
refused_inv k s z e w (Step.finishes f) q = absurd (clash w _ f q)
refused_inv k s z e w (Step.goes_on f) q = absurd (clash w _ f q)

module _ {S D : Type 0} (k : Kernel S D) (s z : State S) where
  -- an arrival that is not refused
  pub arrives : (t : ℕ) (d : D) (a : Result (Unit {0}) Refusal) → Step k s (noted (Arrive t d) (done a)) z → refusal k s (Arrive t d) ≡ None → (a ≡ Ok tt) × (z ≡ arrive_state k s t d)
  arrives t d a step ok = let p = arrive_inv k s z _ t d step (noted_call (Arrive t d) (done a)) ok in (arrive_ok t d a p.0, p.1)

  -- the order that a request leaves, with the count that it tells
  pub record Told (t r : ℕ) (a : Result ℕ Refusal) : Type 0 where
    pub next : S
    pub joins : k.service.admitted s.order r t (s.jobs.code t) (Ok tt) next
    pub answer : a ≡ Ok (k.service.count next r t)
    pub state : z ≡ request_state k s t r next

  -- a request that neither the kernel nor the order refuses
  pub requests : (t r : ℕ) (a : Result ℕ Refusal) → Step k s (noted (Request t r) (counted a)) z → refusal k s (Request t r) ≡ None →
      ((w : OrderRefusal) (o : S) → k.service.admitted s.order r t (s.jobs.code t) (Err w) o → ⊥) → Told t r a
  requests t r a step ok fine =
      let p = request_inv k s z _ t r step (noted_call (Request t r) (counted a)) ok fine in
      record { next = p.next; joins = p.joins; answer = request_ok t r _ a p.event; state = p.state }

  -- a release that the kernel refuses
  pub release_refused : (t : ℕ) (w : Refusal) (a : Result (Option ℕ) Refusal) → Step k s (noted (Release t) (handed a)) z → refusal k s (Release t) ≡ Some w → a ≡ Err w
  release_refused t w a step f =
      let c = noted_call {D = D} (Release t) (handed a) in
      release_err t w a (refused_inv k s z _ w step (rw c f) ∙ ap (λ x. Event.refused x w) c)
