-- What a step is, by its call, where the call is not refused
use Rattle.std.proofs.Common.{◌≡◌, ℕ, Some, None, Ok, Err, Option, sym, refl, ◌∙◌, subst, arith}
use Rattle.orders.specs.declared.refusal.OrderRefusal.{OrderRefusal}
use Rattle.jobs.specs.declared.state.TaskState.TheVariants.{Holding}
use Rattle.runs.specs.declared.call.Call.{Call}
use Rattle.runs.specs.declared.call.Call.TheVariants.{Arrive, Request, Release, Tick}
use Rattle.runs.specs.declared.refusal.Refusal.{Refusal}
use Rattle.runs.specs.Histories.{Event}
use Rattle.runs.specs.Steps.{Kernel, State, Step, refusal, arrive_state, request_state, release_state, tick_state}
use Rattle.longest.specs.Longest.{call_of}

some_none : (e : Refusal) → Some e ≡ None → ⊥
some_none e q = grind arith

module _ {S D : Type 0} (k : Kernel S D) where
  -- a call that is not refused is not refused under another name
  unrefused : (s : State S) (c b : Call D) (e : Refusal) → refusal k s c ≡ Some e → c ≡ b → refusal k s b ≡ None → ⊥
  unrefused s c b e f q ok = some_none e (sym (subst (λ x. refusal k s x ≡ Some e) q f) ∙ ok)

  -- a task arrives
  pub arrive_inv : (s z : State S) (e : Event D) (t : ℕ) (d : D) → Step k s e z → call_of e ≡ Arrive t d → refusal k s (Arrive t d) ≡ None →
      (e ≡ Event.arrived t d) × (z ≡ arrive_state k s t d)
  arrive_inv s z e t d (Step.refuses {c = c} {e = n} f) q ok = absurd (unrefused s c _ n f q ok)
  arrive_inv s z e t d (Step.keeps_out f ad) q ok = absurd (grind arith)
  arrive_inv s z e t d (Step.keeps_in f at pa) q ok = absurd (grind arith)
  arrive_inv s z e t d (Step.arrives {t = u} {d = b} f) q ok = let x : u ≡ t = cc in let y : b ≡ d = cc in rw (x, y) (refl, refl)
  arrive_inv s z e t d (Step.requests f ad) q ok = absurd (grind arith)
  arrive_inv s z e t d (Step.releases f at pa) q ok = absurd (grind arith)
  arrive_inv s z e t d (Step.finishes f) q ok = absurd (grind arith)
  arrive_inv s z e t d (Step.goes_on f) q ok = absurd (grind arith)

  -- there is a tick
  pub tick_inv : (s z : State S) (e : Event D) → Step k s e z → call_of e ≡ Tick → refusal k s Tick ≡ None → (e ≡ Event.ticked) × (z ≡ tick_state k s)
  tick_inv s z e (Step.refuses {c = c} {e = n} f) q ok = absurd (unrefused s c _ n f q ok)
  tick_inv s z e (Step.keeps_out f ad) q ok = absurd (grind arith)
  tick_inv s z e (Step.keeps_in f at pa) q ok = absurd (grind arith)
  tick_inv s z e (Step.arrives f) q ok = absurd (grind arith)
  tick_inv s z e (Step.requests f ad) q ok = absurd (grind arith)
  tick_inv s z e (Step.releases f at pa) q ok = absurd (grind arith)
  tick_inv s z e (Step.finishes f) q ok = absurd (grind arith)
  tick_inv s z e (Step.goes_on f) q ok = (refl, refl)

  -- the order took the task t in for r
  pub record Taken (s : State S) (t r : ℕ) (e : Event D) (z : State S) : Type 0 where
    pub next : S
    pub joins : k.service.admitted s.order r t (s.jobs.code t) (Ok tt) next
    pub event : e ≡ Event.requested t r (k.service.count next r t)
    pub state : z ≡ request_state k s t r next

  -- a task requests what the order does not refuse
  pub request_inv : (s z : State S) (e : Event D) (t r : ℕ) → Step k s e z → call_of e ≡ Request t r → refusal k s (Request t r) ≡ None →
      ((w : OrderRefusal) (o : S) → k.service.admitted s.order r t (s.jobs.code t) (Err w) o → ⊥) → Taken s t r e z
  request_inv s z e t r (Step.refuses {c = c} {e = n} f) q ok fine = absurd (unrefused s c _ n f q ok)
  request_inv s z e t r (Step.keeps_out {t = u} {r = p} {word = w} {z = o} f ad) q ok fine =
      let x : u ≡ t = cc in let y : p ≡ r = cc in absurd (fine w o (rw (x, y) at ad))
  request_inv s z e t r (Step.keeps_in f at pa) q ok fine = absurd (grind arith)
  request_inv s z e t r (Step.arrives f) q ok fine = absurd (grind arith)
  request_inv s z e t r (Step.requests {t = u} {r = p} {z = o} f ad) q ok fine =
      let x : u ≡ t = cc in let y : p ≡ r = cc in record { next = o; joins = rw (x, y) at ad; event = rw (x, y); state = rw (x, y) }
  request_inv s z e t r (Step.releases f at pa) q ok fine = absurd (grind arith)
  request_inv s z e t r (Step.finishes f) q ok fine = absurd (grind arith)
  request_inv s z e t r (Step.goes_on f) q ok fine = absurd (grind arith)

  -- the order passed r on
  pub record Handed (s : State S) (t r : ℕ) (e : Event D) (z : State S) : Type 0 where
    pub heir : Option ℕ
    pub next : S
    pub leaves : k.service.passed s.order r (Ok heir) next
    pub event : e ≡ Event.released t heir
    pub state : z ≡ release_state s t r heir next

  -- a task holds one resource
  one_held : (s : State S) (p r u t : ℕ) → s.jobs.state u ≡ Holding p → s.jobs.state t ≡ Holding r → u ≡ t → p ≡ r
  one_held s p r u t a b c = cc

  -- a task releases what the order does not refuse to pass on
  pub release_inv : (s z : State S) (e : Event D) (t r : ℕ) → Step k s e z → call_of e ≡ Release t → refusal k s (Release t) ≡ None → s.jobs.state t ≡ Holding r →
      ((w : OrderRefusal) (o : S) → k.service.passed s.order r (Err w) o → ⊥) → Handed s t r e z
  release_inv s z e t r (Step.refuses {c = c} {e = n} f) q ok has fine = absurd (unrefused s c _ n f q ok)
  release_inv s z e t r (Step.keeps_out f ad) q ok has fine = absurd (grind arith)
  release_inv s z e t r (Step.keeps_in {t = u} {r = p} {word = w} {z = o} f at pa) q ok has fine =
      let x : u ≡ t = cc in let y = one_held s p r u t at has x in absurd (fine w o (rw y at pa))
  release_inv s z e t r (Step.arrives f) q ok has fine = absurd (grind arith)
  release_inv s z e t r (Step.requests f ad) q ok has fine = absurd (grind arith)
  release_inv s z e t r (Step.releases {t = u} {r = p} {n = n} {z = o} f at pa) q ok has fine =
      let x : u ≡ t = cc in let y = one_held s p r u t at has x in record { heir = n; next = o; leaves = rw y at pa; event = rw x; state = rw (x, y) }
  release_inv s z e t r (Step.finishes f) q ok has fine = absurd (grind arith)
  release_inv s z e t r (Step.goes_on f) q ok has fine = absurd (grind arith)
