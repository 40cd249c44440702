-- What every state of a run keeps
use Rattle.std.proofs.Common.{◌≡◌, ℕ, suc, ◌*◌, ◌<◌, ◌≤◌, max, Bool, true, false, cond, ◌≢◌, ◌⊎◌, Some, None, Option, refl, ◌∙◌, inl, inr, mul-le-mul_left, arith}
use Rattle.std.proofs.lemmas.Bool.{cases_Bool, cases_eq, both_ways, eq-eqb, ne_eqb}
use Rattle.std.proofs.lemmas.Bool.Decides.{nat_tests}
use Rattle.jobs.specs.declared.state.TaskState.{TaskState}
use Rattle.jobs.specs.declared.state.TaskState.TheVariants.{Ready, Waiting, Holding}
use Rattle.jobs.specs.Jobs.{blocked, busy}
use Rattle.orders.specs.Orders.{Meaning, Rules}
use Rattle.orders.specs.Services.{meaning}
use Rattle.runs.specs.Histories.{put, hand}
use Rattle.runs.specs.Steps.{Kernel, State, granted, request_state, release_state, tick_state, at_start}
use Rattle.runs.proofs.Served.{Entered, Passed}
use Rattle.runs.proofs.Agreement.{Agrees, uses, quiet, admits, passes}
use Rattle.runs.proofs.Bounds.{Owed, owed_first, owed_all, owed_pass, owed_tick, owed_blocked, blocked_waits, covered_free}

-- what a state of a run keeps, where the reach of the order was so at the start
pub record Stands {S D : Type 0} (k : Kernel S D) (reach : ℕ) (s : State S) : Type 0 where
  pub width : k.service.width s.order ≡ k.facts.cores
  pub far : k.service.reach s.order ≡ reach
  pub agrees : Agrees s.jobs (meaning k.service s.order)
  -- a waiting job waits for what it asked for last
  pub asked : (t r : ℕ) → s.jobs.state t ≡ Waiting r → s.resource t ≡ r
  pub owed : (t r : ℕ) → s.jobs.state t ≡ Waiting r → Owed (s.lost t) (s.told t) (s.longest r) (s.used r) (k.service.count s.order r t) (k.service.covered s.order r t)
  -- whether t waits or not, its blocked ticks are at most the count told times the longest hold
  pub settled : (t : ℕ) → s.lost t ≤ s.told t * s.longest (s.resource t)
  pub told : (t : ℕ) → s.told t ≤ reach
  -- the present hold is no longer than the longest
  pub used : (r : ℕ) → s.used r ≤ s.longest r

-- a start where nobody is queued
pub stands_start : {S D : Type 0} (k : Kernel S D) (o : S) → Rules (meaning k.service o) → k.service.width o ≡ k.facts.cores → ((r t : ℕ) → k.service.queue o r t ≡ false) → Stands k (k.service.reach o) (at_start o)
stands_start k o rules wide none = record {
  width = wide;
  far = refl;
  agrees = record {
    inside = λ t e. absurd (grind arith);
    queues = λ r t. none r t;
    holds = λ r t e. absurd (both_ways _ (none r t) (rules.held r t e));
    held = λ r t e. absurd (grind arith);
    codes = λ r t e. absurd (both_ways _ (none r t) e);
  };
  asked = λ t r e. absurd (grind arith);
  owed = λ t r e. absurd (grind arith);
  settled = λ t. omega arith;
  told = λ t. omega arith;
  used = λ r. omega arith;
}

module _ {S D : Type 0} (k : Kernel S D) (reach : ℕ) (s : State S) (a : Stands k reach s) where
  abbrev m : ℕ
  m = k.facts.cores

  abbrev v : Meaning
  v = meaning k.service s.order

  -- a job that waits is queued
  waits_queued : (t r : ℕ) → s.jobs.state t ≡ Waiting r → v.queued r t ≡ true
  waits_queued t r e = a.agrees.queues r t ∙ rw e (grind (arith, nat_tests))

  -- and is not the holder
  waits_later : (t r : ℕ) → s.jobs.state t ≡ Waiting r → v.holder r ≡ Some t → ⊥
  waits_later t r e f = let x = a.agrees.holds r t f in let z : Waiting r ≡ Holding r = cc in grind arith

  -- a job that uses nothing goes on using nothing
  pub stands_quiet : (t : ℕ) (p : TaskState) (code : ℕ → ℕ) → ((r : ℕ) → uses r (s.jobs.state t) ≡ false) → ((r : ℕ) → uses r p ≡ false) →
      t < 64 → ((i : ℕ) → i ≢ t → code i ≡ s.jobs.code i) → Stands k reach (record {
        now = s.now;
        jobs = record { state = put s.jobs.state t p; code = code };
        resource = s.resource;
        serial = s.serial;
        told = s.told;
        lost = s.lost;
        used = s.used;
        longest = s.longest;
        order = s.order;
      })
  stands_quiet t p code was is lt same = record {
    width = a.width;
    far = a.far;
    agrees = quiet s.jobs v t p code a.agrees was is lt same;
    asked = λ i r e. a.asked i r (still i r e);
    owed = λ i r e. a.owed i r (still i r e);
    settled = a.settled;
    told = a.told;
    used = a.used;
  }
    where
      still : (i r : ℕ) → put s.jobs.state t p i ≡ Waiting r → s.jobs.state i ≡ Waiting r
      still i r e = let z = is r in grind (arith, nat_tests)

  -- t was admitted for r, and holds it or waits
  pub stands_request : (t r : ℕ) (z : S) → ((q : ℕ) → uses q (s.jobs.state t) ≡ false) → t < 64 → Rules (meaning k.service z) → Entered v r t (s.jobs.code t) (meaning k.service z) →
      Stands k reach (request_state k s t r z)
  stands_request t r z was lt rules en = record {
    width = en.fixed.width ∙ a.width;
    far = en.fixed.reach ∙ a.far;
    agrees = admits s.jobs v w t r a.agrees was lt en;
    asked = λ i q e. asked i q e (cases_eq i t);
    owed = λ i q e. owed i q e (cases_eq i t);
    settled = λ i. settled i (cases_eq i t);
    told = λ i. told i (cases_eq i t);
    used = a.used;
  }
    where
      w : Meaning
      w = meaning k.service z

      state' : ℕ → TaskState
      state' = put s.jobs.state t (granted (w.holder r) t r)

      mine : (i q : ℕ) → state' i ≡ Waiting q → i ≡ t → q ≡ r
      mine i q e x = grind (arith, nat_tests)

      still : (i q : ℕ) → state' i ≡ Waiting q → i ≢ t → s.jobs.state i ≡ Waiting q
      still i q e x = grind (arith, nat_tests)

      asked : (i q : ℕ) → state' i ≡ Waiting q → (i ≡ t) ⊎ (i ≡ t → ⊥) → put s.resource t r i ≡ q
      asked i q e (inl x) = let y = mine i q e x in grind (arith, nat_tests)
      asked i q e (inr x) = let y = a.asked i q (still i q e x) in grind (arith, nat_tests)

      owed : (i q : ℕ) → state' i ≡ Waiting q → (i ≡ t) ⊎ (i ≡ t → ⊥) →
          Owed (put s.lost t 0 i) (put s.told t (w.count r t) i) (s.longest q) (s.used q) (w.count q i) (w.covered q i)
      owed i q e (inl x) = rw (eq-eqb i t x, mine i q e x, x) (owed_first (w.count r t) (s.longest r) (s.used r) (w.covered r t))
      owed i q e (inr x) = let was = still i q e x in let b = en.others q i (λ _ f. x f) in let n = waits_queued i q was in
          rw (ne_eqb i t x, b.count n, b.covered n) (a.owed i q was)

      settled : (i : ℕ) → (i ≡ t) ⊎ (i ≡ t → ⊥) → put s.lost t 0 i ≤ put s.told t (w.count r t) i * s.longest (put s.resource t r i)
      settled i (inl x) = rw (eq-eqb i t x) (omega arith)
      settled i (inr x) = rw (ne_eqb i t x) (a.settled i)

      told : (i : ℕ) → (i ≡ t) ⊎ (i ≡ t → ⊥) → put s.told t (w.count r t) i ≤ reach
      told i (inl x) = let y = rules.bounded r t en.enters in let f = en.fixed.reach in let g = a.far in rw (eq-eqb i t x) (omega arith)
      told i (inr x) = rw (ne_eqb i t x) (a.told i)

  -- t released r to n
  pub stands_release : (t r : ℕ) (n : Option ℕ) (z : S) → s.jobs.state t ≡ Holding r → Rules (meaning k.service z) → Passed v r n (meaning k.service z) →
      Stands k reach (release_state s t r n z)
  stands_release t r n z at rules pa = record {
    width = pa.fixed.width ∙ a.width;
    far = pa.fixed.reach ∙ a.far;
    agrees = new;
    asked = λ i q e. a.asked i q (still n i q e);
    owed = λ i q e. owed i q (still n i q e) (new.queues q i ∙ rw e (grind (arith, nat_tests))) (cases_eq q r);
    settled = a.settled;
    told = a.told;
    used = λ q. let x = a.used q in elim (cases_eq q r) [ inl e ↦ rw (eq-eqb q r e) (omega arith) | inr e ↦ rw (ne_eqb q r e) x ];
  }
    where
      w : Meaning
      w = meaning k.service z

      new : Agrees (record { state = hand (put s.jobs.state t Ready) n (Holding r); code = s.jobs.code }) w
      new = passes s.jobs v w t r n a.agrees rules at pa

      still : (n : Option ℕ) (i q : ℕ) → hand (put s.jobs.state t Ready) n (Holding r) i ≡ Waiting q → s.jobs.state i ≡ Waiting q
      still None i q e = grind (arith, nat_tests)
      still (Some u) i q e = grind (arith, nat_tests)

      owed : (i q : ℕ) → s.jobs.state i ≡ Waiting q → w.queued q i ≡ true → (q ≡ r) ⊎ (q ≡ r → ⊥) → Owed (s.lost i) (s.told i) (s.longest q) (put s.used r 0 q) (w.count q i) (w.covered q i)
      owed i q e g (inl x) = let g' : w.queued r i ≡ true = cc in rw (eq-eqb q r x, x)
          (owed_pass (s.lost i) (s.told i) (s.longest r) (s.used r) (v.count r i) (w.count r i) (v.covered r i) (w.covered r i) (a.owed i r (rw x at e)) (a.used r) (pa.falls i g') (pa.moves i g'))
      owed i q e g (inr x) = let b = pa.others q i x in let n = waits_queued i q e in rw (ne_eqb q r x, b.count n, b.covered n) (a.owed i q e)

  -- a tick
  pub stands_tick : Rules v → Stands k reach (tick_state k s)
  stands_tick rules = record {
    width = a.width;
    far = a.far;
    agrees = a.agrees;
    asked = a.asked;
    owed = λ i q e. owed i q e (blocked s.jobs m i) refl;
    settled = λ i. settled i (blocked s.jobs m i) refl;
    told = a.told;
    used = used;
  }
    where
      used' : ℕ → ℕ
      used' r = cond (busy s.jobs m r) (suc (s.used r)) (s.used r)

      longest' : ℕ → ℕ
      longest' r = cond (busy s.jobs m r) (max (s.longest r) (suc (s.used r))) (s.longest r)

      used : (r : ℕ) → used' r ≤ longest' r
      used r = let x = a.used r in elim (cases_Bool (busy s.jobs m r)) [ inl e ↦ rw e (omega arith) | inr e ↦ rw e x ]

      grows : (r : ℕ) → (s.used r ≤ used' r) × (s.longest r ≤ longest' r)
      grows r = elim (cases_Bool (busy s.jobs m r)) [ inl e ↦ rw e (omega arith) | inr e ↦ rw e (omega arith) ]

      owed : (i q : ℕ) → s.jobs.state i ≡ Waiting q → (b : Bool) → blocked s.jobs m i ≡ b → Owed (cond b (suc (s.lost i)) (s.lost i)) (s.told i) (longest' q) (used' q) (v.count q i) (v.covered q i)
      owed i q e true f =
          let x = blocked_waits s.jobs v a.agrees rules m i f in
          let y : x.0 ≡ q = cc in let y' : busy s.jobs m q ≡ true = rw y at x.2 in
          elim (cases_Bool (v.covered q i)) [
            | inl c ↦ absurd (both_ways _ (covered_free s.jobs v a.agrees rules m q i a.width (waits_queued i q e) c) f)
            | inr c ↦ rw (y', c) (owed_blocked (s.lost i) (s.told i) (s.longest q) (s.used q) (v.count q i) _ (rw c at (a.owed i q e)) (omega arith))
          ]
      owed i q e false f = owed_tick (s.lost i) (s.told i) (s.longest q) (s.used q) (v.count q i) (longest' q) (used' q) (v.covered q i) (a.owed i q e) (grows q).1 (grows q).0

      settled : (i : ℕ) (b : Bool) → blocked s.jobs m i ≡ b → cond b (suc (s.lost i)) (s.lost i) ≤ s.told i * longest' (s.resource i)
      settled i true f =
          let x = blocked_waits s.jobs v a.agrees rules m i f in
          let some : v.covered x.0 i ≡ false → 0 < v.count x.0 i = λ nc. rules.later x.0 i (waits_queued i x.0 x.1) nc (waits_later i x.0 x.1) in
          rw (a.asked i x.0 x.1) (owed_all (suc (s.lost i)) (s.told i) (longest' x.0) (used' x.0) (v.count x.0 i) (v.covered x.0 i) (owed i x.0 x.1 true f) some (used x.0))
      settled i false f = let g = mul-le-mul_left (s.told i) (grows (s.resource i)).1 in let x = a.settled i in omega arith
