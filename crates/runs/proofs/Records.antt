-- The records in the state are what the history says
use Rattle.std.proofs.Common.{◌≡◌, ℕ, suc, max, Bool, true, false, cond, not, ◌&&◌, eqb, ◌≢◌, ◌⊎◌, List, [], ◌∷◌, Some, None, Option, sym, refl, subst, inl, inr, arith}
use Rattle.std.proofs.lemmas.Bool.{cases_Bool, cases_eq, and_parts, ltb-true, lt-ltb, both_ways, eq-eqb, ne_eqb}
use Rattle.std.proofs.lemmas.Bool.Decides.{nat_tests}
use Rattle.jobs.specs.declared.state.TaskState.{TaskState}
use Rattle.jobs.specs.declared.state.TaskState.TheVariants.{Idle, Ready, Waiting, Holding}
use Rattle.jobs.specs.Jobs.{Jobs, holds_it, is_waiting, is_holding, running, taken, busy}
use Rattle.jobs.proofs.Counting.{tally_some, some_tally}
use Rattle.orders.specs.Orders.{Meaning}
use Rattle.orders.specs.Services.{meaning, Lawful}
use Rattle.runs.specs.Histories.{Event, put, greatest, bump, ticks, jobs_after, told as told_in, asked, blocked_ticks, serials, holds, newest, present}
use Rattle.runs.specs.Steps.{Kernel, State, Step, Fresh, Leads, granted}
use Rattle.runs.proofs.Served.{Entered, Passed, entered, passed}
use Rattle.runs.proofs.Agreement.{Agrees, uses}
use Rattle.runs.proofs.Standing.{Stands}
use Rattle.runs.proofs.Induction.{unqueued, stands, free}

-- who holds r is in the state that says so
holds_it_is : (r : ℕ) (p : TaskState) → holds_it r p ≡ true → p ≡ Holding r
holds_it_is r Idle e = absurd (grind arith)
holds_it_is r Ready e = absurd (grind arith)
holds_it_is r (Waiting q) e = absurd (grind arith)
holds_it_is r (Holding q) e = grind (arith, nat_tests)

module _ (j : Jobs) (v : Meaning) (a : Agrees j v) where
  -- a resource is taken where the order has a holder
  pub taken_some : (r h : ℕ) → v.holder r ≡ Some h → taken j r ≡ true
  unfolding taken
  taken_some r h e = let x = a.holds r h e in lt-ltb 0 _ (tally_some _ 64 h (a.inside h (rw x)) (rw x (grind (arith, nat_tests))))

  -- and is not where it has none
  pub taken_none : (r : ℕ) → v.holder r ≡ None → taken j r ≡ false
  unfolding taken
  taken_none r e = elim (cases_Bool (taken j r)) [
    | inl t ↦ let k = some_tally (λ k. holds_it r (j.state k)) 64 (ltb-true _ _ t) in let x = a.held r k.0 (holds_it_is r _ k.2) in absurd (let z : None ≡ Some k.0 = cc in grind arith)
    | inr f ↦ f
  ]

  -- a resource whose holder runs has a holder
  pub busy_some : (m r : ℕ) → busy j m r ≡ true → (h : ℕ) × (v.holder r ≡ Some h)
  unfolding busy
  busy_some m r e = let k = some_tally (λ k. holds_it r (j.state k) && running j m k) 64 (ltb-true _ _ e) in
      (k.0, a.held r k.0 (holds_it_is r _ (and_parts _ _ k.2).0))

-- a free resource has no ticks in use; else they are the length of the last hold
abbrev Booked : Option ℕ → ℕ → List ℕ → Type 0
Booked None used l = used ≡ 0
Booked (Some h) used l = (rest : List ℕ) × (l ≡ used ∷ rest)

-- the records of the state are what the history says
pub record Records {S D : Type 0} (k : Kernel S D) (h : List (Event D)) (s : State S) : Type 0 where
  pub now : s.now ≡ ticks h
  pub jobs : s.jobs ≡ jobs_after k.key h
  pub resource : s.resource ≡ asked h
  pub told : s.told ≡ told_in h
  pub lost : s.lost ≡ blocked_ticks k.key k.facts.cores h
  pub serial : s.serial ≡ serials h
  pub longest : (r : ℕ) → s.longest r ≡ greatest (holds k.key k.facts.cores h r)
  pub books : (r : ℕ) → Booked ((meaning k.service s.order).holder r) (s.used r) (holds k.key k.facts.cores h r)

module _ {S D : Type 0} (k : Kernel S D) (lawful : Lawful k.service) (start : State S) (fresh : Fresh k start) where
  -- at the start
  begins : Records k [] start
  begins = subst (Records k []) (sym fresh.blank) (record {
    now = refl;
    jobs = refl;
    resource = refl;
    told = refl;
    lost = refl;
    serial = refl;
    longest = λ r. refl;
    books = λ r. go r (k.service.holder start.order r) refl;
  })
    where
      go : (r : ℕ) (o : Option ℕ) → k.service.holder start.order r ≡ o → Booked o 0 []
      go r None e = refl
      go r (Some h) e = absurd (both_ways _ (unqueued k lawful start fresh r h) ((lawful.rules start.order).held r h e))

  module _ (h : List (Event D)) (s : State S) (c : Records k h s) where
    abbrev v : Meaning
    v = meaning k.service s.order

    abbrev held : ℕ → List ℕ
    held = holds k.key k.facts.cores h

    module _ (a : Agrees s.jobs v) where
      -- granted exactly when nobody holds the resource
      grant : (t r : ℕ) (w : Meaning) → uses r (s.jobs.state t) ≡ false → Entered v r t (s.jobs.code t) w → granted (w.holder r) t r ≡ cond (taken s.jobs r) (Waiting r) (Holding r)
      grant t r w unused en = go (v.holder r) refl
        where
          go : (o : Option ℕ) → v.holder r ≡ o → granted (w.holder r) t r ≡ cond (taken s.jobs r) (Waiting r) (Holding r)
          go None e = rw (en.alone e, taken_none s.jobs v a r e) (grind (arith, nat_tests))
          go (Some u) e = let x = a.holds r u e in let ne : u ≢ t = λ q. (let y : s.jobs.state t ≡ Holding r = rw q at x in grind (arith, nat_tests)) in
              rw (en.behind u e, taken_some s.jobs v a r u e, ne_eqb u t ne)

      -- the holds after a request
      request_books : (t r : ℕ) (w : Meaning) → Entered v r t (s.jobs.code t) w → (p : ℕ) → (p ≡ r) ⊎ (p ≡ r → ⊥) →
          let l = cond (eqb r p && not (taken (jobs_after k.key h) r)) (0 ∷ held p) (held p) in (s.longest p ≡ greatest l) × Booked (w.holder p) (s.used p) l
      request_books t r w en p (inl x) = rw (x, eq-eqb r r refl, ← c.jobs) (go (v.holder r) refl)
        where
          go : (o : Option ℕ) → v.holder r ≡ o → let l = cond (not (taken s.jobs r)) (0 ∷ held r) (held r) in (s.longest r ≡ greatest l) × Booked (w.holder r) (s.used r) l
          go None e = let y = c.longest r in let b : s.used r ≡ 0 = rw e at (c.books r) in rw (taken_none s.jobs v a r e, en.alone e) (omega arith, (held r, rw b))
          go (Some u) e = rw (taken_some s.jobs v a r u e, en.behind u e) (c.longest r, rw e at (c.books r))
      request_books t r w en p (inr x) = rw (ne_eqb r p (λ q. x (sym q)), en.elsewhere p x) (c.longest p, c.books p)

      -- the holds after a release
      release_books : (t r : ℕ) (n : Option ℕ) (w : Meaning) → s.jobs.state t ≡ Holding r → Passed v r n w → (p : ℕ) → (p ≡ r) ⊎ (p ≡ r → ⊥) →
          let l = holds k.key k.facts.cores (Event.released t n ∷ h) p in (s.longest p ≡ greatest l) × Booked (w.holder p) (put s.used r 0 p) l
      release_books t r None w at pa p (inl x) = rw (x, eq-eqb r r refl, pa.then) (c.longest r, refl)
      release_books t r None w at pa p (inr x) = rw (ne_eqb p r x, pa.elsewhere p x) (c.longest p, c.books p)
      release_books t r (Some u) w at pa p (inl x) = let y = c.longest r in rw (x, ← c.jobs, at, eq-eqb r r refl, pa.then) (omega arith, (held r, refl))
      release_books t r (Some u) w at pa p (inr x) = rw (← c.jobs, at, ne_eqb r p (λ q. x (sym q)), ne_eqb p r x, pa.elsewhere p x) (c.longest p, c.books p)

      -- the ticks used are the length of the present hold
      present_books : (r : ℕ) → s.used r ≡ present k.key k.facts.cores h r
      present_books r = rw (← c.jobs) (go (v.holder r) refl)
        where
          go : (o : Option ℕ) → v.holder r ≡ o → s.used r ≡ cond (taken s.jobs r) (newest (held r)) 0
          go None e = rw (taken_none s.jobs v a r e) (rw e at (c.books r))
          go (Some u) e = let b = rw e at (c.books r) in rw (taken_some s.jobs v a r u e, b.1)

      -- the holds after a tick
      tick_books : (r : ℕ) → let l = cond (busy (jobs_after k.key h) k.facts.cores r) (bump (held r)) (held r) in
          (cond (busy s.jobs k.facts.cores r) (max (s.longest r) (suc (s.used r))) (s.longest r) ≡ greatest l) ×
          Booked (v.holder r) (cond (busy s.jobs k.facts.cores r) (suc (s.used r)) (s.used r)) l
      tick_books r = rw (← c.jobs) (go (busy s.jobs k.facts.cores r) refl)
        where
          go : (b : Bool) → busy s.jobs k.facts.cores r ≡ b → let l = cond b (bump (held r)) (held r) in
              (cond b (max (s.longest r) (suc (s.used r))) (s.longest r) ≡ greatest l) × Booked (v.holder r) (cond b (suc (s.used r)) (s.used r)) l
          go true e = let x = busy_some s.jobs v a k.facts.cores r e in let b = rw x.1 at (c.books r) in let y = c.longest r in
              rw (x.1, b.1) (let y' = rw b.1 at y in (omega arith, (b.0, refl)))
          go false e = (c.longest r, c.books r)

  -- a step keeps that
  recorded_on : (h : List (Event D)) (s z : State S) (e : Event D) → Stands k (k.service.reach start.order) s → Records k h s → Step k s e z → Records k (e ∷ h) z
  recorded_on h s z e a c (Step.refuses f) = record { now = c.now; jobs = c.jobs; resource = c.resource; told = c.told; lost = c.lost; serial = c.serial; longest = c.longest; books = c.books }
  recorded_on h s z e a c (Step.keeps_out f ad) = record { now = c.now; jobs = c.jobs; resource = c.resource; told = c.told; lost = c.lost; serial = c.serial; longest = c.longest; books = c.books }
  recorded_on h s z e a c (Step.keeps_in f at ad) = record { now = c.now; jobs = c.jobs; resource = c.resource; told = c.told; lost = c.lost; serial = c.serial; longest = c.longest; books = c.books }
  recorded_on h s z e a c (Step.arrives {t = t} {d = d} f) = record {
    now = c.now;
    jobs = rw (c.jobs, c.now);
    resource = c.resource;
    told = c.told;
    lost = c.lost;
    serial = c.serial;
    longest = c.longest;
    books = c.books;
  }
  recorded_on h s z e a c (Step.requests {t = t} {r = r} {z = o} f ad) =
      let en = entered _ _ r t _ (lawful.rules _) (lawful.admitting _ r t _ _ o ad) in
      let waits_not : is_waiting (s.jobs.state t) ≡ false = grind arith in let holds_not : is_holding (s.jobs.state t) ≡ false = grind arith in
      let b = λ (p : ℕ). request_books h s c a.agrees t r (meaning k.service o) en p (cases_eq p r) in record {
        now = c.now;
        jobs = rw (grant h s c a.agrees t r (meaning k.service o) (free _ waits_not holds_not r) en, c.jobs);
        resource = rw c.resource;
        told = rw c.told;
        lost = rw c.lost;
        serial = rw c.serial;
        longest = λ p. (b p).0;
        books = λ p. (b p).1;
      }
  recorded_on h s z e a c (Step.releases {t = t} {r = r} {n = n} {z = o} f at ad) =
      let pa = passed _ _ r n (lawful.passing _ r _ o ad) in
      let b = λ (p : ℕ). release_books h s c a.agrees t r n (meaning k.service o) at pa p (cases_eq p r) in record {
        now = c.now;
        jobs = rw (← at, c.jobs);
        resource = c.resource;
        told = c.told;
        lost = c.lost;
        serial = c.serial;
        longest = λ p. (b p).0;
        books = λ p. (b p).1;
      }
  recorded_on h s z e a c (Step.finishes {t = t} f) = record {
    now = c.now;
    jobs = rw c.jobs;
    resource = c.resource;
    told = c.told;
    lost = c.lost;
    serial = c.serial;
    longest = c.longest;
    books = c.books;
  }
  recorded_on h s z e a c (Step.goes_on f) = let b = tick_books h s c a.agrees in record {
    now = rw c.now;
    jobs = c.jobs;
    resource = c.resource;
    told = c.told;
    lost = rw (c.jobs, c.lost);
    serial = c.serial;
    longest = λ r. (b r).0;
    books = λ r. (b r).1;
  }

  -- so the records of every state that the run leads to are what the history says
  pub recorded : {h : List (Event D)} {s : State S} → Leads k start h s → Records k h s
  recorded Leads.none = begins
  recorded (Leads.more {h = h} {s = s} {z = z} {e = e} l step) = recorded_on h s z e (stands k lawful start fresh l) (recorded l) step

  -- and the ticks used are the length of the present hold
  pub used_now : {h : List (Event D)} {s : State S} → Leads k start h s → (r : ℕ) → s.used r ≡ present k.key k.facts.cores h r
  used_now {h} {s} l = present_books h s (recorded l) (stands k lawful start fresh l).agrees
