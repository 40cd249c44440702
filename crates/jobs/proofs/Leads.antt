-- Effective ranks, and what they make of the running set
use Rattle.std.proofs.Common.{◌≡◌, ℕ, zero, suc, ◌<◌, Bool, true, false, ◌&&◌, ◌⊎◌, refl, subst, inl, inr, arith}
use Rattle.std.proofs.lemmas.Bool.{cases_Bool, cases_eq, and_parts, and_from, lt-ltb, ltb-true, both_ways}
use Rattle.std.proofs.lemmas.Bool.Decides.{nat_tests}
use Rattle.orders.specs.Counting.{tally}
use Rattle.orders.proofs.Counts.{tally_less, ahead_total}
use Rattle.jobs.specs.declared.state.TaskState.{TaskState}
use Rattle.jobs.specs.declared.state.TaskState.TheVariants.{Idle, Ready, Waiting, Holding}
use Rattle.jobs.specs.Ranks.{ahead, best}
use Rattle.jobs.specs.Jobs.{Jobs, pending, active, lends, lead, precedes, running, demand, Formed, Progress, RunningSet}
use Rattle.jobs.proofs.Counting.{tally_into, tally_lowest}

-- who is ahead of b is ahead of all that are not ahead of b
pub ahead_past : (c : ℕ → ℕ) (a b x : ℕ) → ahead c a b ≡ true → ahead c x b ≡ false → ahead c a x ≡ true
ahead_past c a b x p q = grind (arith, nat_tests)

-- who is ahead of one that is ahead of x is ahead of x
ahead_trans : (c : ℕ → ℕ) (a b x : ℕ) → ahead c a b ≡ true → ahead c b x ≡ true → ahead c a x ≡ true
ahead_trans c a b x p q = grind (arith, nat_tests)

-- the best is the first, or one that passes
pub best_from : (c : ℕ → ℕ) (p : ℕ → Bool) (f n : ℕ) → (best c p f n ≡ f) ⊎ ((best c p f n < n) × (p (best c p f n) ≡ true))
unfolding best
best_from c p f zero = inl refl
best_from c p f (suc n) =
    let i = best_from c p f n in
    elim (cases_Bool (p n && ahead c n (best c p f n))) [
      | inl e ↦ inr (rw e (omega arith, (and_parts (p n) _ e).0))
      | inr e ↦ rw e (elim i [ inl q ↦ inl q | inr q ↦ inr (omega arith, q.1) ])
    ]

-- the first is not ahead of the best
pub best_first : (c : ℕ → ℕ) (p : ℕ → Bool) (f n : ℕ) → ahead c f (best c p f n) ≡ false
unfolding best
best_first c p f zero = grind (arith, nat_tests)
best_first c p f (suc n) =
    let i = best_first c p f n in
    elim (cases_Bool (p n && ahead c n (best c p f n))) [
      | inl e ↦ let g = (and_parts (p n) _ e).1 in rw e (grind (arith, nat_tests))
      | inr e ↦ rw e i
    ]

-- nobody who passes is ahead of the best
pub best_all : (c : ℕ → ℕ) (p : ℕ → Bool) (f n k : ℕ) → k < n → p k ≡ true → ahead c k (best c p f n) ≡ false
unfolding best
best_all c p f zero k l t = absurd (omega arith)
best_all c p f (suc n) k l t =
    elim (cases_eq k n) [
      | inl q ↦ elim (cases_Bool (p n && ahead c n (best c p f n))) [
        | inl e ↦ rw e (grind (arith, nat_tests))
        | inr e ↦ rw e (grind (arith, nat_tests))
      ]
      | inr q ↦
          let i = best_all c p f n k (omega arith) t in
          elim (cases_Bool (p n && ahead c n (best c p f n))) [
            | inl e ↦ let g = (and_parts (p n) _ e).1 in rw e (grind (arith, nat_tests))
            | inr e ↦ rw e i
          ]
    ]

-- a job lends only what it holds, to one that waits for it
pub lends_parts : (p q : TaskState) → lends p q ≡ true → (r : ℕ) × (p ≡ Holding r) × (q ≡ Waiting r)
lends_parts Idle q e = absurd (grind arith)
lends_parts Ready q e = absurd (grind arith)
lends_parts (Waiting r) q e = absurd (grind arith)
lends_parts (Holding r) Idle e = absurd (grind arith)
lends_parts (Holding r) Ready e = absurd (grind arith)
lends_parts (Holding r) (Waiting s) e = (r, refl, grind (arith, nat_tests))
lends_parts (Holding r) (Holding s) e = absurd (grind arith)

-- a ready or holding job is pending
pub active_pending : (p : TaskState) → active p ≡ true → pending p ≡ true
active_pending Idle e = e
active_pending Ready e = refl
active_pending (Waiting r) e = refl
active_pending (Holding r) e = refl

-- whom a ready or holding job runs for: itself, or one that waits for what it holds
unfoldable pub RunsFor : Jobs → ℕ → ℕ → Type 0
RunsFor j k i = (i ≡ k) ⊎ ((r : ℕ) × (j.state k ≡ Holding r) × (j.state i ≡ Waiting r))

-- a job runs for the one whose rank is its effective rank
pub lead_for : (j : Jobs) (k : ℕ) → RunsFor j k (lead j k)
unfolding lead RunsFor
lead_for j k = elim (best_from j.code (λ i. lends (j.state k) (j.state i)) k 64) [ inl e ↦ inl e | inr e ↦ inr (lends_parts _ _ e.1) ]

-- the job that a ready or holding job runs for is pending
pub lead_pending : (j : Jobs) (k : ℕ) → active (j.state k) ≡ true → pending (j.state (lead j k)) ≡ true
unfolding RunsFor
lead_pending j k a = elim (lead_for j k) [ inl e ↦ rw e (active_pending (j.state k) a) | inr e ↦ rw e.2 ]

module _ (j : Jobs) (formed : Formed j) where
  -- no two jobs run for the same one
  lead_one : (h k i : ℕ) → active (j.state h) ≡ true → active (j.state k) ≡ true → RunsFor j h i → RunsFor j k i → h ≡ k
  unfolding RunsFor
  lead_one h k i a b (inl p) (inl q) = cc
  lead_one h k i a b (inl p) (inr q) = absurd (grind arith)
  lead_one h k i a b (inr p) (inl q) = absurd (grind arith)
  lead_one h k i a b (inr p) (inr q) = formed.single h k p.0 p.1 (let e : p.0 ≡ q.0 = cc in rw e q.1)

  -- the effective ranks of ready or holding jobs are pairwise different
  distinct : (h k : ℕ) → active (j.state h) ≡ true → active (j.state k) ≡ true → lead j h ≡ lead j k → h ≡ k
  distinct h k a b e = lead_one h k (lead j k) a b (subst (RunsFor j h) e (lead_for j h)) (lead_for j k)

  -- a job is not ahead of the effective rank of the job that runs for it
  pub lead_best : (i k : ℕ) → RunsFor j k i → ahead j.code i (lead j k) ≡ false
  unfolding RunsFor lead
  lead_best i k (inl e) = rw e (best_first j.code _ k 64)
  lead_best i k (inr e) = best_all j.code _ k 64 i (formed.inside i (rw e.2)) (rw (e.1, e.2) (grind (arith, nat_tests)))

  -- k, which runs for i, is in the running set where i has fewer than m pending jobs ahead
  runs_for : (m i k : ℕ) → active (j.state k) ≡ true → RunsFor j k i → demand j i < m → running j m k ≡ true
  unfolding demand running
  runs_for m i k a l d =
      let into : (h : ℕ) → h < 64 → precedes j h k ≡ true → (lead j h < 64) × ((pending (j.state (lead j h)) && ahead j.code (lead j h) i) ≡ true) = λ h b t. (let p = and_parts _ _ t in let q = lead_pending j h p.0 in (formed.inside _ q, and_from _ _ q (ahead_past j.code _ _ _ p.1 (lead_best i k l)))) in
      let one : (g h : ℕ) → precedes j g k ≡ true → precedes j h k ≡ true → lead j g ≡ lead j h → g ≡ h = λ g h s t e. distinct g h (and_parts _ _ s).0 (and_parts _ _ t).0 e in
      let few = tally_into (lead j) 64 (λ h. precedes j h k) 64 (λ h. pending (j.state h) && ahead j.code h i) into one in
      and_from _ _ a (lt-ltb _ m (omega arith))

  -- a pending job with fewer than m pending jobs ahead runs, or waits for a holder that runs
  progress : (m k : ℕ) → pending (j.state k) ≡ true → demand j k < m → Progress j m k
  unfolding RunsFor
  progress m k p d = go (j.state k) refl
    where
      go : (q : TaskState) → j.state k ≡ q → Progress j m k
      go Idle e = absurd (let z : pending (j.state k) ≡ false = rw e in both_ways _ z p)
      go Ready e = inl (runs_for m k k (rw e) (inl refl) d)
      go (Waiting r) e = let h = formed.held k r e in inr (r, h.0, e, h.1, runs_for m k h.0 (rw h.1) (inr (r, h.1, e)) d)
      go (Holding r) e = inl (runs_for m k k (rw e) (inl refl) d)

  -- a ready or holding job is below 64
  active_inside : (k : ℕ) → active (j.state k) ≡ true → k < 64
  active_inside k a = formed.inside k (active_pending (j.state k) a)

  -- of two jobs the one with the better effective rank has fewer before it
  fewer : (h k : ℕ) → active (j.state h) ≡ true → ahead j.code (lead j h) (lead j k) ≡ true → tally (λ i. precedes j i h) 64 < tally (λ i. precedes j i k) 64
  fewer h k a e = tally_less (λ i. precedes j i h) (λ i. precedes j i k) h 64 (active_inside h a) (grind (arith, nat_tests)) (and_from _ _ a e) (λ i l t.
      let p = and_parts _ _ t in and_from _ _ p.0 (ahead_trans j.code _ _ _ p.1 e))

  -- ready or holding jobs with as many before them are the same
  pub same_before : (h k : ℕ) → active (j.state h) ≡ true → active (j.state k) ≡ true → tally (λ i. precedes j i h) 64 ≡ tally (λ i. precedes j i k) 64 → h ≡ k
  same_before h k a b e = elim (cases_eq (lead j h) (lead j k)) [
    | inl q ↦ distinct h k a b q
    | inr q ↦ elim (cases_Bool (ahead j.code (lead j h) (lead j k))) [
      | inl y ↦ let l = fewer h k a y in absurd (omega arith)
      | inr y ↦ let l = fewer k h b (ahead_total (j.code (lead j h)) (lead j h) (j.code (lead j k)) (lead j k) q y) in absurd (omega arith)
    ]
  ]

  -- what the running set is like
  pub running_set : (m : ℕ) → RunningSet j m
  unfolding running
  running_set m = record {
    distinct = distinct;
    members = tally_lowest (λ k. active (j.state k)) (λ k. tally (λ i. precedes j i k) 64) 64 m same_before (λ k a.
        tally_less (λ i. precedes j i k) (λ i. active (j.state i)) k 64 (active_inside k a) (grind (arith, nat_tests)) a (λ i l t. (and_parts _ _ t).0));
    best = λ h k a o r. elim (cases_Bool (ahead j.code (lead j h) (lead j k))) [
      | inl y ↦
          let l = fewer h k a y in let b = ltb-true _ _ (and_parts (active (j.state k)) _ r).1 in
          absurd (both_ways _ o (and_from _ _ a (lt-ltb _ m (omega arith))))
      | inr y ↦ y
    ];
    progress = progress m;
  }
