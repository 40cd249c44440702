-- What a wait has cost, and what it can still cost
use Rattle.std.proofs.Common.{◌≡◌, ℕ, suc, ◌+◌, ◌*◌, ◌<◌, ◌≤◌, Bool, true, false, cond, ◌&&◌, sym, refl, ◌∙◌, inl, inr, mul-le-mul_right, suc-mul, mul-le-mul_left, arith}
use Rattle.std.proofs.lemmas.Bool.{and_parts, and_from, lt-ltb, le-ltb, ltb-true, both_ways, not-true}
use Rattle.std.proofs.lemmas.Bool.Decides.{nat_tests}
use Rattle.orders.specs.Counting.{tally}
use Rattle.jobs.specs.Ranks.{ahead}
use Rattle.jobs.specs.declared.state.TaskState.{TaskState}
use Rattle.jobs.specs.declared.state.TaskState.TheVariants.{Idle, Ready, Waiting, Holding}
use Rattle.jobs.specs.Jobs.{Jobs, pending, demand, blocked, busy}
use Rattle.orders.specs.Orders.{Meaning, Rules}
use Rattle.jobs.proofs.Counting.{tally_some}
use Rattle.orders.proofs.Counts.{tally_le}
use Rattle.jobs.proofs.Leads.{running_set}
use Rattle.runs.proofs.Agreement.{Agrees, uses, formed}

-- of a waiting task: the blocked ticks so far fall within d of the holds that it was told of, and within the
-- present one unless it is covered; at most `count` holds are still to come
pub Owed : ℕ → ℕ → ℕ → ℕ → ℕ → Bool → Type 0
Owed lost told longest used count covered = (d : ℕ) × (count + d ≤ told) × (lost ≤ d * longest + cond covered 0 used)

-- when the wait begins
pub owed_first : (count longest used : ℕ) (covered : Bool) → Owed 0 count longest used count covered
unfolding Owed
owed_first count longest used covered = (0, omega arith, omega arith)

-- so the blocked ticks are at most the count told times the longest hold
pub owed_all : (lost told longest used count : ℕ) (covered : Bool) → Owed lost told longest used count covered → (covered ≡ false → 0 < count) → used ≤ longest → lost ≤ told * longest
unfolding Owed
owed_all lost told longest used count true (d, e, f) more fits = let m = mul-le-mul_right {m = d} {n = told} longest (omega arith) in omega arith
owed_all lost told longest used count false (d, e, f) more fits =
    let p = more refl in let m = mul-le-mul_right {m = suc d} {n = told} longest (omega arith) in let s = suc-mul d longest in omega arith

-- when the resource is passed on
pub owed_pass : (lost told longest used count count' : ℕ) (covered covered' : Bool) → Owed lost told longest used count covered → used ≤ longest → count' ≤ count → (covered ≡ false → count' < count) → Owed lost told longest 0 count' covered'
unfolding Owed
owed_pass lost told longest used count count' true covered' (d, e, f) fits falls moves = (d, omega arith, omega arith)
owed_pass lost told longest used count count' false covered' (d, e, f) fits falls moves =
    let p = moves refl in let s = suc-mul d longest in (suc d, omega arith, omega arith)

-- at a tick that does not find the task blocked
pub owed_tick : (lost told longest used count longest' used' : ℕ) (covered : Bool) → Owed lost told longest used count covered → longest ≤ longest' → used ≤ used' → Owed lost told longest' used' count covered
unfolding Owed
owed_tick lost told longest used count longest' used' true (d, e, f) g h = let m = mul-le-mul_left {m = longest} {n = longest'} d g in (d, e, omega arith)
owed_tick lost told longest used count longest' used' false (d, e, f) g h = let m = mul-le-mul_left {m = longest} {n = longest'} d g in (d, e, omega arith)

-- at a tick that does, where the holder runs
pub owed_blocked : (lost told longest used count longest' : ℕ) → Owed lost told longest used count false → longest ≤ longest' → Owed (suc lost) told longest' (suc used) count false
unfolding Owed
owed_blocked lost told longest used count longest' (d, e, f) g = let m = mul-le-mul_left {m = longest} {n = longest'} d g in (d, e, omega arith)

-- a job that waits or holds is pending
uses_pending : (r : ℕ) (p : TaskState) → uses r p ≡ true → pending p ≡ true
uses_pending r Idle e = e
uses_pending r Ready e = refl
uses_pending r (Waiting q) e = refl
uses_pending r (Holding q) e = refl

module _ (j : Jobs) (v : Meaning) (a : Agrees j v) (rules : Rules v) where
  -- only a job that waits is blocked, and then the holder runs
  pub blocked_waits : (m t : ℕ) → blocked j m t ≡ true → (r : ℕ) × (j.state t ≡ Waiting r) × (busy j m r ≡ true)
  unfolding blocked busy
  blocked_waits m t e =
      let x = and_parts _ _ e in let y = and_parts _ _ x.1 in let f = formed j v a rules in
      elim ((running_set j f m).progress t x.0 (ltb-true _ _ y.1)) [
        | inl g ↦ absurd (both_ways _ (not-true _ y.0) g)
        | inr g ↦ (g.0, g.2, lt-ltb 0 _ (tally_some _ 64 g.1 (f.inside g.1 (rw g.3)) (and_from _ _ (rw g.3 (grind (arith, nat_tests))) g.4)))
      ]

  -- a covered job is not blocked
  pub covered_free : (m r t : ℕ) → v.width ≡ m → v.queued r t ≡ true → v.covered r t ≡ true → blocked j m t ≡ false
  unfolding blocked demand
  covered_free m r t w q c =
      let tasks-ahead : ℕ → Bool = λ i. pending (j.state i) && ahead j.code i t in
      let each : (i : ℕ) → i < 64 → (v.queued r i && ahead (v.code r) i t) ≡ true → tasks-ahead i ≡ true = λ i l e. (let x = and_parts _ _ e in and_from _ _ (uses_pending r (j.state i) (sym (a.queues r i) ∙ x.0)) (rw (← a.codes r i x.0, ← a.codes r t q) x.1)) in
      let more = tally_le (λ i. v.queued r i && ahead (v.code r) i t) tasks-ahead 64 each in
      let many = rules.cover r t q c in
      let no_room = le-ltb (tally tasks-ahead 64) m (omega arith) in
      grind arith
