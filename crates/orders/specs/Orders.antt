-- What an order of service means, and the rules that make it one
use Rattle.std.specs.Prelude.{◌≡◌, ℕ, ◌<◌, ◌≤◌, Bool, true, false, cond, ◌&&◌, Some, None, Ok, Err, Option, Result, ◌==◌, ◌≢◌, nat_lt}
use Rattle.orders.specs.declared.refusal.OrderRefusal.{OrderRefusal}
use Rattle.orders.specs.declared.refusal.OrderRefusal.TheVariants.{Unknown, Queued, Full, Empty}
use Rattle.orders.specs.Counting.{tally, ahead}

-- the meaning of one value of an order; each function takes a resource, then a task
pub record Meaning : Type 0 where
  pub width : ℕ
  pub places : ℕ
  pub reach : ℕ
  pub queued : ℕ → ℕ → Bool
  pub holder : ℕ → Option ℕ
  pub code : ℕ → ℕ → ℕ
  pub count : ℕ → ℕ → ℕ
  pub covered : ℕ → ℕ → Bool

-- a meaning from the eight ghost members
abbrev pub means : ℕ → ℕ → ℕ → (ℕ → ℕ → Bool) → (ℕ → Option ℕ) → (ℕ → ℕ → ℕ) → (ℕ → ℕ → ℕ) → (ℕ → ℕ → Bool) → Meaning
means w p d q h k c v = record { width = w; places = p; reach = d; queued = q; holder = h; code = k; count = c; covered = v }

-- how many are queued for r
abbrev pub size : Meaning → ℕ → ℕ
size v r = tally (v.queued r) 64

-- u is queued for r and ahead of a task t with the code c
abbrev pub before : Meaning → ℕ → ℕ → ℕ → ℕ → Bool
before v r c t u = v.queued r u && ahead (v.code r u) u c t

-- what a question about a queued task answers
abbrev pub asked : {A : Type 0} → Bool → A → Option A
asked b x = cond b (Some x) None

-- t is the task named, if there is one
abbrev pub is_it : Option ℕ → ℕ → Bool
is_it None t = false
is_it (Some h) t = h == t

-- what holds of an order at every moment
pub record Rules (v : Meaning) : Type 0 where
  -- the numbers: resources below 32, tasks below 64, no more queued than places, a reach of 16 bits
  pub within : (r t : ℕ) → v.queued r t ≡ true → (r < 32) × (t < 64)
  pub room : (r : ℕ) → size v r ≤ v.places
  pub small : v.reach ≤ 65535
  -- there is a holder, one of the queued, exactly when somebody is queued
  pub held : (r t : ℕ) → v.holder r ≡ Some t → v.queued r t ≡ true
  pub some : (r t : ℕ) → v.queued r t ≡ true → v.holder r ≢ None
  -- the holder's count is 0, and that of a waiting task that is not covered at least 1
  pub first : (r t : ℕ) → v.holder r ≡ Some t → v.count r t ≡ 0
  pub later : (r t : ℕ) → v.queued r t ≡ true → v.covered r t ≡ false → (v.holder r ≢ Some t) → 1 ≤ v.count r t
  -- a covered task has as many queued tasks ahead of it as there are cores
  pub cover : (r t : ℕ) → v.queued r t ≡ true → v.covered r t ≡ true → v.width ≤ tally (before v r (v.code r t) t) 64
  -- no count is above the reach
  pub bounded : (r t : ℕ) → v.queued r t ≡ true → v.count r t ≤ v.reach

-- the task t keeps its whole meaning at the resource r
pub record Kept (v w : Meaning) (r t : ℕ) : Type 0 where
  pub queued : w.queued r t ≡ v.queued r t
  pub code : v.queued r t ≡ true → w.code r t ≡ v.code r t
  pub count : v.queued r t ≡ true → w.count r t ≡ v.count r t
  pub covered : v.queued r t ≡ true → w.covered r t ≡ v.covered r t

-- the three numbers never change
pub record Fixed (v w : Meaning) : Type 0 where
  pub width : w.width ≡ v.width
  pub places : w.places ≡ v.places
  pub reach : w.reach ≡ v.reach

-- what an admission answers: the first refusal that applies
abbrev pub admit_answer : Meaning → ℕ → ℕ → Result (Unit {0}) OrderRefusal
admit_answer v r t = cond (nat_lt r 32 && nat_lt t 64) (cond (v.queued r t) (Err Queued) (cond (size v r == v.places) (Err Full) (Ok tt))) (Err Unknown)

-- t was added with the code c, as the holder if it is alone; nobody else's meaning changed
pub record Joined (v : Meaning) (r t c : ℕ) (w : Meaning) : Type 0 where
  pub queued : w.queued r t ≡ true
  pub code : w.code r t ≡ c
  pub alone : size v r ≡ 0 → w.holder r ≡ Some t
  pub behind : (size v r ≢ 0) → w.holder r ≡ v.holder r
  pub beside : (u : ℕ) → (u ≢ t) → Kept v w r u
  pub apart : (q : ℕ) → (q ≢ r) → (w.holder q ≡ v.holder q) × ((u : ℕ) → Kept v w q u)

-- an admission: the answer, and what it leaves
pub record Admits (v : Meaning) (r t c : ℕ) (a : Result (Unit {0}) OrderRefusal) (w : Meaning) : Type 0 where
  pub told : a ≡ admit_answer v r t
  pub refused : (e : OrderRefusal) → a ≡ Err e → w ≡ v
  pub fixed : Fixed v w
  pub joined : a ≡ Ok tt → Joined v r t c w

-- what a pass answers where the resource is known: the next holder, or that nobody held it
abbrev pub held_answer : Option ℕ → Option ℕ → Result (Option ℕ) OrderRefusal
held_answer None next = Err Empty
held_answer (Some t) next = Ok next

-- what a pass answers, where next is the holder that it leaves
abbrev pub pass_answer : Meaning → ℕ → Option ℕ → Result (Option ℕ) OrderRefusal
pass_answer v r next = cond (nat_lt r 32) (held_answer (v.holder r) next) (Err Unknown)

-- the holder left and the others stayed, with their codes; no count rose, and that of each
-- task that waited and was not covered fell; no other resource changed
pub record Left (v : Meaning) (r : ℕ) (w : Meaning) : Type 0 where
  pub gone : (t : ℕ) → v.holder r ≡ Some t → w.queued r t ≡ false
  pub rest : (t : ℕ) → (v.holder r ≢ Some t) → w.queued r t ≡ v.queued r t
  pub codes : (t : ℕ) → w.queued r t ≡ true → w.code r t ≡ v.code r t
  pub falls : (t : ℕ) → w.queued r t ≡ true → w.count r t ≤ v.count r t
  pub nears : (t : ℕ) → w.queued r t ≡ true → v.covered r t ≡ false → w.count r t < v.count r t
  pub apart : (q : ℕ) → (q ≢ r) → (w.holder q ≡ v.holder q) × ((u : ℕ) → Kept v w q u)

-- a pass: the answer, and what it leaves
pub record Passes (v : Meaning) (r : ℕ) (a : Result (Option ℕ) OrderRefusal) (w : Meaning) : Type 0 where
  pub told : a ≡ pass_answer v r (w.holder r)
  pub refused : (e : OrderRefusal) → a ≡ Err e → w ≡ v
  pub fixed : Fixed v w
  pub left : (next : Option ℕ) → a ≡ Ok next → Left v r w
