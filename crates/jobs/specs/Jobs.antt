-- Who waits, holds, runs and is blocked
use Rattle.std.specs.Prelude.{◌≡◌, ℕ, ◌<◌, min, Bool, true, false, not, ◌&&◌, ◌⊎◌, ◌==◌, nat_lt}
use Rattle.orders.specs.Counting.{tally}
use Rattle.jobs.specs.declared.state.TaskState.{TaskState}
use Rattle.jobs.specs.declared.state.TaskState.TheVariants.{Idle, Ready, Waiting, Holding}
use Rattle.jobs.specs.Ranks.{ahead, best}

-- the jobs, by task number: the state of each, and the code of its key
pub record Jobs : Type 0 where
  pub state : ℕ → TaskState
  pub code : ℕ → ℕ

-- a job is pending: it arrived and has not finished
abbrev pub pending : TaskState → Bool
pending Idle = false
pending Ready = true
pending (Waiting r) = true
pending (Holding r) = true

-- a job is ready or holding, so it could run
abbrev pub active : TaskState → Bool
active Idle = false
active Ready = true
active (Waiting r) = false
active (Holding r) = true

abbrev pub is_waiting : TaskState → Bool
is_waiting Idle = false
is_waiting Ready = false
is_waiting (Waiting r) = true
is_waiting (Holding r) = false

abbrev pub is_holding : TaskState → Bool
is_holding Idle = false
is_holding Ready = false
is_holding (Waiting r) = false
is_holding (Holding r) = true

abbrev pub waits_for : ℕ → TaskState → Bool
waits_for r Idle = false
waits_for r Ready = false
waits_for r (Waiting q) = q == r
waits_for r (Holding q) = false

abbrev pub holds_it : ℕ → TaskState → Bool
holds_it r Idle = false
holds_it r Ready = false
holds_it r (Waiting q) = false
holds_it r (Holding q) = q == r

-- a job in the second state waits for what a job in the first state holds
abbrev pub lends : TaskState → TaskState → Bool
lends Idle p = false
lends Ready p = false
lends (Waiting r) p = false
lends (Holding r) p = waits_for r p

-- the job whose own rank is the effective rank of job k: the best-ranked of k
-- and, where k holds a resource, of all jobs that wait for it
unfoldable pub lead : Jobs → ℕ → ℕ
lead j k = best j.code (λ i. lends (j.state k) (j.state i)) k 64

-- the ready or holding job i has an effective rank ahead of that of k
abbrev pub precedes : Jobs → ℕ → ℕ → Bool
precedes j i k = active (j.state i) && ahead j.code (lead j i) (lead j k)

-- job k runs: it is ready or holding, and fewer than m such jobs have an effective rank ahead of its own
unfoldable pub running : Jobs → ℕ → ℕ → Bool
running j m k = active (j.state k) && nat_lt (tally (λ i. precedes j i k) 64) m

-- how many pending jobs are ahead of k by their own ranks
unfoldable pub demand : Jobs → ℕ → ℕ
demand j k = tally (λ i. pending (j.state i) && ahead j.code i k) 64

-- job k is blocked: it is pending and does not run, though of the pending jobs fewer than m are ahead of it
unfoldable pub blocked : Jobs → ℕ → ℕ → Bool
blocked j m k = pending (j.state k) && (not (running j m k) && nat_lt (demand j k) m)

-- somebody holds the resource r
unfoldable pub taken : Jobs → ℕ → Bool
taken j r = nat_lt 0 (tally (λ k. holds_it r (j.state k)) 64)

-- somebody holds the resource r and runs
unfoldable pub busy : Jobs → ℕ → ℕ → Bool
busy j m r = nat_lt 0 (tally (λ k. holds_it r (j.state k) && running j m k) 64)

-- there is no job above 63, each resource waited for has a holder, and none has two
pub record Formed (j : Jobs) : Type 0 where
  pub inside : (k : ℕ) → pending (j.state k) ≡ true → k < 64
  pub held : (k r : ℕ) → j.state k ≡ Waiting r → (h : ℕ) × (j.state h ≡ Holding r)
  pub single : (h k r : ℕ) → j.state h ≡ Holding r → j.state k ≡ Holding r → h ≡ k

-- job k runs, or waits for a resource whose holder runs
abbrev pub Progress : Jobs → ℕ → ℕ → Type 0
Progress j m k = (running j m k ≡ true) ⊎ ((r : ℕ) × (h : ℕ) × (j.state k ≡ Waiting r) × (j.state h ≡ Holding r) × (running j m h ≡ true))

-- what the running set is like
pub record RunningSet (j : Jobs) (m : ℕ) : Type 0 where
  -- the effective ranks of ready or holding jobs are pairwise different
  pub distinct : (h k : ℕ) → active (j.state h) ≡ true → active (j.state k) ≡ true → lead j h ≡ lead j k → h ≡ k
  -- it has as many members as there are cores, or ready or holding jobs if these are fewer
  pub members : tally (running j m) 64 ≡ min m (tally (λ k. active (j.state k)) 64)
  -- no ready or holding job outside ranks before a member
  pub best : (h k : ℕ) → active (j.state h) ≡ true → running j m h ≡ false → running j m k ≡ true → ahead j.code (lead j h) (lead j k) ≡ false
  -- a pending job with fewer than m pending jobs ahead runs, or waits for a holder that runs
  pub progress : (k : ℕ) → pending (j.state k) ≡ true → demand j k < m → Progress j m k
