-- Effective ranks as numbers, from which the running set is found in a few passes
use Rattle.std.specs.Prelude.{◌≡◌, ℕ, zero, suc, ◌<◌, min, Bool, cond, ◌&&◌, List, ◌==◌, slice_index}
use Rattle.orders.specs.Counting.{tally}
use Rattle.jobs.specs.declared.state.TaskState.{TaskState}
use Rattle.jobs.specs.declared.state.TaskState.TheVariants.{Idle, Ready, Waiting, Holding}
use Rattle.jobs.specs.Ranks.{total}
use Rattle.jobs.specs.Jobs.{Jobs, active, waits_for, lead, demand}
use Rattle.board.specs.declared.record.TaskRecord.{TaskRecord}
use Rattle.board.specs.Boards.{jobs_of}

-- the least g among the numbers below n that pass the test, or 64
unfoldable pub least : (ℕ → Bool) → (ℕ → ℕ) → ℕ → ℕ
least f g zero = 64
least f g (suc n) = cond (f n) (min (g n) (least f g n)) (least f g n)

-- the effective rank of job k: how many pending jobs are ahead of the best-ranked of k and those that wait for what it holds
abbrev pub rank : Jobs → ℕ → ℕ
rank j k = demand j (lead j k)

-- the rank of a job with so many ahead of itself, where the list has the least rank of those that wait for each resource
abbrev pub inherited : TaskState → ℕ → List ℕ → ℕ
inherited Idle own list = own
inherited Ready own list = own
inherited (Waiting r) own list = own
inherited (Holding r) own list = min own (slice_index list r)

-- the least rank of the jobs below n that wait for r, or 64
abbrev pub foremost : Jobs → ℕ → ℕ → ℕ
foremost j r n = least (λ t. waits_for r (j.state t)) (demand j) n

-- the list has the least rank of the jobs that wait for each resource
abbrev pub Foremost : List TaskRecord → List ℕ → Type 0
Foremost rows list = (r : ℕ) → r < 32 → slice_index list r ≡ foremost (jobs_of rows) r 64

-- the list has the effective rank of each of the 64 jobs
abbrev pub Ranked : List TaskRecord → List ℕ → Type 0
Ranked rows list = (t : ℕ) → t < 64 → slice_index list t ≡ rank (jobs_of rows) t

-- how many of the ready or holding jobs below n have the effective rank p
abbrev pub sharing : Jobs → ℕ → ℕ → ℕ
sharing j p n = tally (λ k. active (j.state k) && rank j k == p) n

-- the list has, for each rank, how many ready or holding jobs have it
abbrev pub Shared : List TaskRecord → List ℕ → Type 0
Shared rows list = (p : ℕ) → p < 64 → slice_index list p ≡ sharing (jobs_of rows) p 64

-- the list has, for each rank, how many ready or holding jobs have a lesser one
abbrev pub Preceded : List TaskRecord → List ℕ → Type 0
Preceded rows list = (p : ℕ) → p < 64 → slice_index list p ≡ total (λ x. sharing (jobs_of rows) x 64) p
