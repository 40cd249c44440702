-- Tables of records: what they say of the jobs, and how a call changes a record
use Rattle.std.specs.Prelude.{◌≡◌, ℕ, suc, ◌<◌, ◌≤◌, max, Bool, true, false, ◌&&◌, List, length, get_or, nat_lt, slice_index, slice_index_or}
use Rattle.orders.specs.Counting.{tally}
use Rattle.jobs.specs.declared.state.TaskState.{TaskState}
use Rattle.jobs.specs.declared.state.TaskState.TheVariants.{Idle, Ready, Waiting, Holding}
use Rattle.jobs.specs.Jobs.{Jobs, holds_it, running, demand, blocked as blocked_by}
use Rattle.board.specs.declared.record.TaskRecord.{TaskRecord}
use Rattle.board.specs.declared.record.ResourceRecord.{ResourceRecord}

-- the record of a task that has asked for nothing and has no job
abbrev pub blank : TaskRecord
blank = record { state = Idle; code = 0; resource = 0; serial = 0; told = 0; blocked = 0 }

-- the record of a resource that nobody has held
abbrev pub unheld : ResourceRecord
unheld = record { used = 0; longest = 0 }

-- what a table of task records says of the jobs
abbrev pub jobs_of : List TaskRecord → Jobs
jobs_of rows = record { state = λ t. (get_or rows t blank).state; code = λ t. (get_or rows t blank).code }

-- a job arrived: it is ready, with the code of its key
abbrev pub begun : TaskRecord → ℕ → TaskRecord
begun x c = record { state = Ready; code = c; resource = x.resource; serial = x.serial; told = x.told; blocked = x.blocked }

-- only the state changed
abbrev pub turned : TaskRecord → TaskState → TaskRecord
turned x s = record { state = s; code = x.code; resource = x.resource; serial = x.serial; told = x.told; blocked = x.blocked }

-- a request puts the job in the state s, and begins a new wait: resource r, serial number n, count told c
abbrev pub asked : TaskRecord → TaskState → ℕ → ℕ → ℕ → TaskRecord
asked x s r n c = record { state = s; code = x.code; resource = r; serial = n; told = c; blocked = 0 }

-- where a request leaves a job: it holds the resource if it is granted, and waits for it if not
abbrev pub placed : Bool → ℕ → TaskState
placed true r = Holding r
placed false r = Waiting r

-- a tick that finds the job blocked counts for it
abbrev pub ticked : Bool → TaskRecord → TaskRecord
ticked true x = record { state = x.state; code = x.code; resource = x.resource; serial = x.serial; told = x.told; blocked = suc x.blocked }
ticked false x = x

-- a hold begins
abbrev pub begun_hold : ResourceRecord → ResourceRecord
begun_hold x = record { used = 0; longest = x.longest }

-- the longest hold is at least as long as the present one
abbrev pub raised : ResourceRecord → ResourceRecord
raised x = record { used = x.used; longest = max x.longest x.used }

-- a tick that finds the resource in use counts for the present hold
abbrev pub ticked_hold : Bool → ResourceRecord → ResourceRecord
ticked_hold true x = record { used = suc x.used; longest = max x.longest (suc x.used) }
ticked_hold false x = x

-- the resource that the job waits for or holds, if any, is one of the 32
abbrev pub named : TaskState → Bool
named Idle = true
named Ready = true
named (Waiting r) = nat_lt r 32
named (Holding r) = nat_lt r 32

-- no job waits for or holds a resource that there is not
abbrev pub Known : List TaskRecord → Type 0
Known rows = (t : ℕ) → named (get_or rows t blank).state ≡ true

-- the list has, for each of the 64 tasks, how many pending jobs are ahead of its job
abbrev pub Counted : List TaskRecord → List ℕ → Type 0
Counted rows list = (t : ℕ) → t < 64 → slice_index list t ≡ demand (jobs_of rows) t

-- the list has, for each of the 64 tasks, whether its job runs
abbrev pub Run : List TaskRecord → ℕ → List Bool → Type 0
Run rows cores list = (t : ℕ) → t < 64 → slice_index_or list t false ≡ running (jobs_of rows) cores t

-- the list has, for each of the 64 tasks, whether its job is blocked
abbrev pub Blocked : List TaskRecord → ℕ → List Bool → Type 0
Blocked rows cores list = (t : ℕ) → t < 64 → slice_index_or list t false ≡ blocked_by (jobs_of rows) cores t

-- the first n elements were changed by f, each at its place, and the others are as they were
pub record Done {X : Type 0} (f : ℕ → X → X) (d : X) (xs ys : List X) (n : ℕ) : Type 0 where
  pub long : length ys ≡ length xs
  pub done : (k : ℕ) → k < n → slice_index_or ys k d ≡ f k (slice_index_or xs k d)
  pub left : (k : ℕ) → n ≤ k → slice_index_or ys k d ≡ slice_index_or xs k d

-- somebody below n holds the resource r and runs, where the list has who runs
abbrev pub used_by : List TaskRecord → List Bool → ℕ → ℕ → Bool
used_by rows list r n = nat_lt 0 (tally (λ k. holds_it r ((jobs_of rows).state k) && slice_index_or list k false) n)

-- the list has, for each of the 32 resources, whether somebody holds it and runs
abbrev pub Used : List TaskRecord → List Bool → List Bool → Type 0
Used rows run list = (r : ℕ) → r < 32 → slice_index_or list r false ≡ used_by rows run r 64
