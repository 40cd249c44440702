-- A kernel as the state that the step speaks of
use Rattle.std.specs.Prelude.{◌≡◌, ℕ, ◌*◌, ◌<◌, Bool, true, false, cond, not, ◌&&◌, List, get_or, Some, None, Ok, Err, Option, Result, nat_lt, slice_index_or}
use Rattle.board.specs.declared.board.Board.{Board}
use Rattle.orders.specs.declared.order.Order.{Ghosts}
use Rattle.orders.specs.Services.{meaning}
use Rattle.board.specs.Boards.{blank, unheld, jobs_of, turned, begun_hold}
use Rattle.board.specs.Calls.{row, hold, Put, PutHold}
use Rattle.board.specs.declared.record.TaskRecord.{TaskRecord}
use Rattle.board.specs.declared.record.ResourceRecord.{ResourceRecord}
use Rattle.jobs.specs.declared.state.TaskState.TheVariants.{Holding}
use Rattle.jobs.specs.Jobs.{running}
use Rattle.runs.specs.declared.call.Call.{Call}
use Rattle.runs.specs.declared.call.Call.TheVariants.{Arrive, Request, Release, Finish, Tick}
use Rattle.runs.specs.declared.call.Accepted.{Accepted}
use Rattle.runs.specs.declared.refusal.Refusal.{Refusal}
use Rattle.runs.specs.declared.refusal.Refusal.TheVariants.{Unchecked, NoSuchTask, NoSuchResource}
use Rattle.runs.specs.declared.refusal.Unfit.{Unfit}
use Rattle.runs.specs.Histories.{Event}
use Rattle.runs.specs.Steps.{Facts, State, unfit}
use Rattle.kernel.specs.declared.facts.Facts.{Facts as Wanted}
use Rattle.kernel.specs.declared.facts.Limits.{Limits}
use Rattle.kernel.specs.declared.kernel.Kernel.{Kernel}
use Rattle.kernel.specs.declared.wait.Wait.{Wait}

-- what check answers, by the first fault
abbrev pub checked_answer : Option Unfit → Result (Unit {0}) Unfit
checked_answer None = Ok tt
checked_answer (Some e) = Err e

-- check found no fault
abbrev pub fits : Option Unfit → Bool
fits None = true
fits (Some e) = false

-- facts that check accepted
abbrev pub made_of : ℕ → ℕ → ℕ → Facts
made_of m n r = record { checked = true; cores = m; tasks = n; resources = r }

-- the first fault of the facts with an order of service, if any
abbrev pub fault : {S : Type 0} → Ghosts S → Wanted → S → Option Unfit
fault o f s = unfit f.cores f.tasks f.resources (meaning o s)

-- whether a kernel has limits, and its numbers of tasks and of resources, 0 without them
abbrev pub has_limits : Option Limits → Bool
has_limits None = false
has_limits (Some l) = true

abbrev pub tasks_of : Option Limits → ℕ
tasks_of None = 0
tasks_of (Some l) = l.tasks

abbrev pub resources_of : Option Limits → ℕ
resources_of None = 0
resources_of (Some l) = l.resources

-- the first refusal of a number of a task
abbrev pub no_task : Facts → ℕ → Option Refusal
no_task f n = cond (not f.checked) (Some Unchecked) (cond (not (nat_lt n f.tasks)) (Some NoSuchTask) None)

-- the first refusal of a number of a resource
abbrev pub no_resource : Facts → ℕ → Option Refusal
no_resource f n = cond (not f.checked) (Some Unchecked) (cond (not (nat_lt n f.resources)) (Some NoSuchResource) None)

-- the task named, if there is one, is one of the 64
abbrev pub BelowTasks : Option ℕ → Type 0
BelowTasks None = Unit {0}
BelowTasks (Some u) = u < 64

-- the next holder, if any, holds r, and the ticks used in its hold are 0
abbrev pub HandedOver : Board → Option ℕ → ℕ → Board → Type 0
HandedOver b None r z = PutHold b r (begun_hold (hold b r)) z
HandedOver b (Some u) r z = (mid : Board) × PutHold b r (begun_hold (hold b r)) mid × Put mid u (turned (row mid u) (Holding r)) z

-- the records and the order as a state
abbrev pub view : {S : Type 0} → Board → S → State S
view b z = record {
  now = b.ticks;
  jobs = jobs_of b.table.rows;
  resource = λ t. (get_or b.table.rows t blank).resource;
  serial = λ t. (get_or b.table.rows t blank).serial;
  told = λ t. (get_or b.table.rows t blank).told;
  lost = λ t. (get_or b.table.rows t blank).blocked;
  used = λ r. (get_or b.holds r unheld).used;
  longest = λ r. (get_or b.holds r unheld).longest;
  order = z;
}

-- the state of a kernel
abbrev pub state_of : {S K D Y : Type 0} → Kernel S K D Y → State S
state_of k = view k.board k.order

-- the facts of a kernel
abbrev pub facts_of : {S K D Y : Type 0} → Kernel S K D Y → Facts
facts_of k = record { checked = has_limits k.limits; cores = k.board.cores; tasks = tasks_of k.limits; resources = resources_of k.limits }

-- the event that a call and its answer make
abbrev pub noted : {D : Type 0} → Call D → Result Accepted Refusal → Event D
noted (Arrive t d) (Ok a) = Event.arrived t d
noted (Arrive t d) (Err e) = Event.refused (Arrive t d) e
noted (Request t r) (Ok a) = Event.requested t r a.told
noted (Request t r) (Err e) = Event.refused (Request t r) e
noted (Release t) (Ok a) = Event.released t a.next
noted (Release t) (Err e) = Event.refused (Release t) e
noted (Finish t) (Ok a) = Event.finished t
noted (Finish t) (Err e) = Event.refused (Finish t) e
noted Tick (Ok a) = Event.ticked
noted Tick (Err e) = Event.refused Tick e

-- an accepted call tells no more than it has to: the count of a request, the next holder after a release
abbrev pub Plain : {D : Type 0} → Call D → Result Accepted Refusal → Type 0
Plain (Arrive t d) (Ok a) = a ≡ record { told = 0; next = None }
Plain (Arrive t d) (Err e) = Unit {0}
Plain (Request t r) (Ok a) = a.next ≡ None
Plain (Request t r) (Err e) = Unit {0}
Plain (Release t) (Ok a) = a.told ≡ 0
Plain (Release t) (Err e) = Unit {0}
Plain (Finish t) (Ok a) = a ≡ record { told = 0; next = None }
Plain (Finish t) (Err e) = Unit {0}
Plain Tick (Ok a) = a ≡ record { told = 0; next = None }
Plain Tick (Err e) = Unit {0}

-- what a call that answers nothing, a count, or a next holder comes to as an answer of any call
abbrev pub done : Result (Unit {0}) Refusal → Result Accepted Refusal
done (Ok u) = Ok (record { told = 0; next = None })
done (Err e) = Err e

abbrev pub counted : Result ℕ Refusal → Result Accepted Refusal
counted (Ok n) = Ok (record { told = n; next = None })
counted (Err e) = Err e

abbrev pub handed : Result (Option ℕ) Refusal → Result Accepted Refusal
handed (Ok n) = Ok (record { told = 0; next = n })
handed (Err e) = Err e

-- the record of a task of the kernel; none for a number outside, or of an unchecked kernel
abbrev pub task_answer : {S K D Y : Type 0} → Kernel S K D Y → ℕ → Option TaskRecord
task_answer k t = cond ((facts_of k).checked && nat_lt t (facts_of k).tasks) (Some (row k.board t)) None

-- the record of a resource of the kernel; none for a number outside, or of an unchecked kernel
abbrev pub resource_answer : {S K D Y : Type 0} → Kernel S K D Y → ℕ → Option ResourceRecord
resource_answer k r = cond ((facts_of k).checked && nat_lt r (facts_of k).resources) (Some (hold k.board r)) None

-- a task's latest wait: blocked ticks, count told, longest hold of the resource, and the figure told × longest
abbrev pub wait_of : Board → ℕ → Wait
wait_of b t = record {
  blocked = (row b t).blocked;
  told = (row b t).told;
  longest = (hold b (row b t).resource).longest;
  figure = (row b t).told * (hold b (row b t).resource).longest;
}

abbrev pub wait_answer : {S K D Y : Type 0} → Kernel S K D Y → ℕ → Option Wait
wait_answer k t = cond ((facts_of k).checked && nat_lt t (facts_of k).tasks) (Some (wait_of k.board t)) None

-- the set has who runs, for each of the 64 tasks
abbrev pub RunningNow : {S K D Y : Type 0} → Kernel S K D Y → Option (List Bool) → Type 0
RunningNow k None = (facts_of k).checked ≡ false
RunningNow k (Some set) = ((facts_of k).checked ≡ true) × ((t : ℕ) → t < 64 → slice_index_or set t false ≡ running (state_of k).jobs (facts_of k).cores t)
