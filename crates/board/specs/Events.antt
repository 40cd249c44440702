-- What becomes of a task's record when something happens to its job
use Rattle.std.specs.Prelude.{◌≡◌, ℕ, suc, Bool, cond, not, Some, None, Ok, Err, Option, Result, nat_le}
use Rattle.jobs.specs.declared.state.TaskState.TheVariants.{Idle, Ready}
use Rattle.jobs.specs.Jobs.{pending, is_waiting, is_holding}
use Rattle.runs.specs.declared.refusal.Refusal.{Refusal}
use Rattle.runs.specs.declared.refusal.Refusal.TheVariants.{AlreadyPending, NoJobPending, Waits, DoesNotRun, HoldsResource, HoldsNothing, CountSpent}
use Rattle.board.specs.declared.event.TaskEvent.{TaskEvent}
use Rattle.board.specs.declared.event.TaskEvent.TheVariants.{Arrive, Request, Release, Finish}
use Rattle.board.specs.declared.record.TaskRecord.{TaskRecord}
use Rattle.board.specs.declared.board.Board.{Board}
use Rattle.board.specs.Boards.{begun, turned, asked, placed}
use Rattle.board.specs.Calls.{row, runs, Put}

-- the first refusal of an event by the state of the job and whether it runs
abbrev pub event_refusal : TaskRecord → Bool → TaskEvent → Option Refusal
event_refusal x runs (Arrive c) = cond (pending x.state) (Some AlreadyPending) None
event_refusal x runs (Request r g n) =
    cond (not (pending x.state)) (Some NoJobPending) (cond (is_waiting x.state) (Some Waits)
    (cond (not runs) (Some DoesNotRun) (cond (is_holding x.state) (Some HoldsResource)
    (cond (nat_le 4294967295 x.serial) (Some CountSpent) None))))
event_refusal x runs Release =
    cond (not (pending x.state)) (Some NoJobPending) (cond (is_waiting x.state) (Some Waits)
    (cond (not (is_holding x.state)) (Some HoldsNothing) (cond (not runs) (Some DoesNotRun) None)))
event_refusal x runs Finish =
    cond (not (pending x.state)) (Some NoJobPending) (cond (is_waiting x.state) (Some Waits)
    (cond (not runs) (Some DoesNotRun) (cond (is_holding x.state) (Some HoldsResource) None)))

-- the same of the job of task t on a board
abbrev pub refused : Board → ℕ → TaskEvent → Option Refusal
refused b t e = event_refusal (row b t) (runs b t) e

-- the refusal of a tick: its count is at the last number
abbrev pub tick_refusal : Board → Option Refusal
tick_refusal b = cond (nat_le 4294967295 b.ticks) (Some CountSpent) None

-- the record that an accepted event leaves
abbrev pub event_record : TaskRecord → TaskEvent → TaskRecord
event_record x (Arrive c) = begun x c
event_record x (Request r g n) = asked x (placed g r.number) r.number (suc x.serial) n
event_record x Release = turned x Ready
event_record x Finish = turned x Idle

-- the answer that a refusal, or none, makes
abbrev pub verdict : Option Refusal → Result (Unit {0}) Refusal
verdict None = Ok tt
verdict (Some e) = Err e

-- the second where there is no refusal, else the first
abbrev pub unless : {A : Type 0} → Option Refusal → A → A → A
unless None x y = y
unless (Some e) x y = x

-- without a refusal the record of t became x and nothing else changed; with one the board is as it was
abbrev pub Stepped : Option Refusal → Board → ℕ → TaskRecord → Board → Type 0
Stepped None b t x z = Put b t x z
Stepped (Some e) b t x z = z ≡ b
