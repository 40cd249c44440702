-- Tickets, holds, and what the driver's face refuses
use Rattle.std.specs.Prelude.{ℕ, Bool, true, false, cond, not, ◌&&◌, ◌||◌, Some, None, Ok, Err, Option, Result, ◌==◌, nat_lt}
use Rattle.jobs.specs.declared.state.TaskState.{TaskState}
use Rattle.jobs.specs.Jobs.{is_waiting, is_holding}
use Rattle.board.specs.declared.record.TaskRecord.{TaskRecord}
use Rattle.runs.specs.declared.refusal.Refusal.TheVariants.{Unchecked, Waits}
use Rattle.runs.specs.Refusals.{number_of}
use Rattle.runs.specs.Steps.{Facts, State}
use Rattle.kernel.specs.declared.kernel.Kernel.{Kernel as Core}
use Rattle.kernel.specs.Views.{facts_of, state_of}
use Rattle.driver.specs.declared.ticket.Ticket.{Ticket}
use Rattle.driver.specs.declared.hold.Hold.{Hold}
use Rattle.driver.specs.declared.refusal.DriverRefusal.{DriverRefusal}
use Rattle.driver.specs.declared.refusal.DriverRefusal.TheVariants.{Outdated, Kernel}
use Rattle.driver.specs.declared.refusal.Unclaimed.{Unclaimed}
use Rattle.driver.specs.declared.refusal.Unclosed.{Unclosed}
use Rattle.driver.specs.declared.refusal.Unclosed.TheVariants.{Ended, Kept}

-- the number of a refusal
abbrev pub driver_number : DriverRefusal → ℕ
driver_number Outdated = 13
driver_number (Kernel e) = number_of e

-- the number of why a hold was not closed
abbrev pub unclosed_number : Unclosed → ℕ
unclosed_number Ended = 13
unclosed_number (Kept h e) = number_of e

-- the n-th accepted request of the task t is the one that is on: it is the task's last, and the task waits or holds
abbrev pub is_on : {S : Type 0} → Facts → State S → ℕ → ℕ → Bool
is_on f s t n = nat_lt t f.tasks && (s.serial t == n && (is_waiting (s.jobs.state t) || is_holding (s.jobs.state t)))

-- how the task of a ticket or a hold stands: refused on an unchecked kernel, then where its request is no longer on
abbrev pub standing_answer : {S K D Y : Type 0} → Core S K D Y → ℕ → ℕ → Result TaskState DriverRefusal
standing_answer k t n = cond (not (facts_of k).checked) (Err (Kernel Unchecked)) (cond (not (is_on (facts_of k) (state_of k) t n)) (Err Outdated) (Ok ((state_of k).jobs.state t)))

-- the serial in the record of a task, 0 where there is no such task
abbrev pub last_serial : Option TaskRecord → ℕ
last_serial None = 0
last_serial (Some x) = x.serial

-- the hold that a ticket becomes
abbrev pub hold_of : Ticket → Hold
hold_of x = record { task = x.task; resource = x.resource; serial = x.serial; spent = false }

-- a hold after it was spent
abbrev pub spent_hold : Hold → Hold
spent_hold h = record { task = h.task; resource = h.resource; serial = h.serial; spent = true }

-- what claim answers to a ticket, by how its task stands: a hold only where it holds
abbrev pub claimed : Ticket → Result TaskState DriverRefusal → Result Hold Unclaimed
claimed x (Err e) = Err (record { ticket = x; why = e })
claimed x (Ok p) = cond (is_waiting p) (Err (record { ticket = x; why = Kernel Waits })) (Ok (hold_of x))

abbrev pub claim_answer : {S K D Y : Type 0} → Core S K D Y → Ticket → Result Hold Unclaimed
claim_answer k x = claimed x (standing_answer k x.task x.serial)
