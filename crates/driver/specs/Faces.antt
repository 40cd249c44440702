-- What the acts of a driver are to the kernel
use Rattle.std.specs.Prelude.{◌≡◌, ℕ, suc, Bool, true, cond, not, ◌&&◌, [], ◌∷◌, Ok, Err, Option, Result}
use Rattle.orders.specs.declared.order.Order.{Ghosts}
use Rattle.keys.specs.declared.kind.KeyKind
use Rattle.runs.specs.declared.call.Call.TheVariants.{Request, Release}
use Rattle.runs.specs.declared.call.Accepted.{Accepted}
use Rattle.runs.specs.declared.refusal.Refusal.{Refusal}
use Rattle.runs.specs.Steps.{State}
use Rattle.kernel.specs.declared.kernel.Kernel.{Kernel}
use Rattle.kernel.specs.Views.{facts_of, state_of, noted, counted, handed}
use Rattle.kernel.specs.Promises.{Took, EachHistory, Holds}
use Rattle.driver.specs.declared.ticket.Ticket.{Ticket}
use Rattle.driver.specs.declared.hold.Hold.{Hold}
use Rattle.driver.specs.declared.refusal.Unclosed.{Unclosed}
use Rattle.driver.specs.declared.refusal.Unclosed.TheVariants.{Ended, Kept}
use Rattle.driver.specs.Tokens.{is_on}
use Rattle.driver.specs.Naming.{Gave}

-- an open as the request that it is: it tells the count that the record of the task t has after it
abbrev pub as_request : {S : Type 0} → State S → ℕ → Result Ticket Refusal → Result Accepted Refusal
as_request s t (Ok x) = counted (Ok (s.told t))
as_request s t (Err e) = Err e

-- the ticket of an accepted request of t for r: one more than the task had before
abbrev pub ticket_for : {S : Type 0} → State S → ℕ → ℕ → Ticket
ticket_for s t r = record { task = t; resource = r; serial = suc (s.serial t) }

-- what an open of t for r answers, on a kernel k that it takes to z: it is a request, and gives a ticket that is on where the request was accepted
pub record Opened {S K D Y : Type 0} (o : Ghosts S) (kind : KeyKind.Ghosts K D Y) (k : Kernel S K D Y) (t r : ℕ) (a : Result Ticket Refusal) (z : Kernel S K D Y) : Type 0 where
  pub took : Took o kind k (Request t r) (as_request (state_of z) t a) z
  pub ticket : (x : Ticket) → a ≡ Ok x → x ≡ ticket_for (state_of k) t r
  pub on : (x : Ticket) → a ≡ Ok x → is_on (facts_of z) (state_of z) t x.serial ≡ true
  pub holds : Holds o kind k (noted (Request t r) (as_request (state_of z) t a) ∷ []) z
  -- and whatever history led to k has given the ticket with this event
  pub gave : (x : Ticket) → a ≡ Ok x → EachHistory o kind k (λ start h. Gave (noted (Request t r) (as_request (state_of z) t a) ∷ h) x.task x.serial x.resource)

-- what the answer of a release says of the next holder
abbrev pub next_part : Result Accepted Refusal → Result (Option ℕ) Refusal
next_part (Ok a) = Ok a.next
next_part (Err e) = Err e

-- what close answers to a hold, by what the release that it is answered
abbrev pub closed_by : Hold → Result (Option ℕ) Refusal → Result (Option ℕ) Unclosed
closed_by h (Ok n) = Ok n
closed_by h (Err e) = Err (Kept h e)

-- the hold's request is no longer on, in a checked kernel
abbrev pub outdated : {S K D Y : Type 0} → Kernel S K D Y → Hold → Bool
outdated k h = (facts_of k).checked && not (is_on (facts_of k) (state_of k) h.task h.serial)

-- a hold was not outdated: closing it was a release by its task, which took the kernel k to z
pub record Released {S K D Y : Type 0} (o : Ghosts S) (kind : KeyKind.Ghosts K D Y) (k : Kernel S K D Y) (h : Hold) (a : Result (Option ℕ) Unclosed) (z : Kernel S K D Y) : Type 0 where
  pub answer : Result (Option ℕ) Refusal
  pub told : a ≡ closed_by h answer
  pub took : Took o kind k (Release h.task) (handed answer) z
  pub holds : Holds o kind k (noted (Release h.task) (handed answer) ∷ []) z

-- a hold was outdated: it ended, and the kernel k stayed as it was
pub record Lapsed {S K D Y : Type 0} (o : Ghosts S) (kind : KeyKind.Ghosts K D Y) (k : Kernel S K D Y) (a : Result (Option ℕ) Unclosed) (z : Kernel S K D Y) : Type 0 where
  pub told : a ≡ Err Ended
  pub kept : z ≡ k
  pub holds : Holds o kind k [] z

-- what a close answers and leaves
abbrev pub Closed : {S K D Y : Type 0} → Ghosts S → KeyKind.Ghosts K D Y → Kernel S K D Y → Hold → Result (Option ℕ) Unclosed → Kernel S K D Y → Type 0
Closed o kind k h a z = cond (outdated k h) (Lapsed o kind k a z) (Released o kind k h a z)
