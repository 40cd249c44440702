-- What a call of the kernel promises
use Rattle.std.specs.Prelude.{◌≡◌, ℕ, ◌+◌, ◌≤◌, cond, List, [], ◌∷◌, ◌++◌, reverse, Err, Result}
use Rattle.orders.specs.declared.order.Order.{Ghosts}
use Rattle.keys.specs.declared.kind.KeyKind
use Rattle.runs.specs.declared.call.Call.{Call}
use Rattle.runs.specs.declared.call.Accepted.{Accepted}
use Rattle.runs.specs.declared.refusal.Refusal.{Refusal}
use Rattle.runs.specs.Histories.{Event, told as told_in, asked, blocked_ticks, longest as longest_in}
use Rattle.runs.specs.Steps.{State, Step, Fresh, Leads, kernel_of}
use Rattle.runs.specs.Guarantee.{Guarantee}
use Rattle.longest.specs.Longest.{calls, accepted, LongestWait, FreshGate, ToldOfGate}
use Rattle.kernel.specs.declared.kernel.Kernel.{Kernel}
use Rattle.kernel.specs.declared.wait.Wait.{Wait}
use Rattle.kernel.specs.Views.{facts_of, state_of, noted}

-- the call c with the answer a took the kernel k to z: one step of the definition; a refusal left the very same kernel
pub record Took {S K D Y : Type 0} (o : Ghosts S) (kind : KeyKind.Ghosts K D Y) (k : Kernel S K D Y) (c : Call D) (a : Result Accepted Refusal) (z : Kernel S K D Y) : Type 0 where
  pub step : Step (kernel_of o kind (facts_of k)) (state_of k) (noted c a) (state_of z)
  pub facts : facts_of z ≡ facts_of k
  pub kept : (e : Refusal) → a ≡ Err e → z ≡ k

-- so it is for every checked start and every history that led from it to the kernel k
abbrev pub EachHistory : {S K D Y : Type 0} → Ghosts S → KeyKind.Ghosts K D Y → Kernel S K D Y → (State S → List (Event D) → Type 0) → Type 0
EachHistory {S} {K} {D} {Y} o kind k P = (start : State S) (h : List (Event D)) → Fresh (kernel_of o kind (facts_of k)) start → Leads (kernel_of o kind (facts_of k)) start h (state_of k) → P start h

-- whatever history led to k: with the events after it, it leads to z, and the guarantee holds of it
pub record Holds {S K D Y : Type 0} (o : Ghosts S) (kind : KeyKind.Ghosts K D Y) (k : Kernel S K D Y) (events : List (Event D)) (z : Kernel S K D Y) : Type 0 where
  pub leads : EachHistory o kind k (λ start h. Leads (kernel_of o kind (facts_of z)) start (events ++ h) (state_of z))
  pub guarantee : EachHistory o kind k (λ start h. Guarantee (kernel_of o kind (facts_of z)) start (events ++ h) (state_of z))

-- with the gate over first-come no count told is above 2m - 1, and one list of calls, from the gate as it is made, reaches exactly that
pub record GateFigure {K D Y : Type 0} (kind : KeyKind.Ghosts K D Y) : Type 0 where
  pub bound : ToldOfGate kind
  pub fresh : FreshGate kind
  pub longest : LongestWait kind

-- how many events were accepted
abbrev pub how_many_accepted : {D : Type 0} → List (Event D) → ℕ
how_many_accepted [] = 0
how_many_accepted (e ∷ h) = cond (accepted e) 1 0 + how_many_accepted h

-- the calls of a list, one after the other, took the kernel k to z, and n of them were accepted; the guarantee
-- holds of whatever history led to k with these events, of which the newest is the first
pub record Ran {S K D Y : Type 0} (o : Ghosts S) (kind : KeyKind.Ghosts K D Y) (k : Kernel S K D Y) (list : List (Call D)) (n : ℕ) (z : Kernel S K D Y) : Type 0 where
  pub history : List (Event D)
  pub listed : calls history ≡ reverse list
  pub counted : n ≡ how_many_accepted history
  pub facts : facts_of z ≡ facts_of k
  pub steps : Leads (kernel_of o kind (facts_of k)) (state_of k) history (state_of z)
  pub holds : Holds o kind k history z

-- of every history that led to the kernel k from a checked start: its numbers of the task t's latest wait are those of w, and the blocked ticks are within the figure
pub record Waited {S K D Y : Type 0} (o : Ghosts S) (kind : KeyKind.Ghosts K D Y) (k : Kernel S K D Y) (t : ℕ) (w : Wait) (h : List (Event D)) : Type 0 where
  pub blocked : w.blocked ≡ blocked_ticks (kernel_of o kind (facts_of k)).key (facts_of k).cores h t
  pub told : w.told ≡ told_in h t
  pub longest : w.longest ≡ longest_in (kernel_of o kind (facts_of k)).key (facts_of k).cores h (asked h t)
  pub within : w.blocked ≤ w.figure
