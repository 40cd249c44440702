-- The longest wait behind a gate over first-come
use Rattle.std.specs.Prelude.{◌≡◌, ℕ, zero, suc, ◌+◌, ◌-◌, ◌*◌, ◌≤◌, Bool, true, false, cond, ◌&&◌, List, [], ◌∷◌, nat_lt}
use Rattle.keys.specs.declared.kind.KeyKind
use Rattle.first_come.specs.declared.first.FirstCome.{FirstCome}
use Rattle.gate.specs.declared.gate.Gate.{Gate}
use Rattle.gated_line.specs.GatedLine.{gated_order, Empty}
use Rattle.jobs.specs.declared.state.TaskState.TheVariants.{Holding}
use Rattle.runs.specs.declared.call.Call.{Call}
use Rattle.runs.specs.declared.call.Call.TheVariants.{Arrive, Request, Release, Finish, Tick}
use Rattle.runs.specs.Histories.{Event, jobs_after, blocked_ticks, told as told_in, longest as longest_in}
use Rattle.runs.specs.Steps.{Facts, Kernel, State, Fresh, Leads, kernel_of, at_start}

-- the call that an event answers
abbrev pub call_of : {D : Type 0} → Event D → Call D
call_of (Event.refused c e) = c
call_of (Event.arrived t d) = Arrive t d
call_of (Event.requested t r c) = Request t r
call_of (Event.released t n) = Release t
call_of (Event.finished t) = Finish t
call_of Event.ticked = Tick

-- the calls of a history, the newest first
abbrev pub calls : {D : Type 0} → List (Event D) → List (Call D)
calls [] = []
calls (e ∷ h) = call_of e ∷ calls h

-- the call was accepted
abbrev pub accepted : {D : Type 0} → Event D → Bool
accepted (Event.refused c e) = false
accepted (Event.arrived t d) = true
accepted (Event.requested t r c) = true
accepted (Event.released t n) = true
accepted (Event.finished t) = true
accepted Event.ticked = true

-- every call of the history was accepted
abbrev pub all_accepted : {D : Type 0} → List (Event D) → Bool
all_accepted [] = true
all_accepted (e ∷ h) = accepted e && all_accepted h

-- the i-th task, from 0, where tasks m to 2m - 1 come first and then tasks 0 to m - 1
abbrev pub turn : ℕ → ℕ → ℕ
turn m i = cond (nat_lt i m) (m + i) (i - m)

-- the first i of them arrive and request resource 0, one after the other (the newest call first)
abbrev pub entries : {D : Type 0} → ℕ → D → ℕ → List (Call D)
entries m d zero = []
entries m d (suc i) = Request (turn m i) 0 ∷ Arrive (turn m i) d ∷ entries m d i

-- all 2m enter; then k times there is a tick, and the next of them releases
abbrev pub rounds : {D : Type 0} → ℕ → D → ℕ → List (Call D)
rounds m d zero = entries m d (2 * m)
rounds m d (suc k) = Release (turn m k) ∷ Tick ∷ rounds m d k

-- the calls that make task m - 1 wait as long as can be, where all declare the same
abbrev pub longest_calls : {D : Type 0} → ℕ → D → List (Call D)
longest_calls m d = rounds m d (2 * m - 1)

-- what these calls come to: all are accepted, and task m - 1 holds after 2m - 1 blocked ticks, as many as it was told, where no hold is longer than a tick
pub record Outcome {D : Type 0} (key : D → ℕ → ℕ) (m : ℕ) (h : List (Event D)) : Type 0 where
  pub none_refused : all_accepted h ≡ true
  pub holds : (jobs_after key h).state (m - 1) ≡ Holding 0
  pub lost : blocked_ticks key m h (m - 1) ≡ 2 * m - 1
  pub longest : longest_in key m h 0 ≡ 1
  pub told : told_in h (m - 1) ≡ 2 * m - 1

-- a checked kernel of m cores, n tasks and r resources over the gate over first-come
abbrev pub gated_kernel : {K D Y : Type 0} → KeyKind.Ghosts K D Y → ℕ → ℕ → ℕ → Kernel (Gate FirstCome) D
gated_kernel kind m n r = kernel_of gated_order kind (record { checked = true; cores = m; tasks = n; resources = r })

-- from a gate as it is made, every run of these calls has that outcome, whatever is declared in range
abbrev pub LongestWait : {K D Y : Type 0} → KeyKind.Ghosts K D Y → Type 0
LongestWait {K} {D} {Y} kind = (m n r : ℕ) (d : D) (g : Gate FirstCome) (s : State (Gate FirstCome)) (h : List (Event D)) →
    1 ≤ m → m ≤ 16 → 2 * m ≤ n → n ≤ 64 → 1 ≤ r → r ≤ 32 → kind.ranged d ≡ true → Empty m g →
    Leads (gated_kernel kind m n r) (at_start g) h s → calls h ≡ longest_calls m d → Outcome (gated_kernel kind m n r).key m h

-- check accepts a gate as it is made
abbrev pub FreshGate : {K D Y : Type 0} → KeyKind.Ghosts K D Y → Type 0
FreshGate kind = (m n r : ℕ) (g : Gate FirstCome) →
    1 ≤ m → m ≤ 16 → 1 ≤ n → n ≤ 64 → 1 ≤ r → r ≤ 32 → Empty m g → Fresh (gated_kernel kind m n r) (at_start g)

-- whatever gate over first-come check accepts for m cores, its reach is 2m - 1
abbrev pub ReachOfGate : {K D Y : Type 0} → KeyKind.Ghosts K D Y → Type 0
ReachOfGate kind = (f : Facts) (start : State (Gate FirstCome)) → Fresh (kernel_of gated_order kind f) start → gated_order.reach start.order ≡ 2 * f.cores - 1

-- with a gate over first-come that check accepts for m cores, no count told is above 2m - 1
abbrev pub ToldOfGate : {K D Y : Type 0} → KeyKind.Ghosts K D Y → Type 0
ToldOfGate {K} {D} {Y} kind = (f : Facts) (start s : State (Gate FirstCome)) (h : List (Event D)) →
    Fresh (kernel_of gated_order kind f) start → Leads (kernel_of gated_order kind f) start h s → (t : ℕ) → told_in h t ≤ 2 * f.cores - 1
