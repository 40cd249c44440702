-- A kernel that has run the longest wait
use Rattle.std.specs.Prelude.{◌≡◌, ℕ, ◌-◌, ◌*◌, true, List, Some}
use Rattle.keys.specs.declared.kind.KeyKind
use Rattle.first_come.specs.declared.first.FirstCome.{FirstCome}
use Rattle.gate.specs.declared.gate.Gate.{Gate}
use Rattle.gated_line.specs.GatedLine.{gated_order, Empty}
use Rattle.jobs.specs.declared.state.TaskState.TheVariants.{Holding}
use Rattle.runs.specs.declared.call.Call.{Call}
use Rattle.runs.specs.Histories.{Event}
use Rattle.runs.specs.Steps.{Fresh, Leads, kernel_of, at_start}
use Rattle.longest.specs.Longest.{calls, all_accepted, entries, rounds, longest_calls, gated_kernel}
use Rattle.board.specs.Calls.{row, hold}
use Rattle.kernel.specs.declared.kernel.Kernel.{Kernel}
use Rattle.kernel.specs.declared.wait.Wait.{Wait}
use Rattle.kernel.specs.Views.{facts_of, state_of, made_of, wait_answer}

-- the calls of the list (the newest first) took the kernel k to z, with whatever answers
pub record Went {K D Y : Type 0} (kind : KeyKind.Ghosts K D Y) (k : Kernel (Gate FirstCome) K D Y) (list : List (Call D)) (z : Kernel (Gate FirstCome) K D Y) : Type 0 where
  pub history : List (Event D)
  pub listed : calls history ≡ list
  pub facts : facts_of z ≡ facts_of k
  pub steps : Leads (kernel_of gated_order kind (facts_of k)) (state_of k) history (state_of z)

-- whatever took a kernel to a by all the entries, with j rounds more it is taken to z
abbrev pub Rounded : {K D Y : Type 0} → KeyKind.Ghosts K D Y → Kernel (Gate FirstCome) K D Y → ℕ → ℕ → Kernel (Gate FirstCome) K D Y → Type 0
Rounded {K} {D} {Y} kind a m j z = (k : Kernel (Gate FirstCome) K D Y) (d : D) → Went kind k (entries m d (2 * m)) a → Went kind k (rounds m d j) z

-- a wait of w blocked ticks, as many as were told, where no hold is longer than a tick
abbrev pub full_wait : ℕ → Wait
full_wait w = record { blocked = w; told = w; longest = 1; figure = w }

-- the kernel k of m cores, n tasks and r resources has run the longest-wait calls from the gate as it is made, all accepted, and by its
-- own records task m - 1 holds resource 0 after 2m - 1 blocked ticks, as many as it was told, where no hold was longer than a tick;
-- the question for its latest wait answers these numbers
pub record Reached {K D Y : Type 0} (kind : KeyKind.Ghosts K D Y) (m n r : ℕ) (d : D) (k : Kernel (Gate FirstCome) K D Y) : Type 0 where
  pub gate : Gate FirstCome
  pub history : List (Event D)
  pub new : Empty m gate
  pub fresh : Fresh (gated_kernel kind m n r) (at_start gate)
  pub facts : facts_of k ≡ made_of m n r
  pub leads : Leads (gated_kernel kind m n r) (at_start gate) history (state_of k)
  pub listed : calls history ≡ longest_calls m d
  pub none_refused : all_accepted history ≡ true
  pub holds : (row k.board (m - 1)).state ≡ Holding 0
  pub blocked : (row k.board (m - 1)).blocked ≡ 2 * m - 1
  pub told : (row k.board (m - 1)).told ≡ 2 * m - 1
  pub longest : (hold k.board 0).longest ≡ 1
  pub waited : wait_answer k (m - 1) ≡ Some (full_wait (2 * m - 1))
