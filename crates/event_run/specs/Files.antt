-- What a whole file comes to
use Rattle.std.specs.Prelude.{◌≡◌, ℕ, List, [], map, Some, None, vec_items, string_bytes, Option, Result}
use Rattle.orders.specs.declared.order.Order.{Ghosts}
use Rattle.orders.specs.Services.{meaning}
use Rattle.keys.specs.declared.kind.KeyKind
use Rattle.runs.specs.declared.call.Call.{Call}
use Rattle.runs.specs.declared.refusal.Unfit.{Unfit}
use Rattle.runs.specs.Steps.{State, Fresh, Leads, kernel_of, at_start, unfit}
use Rattle.runs.specs.Guarantee.{Guarantee}
use Rattle.kernel.specs.Views.{made_of}
use Rattle.event_text.specs.declared.fault.TextFault.{TextFault}
use Rattle.event_report.specs.declared.report.Reason.TheVariants.{Check}
use Rattle.event_report.specs.declared.report.Report.{Report}
use Rattle.event_report.specs.Reasons.{Refused}
use Rattle.event_run.specs.Entries.{Entry, onto, history, faults_of}
use Rattle.event_run.specs.Outputs.{output_of}

-- the lines after the header, each read so, were run by a kernel of m cores, n tasks and r resources over the order, from its start. They
-- made entries that say what the lines say; the history of these leads from the start to a state, and the guarantee holds of it; and
-- what is written is the text of that history
pub record FileRan {S K D Y : Type 0} (o : Ghosts S) (kind : KeyKind.Ghosts K D Y) (read : List ℕ → Result (Call D) TextFault) (m n r : ℕ) (order : S) (lines : List (List ℕ)) (rep : Report) : Type 0 where
  pub entries : List (Entry D)
  pub state : State S
  pub says : onto entries [] ≡ map read lines
  pub fresh : Fresh (kernel_of o kind (made_of m n r)) (at_start order)
  pub leads : Leads (kernel_of o kind (made_of m n r)) (at_start order) (history entries) state
  pub guarantee : Guarantee (kernel_of o kind (made_of m n r)) (at_start order) (history entries) state
  pub output : string_bytes rep.output ≡ output_of (kernel_of o kind (made_of m n r)).key m n r entries
  pub faults : vec_items rep.faults ≡ faults_of entries

-- the run begins unless check finds a fault
abbrev pub Checked : Option Unfit → (Report → Type 0) → Report → Type 0
Checked None ran rep = ran rep
Checked (Some why) ran rep = Refused (Check why) rep

-- what a file comes to by a kernel of m cores, n tasks and r resources over this order
abbrev pub KernelRun : {S K D Y : Type 0} → Ghosts S → KeyKind.Ghosts K D Y → (List ℕ → Result (Call D) TextFault) → ℕ → ℕ → ℕ → S → List (List ℕ) → Report → Type 0
KernelRun o kind read m n r order lines rep = Checked (unfit m n r (meaning o order)) (FileRan o kind read m n r order lines) rep
