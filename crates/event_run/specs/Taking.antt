-- What it is to take a line
use Rattle.std.specs.Prelude.{◌≡◌, ℕ, suc, cond, List, [], ◌∷◌, ◌++◌, map, length, Result}
use Rattle.orders.specs.declared.order.Order.{Ghosts}
use Rattle.keys.specs.declared.kind.KeyKind
use Rattle.jobs.specs.Jobs.{running}
use Rattle.runs.specs.declared.call.Call.{Call}
use Rattle.runs.specs.Steps.{Leads, kernel_of}
use Rattle.kernel.specs.declared.kernel.Kernel.{Kernel}
use Rattle.kernel.specs.Views.{facts_of, state_of}
use Rattle.transcript.specs.Rows.{event_row}
use Rattle.event_text.specs.declared.fault.TextFault.{TextFault}
use Rattle.event_report.specs.declared.report.Fault.{Fault}
use Rattle.event_report.specs.declared.report.Row.{Row}
use Rattle.event_report.specs.Reasons.{fault_at}
use Rattle.event_run.specs.Entries.{Entry, as_read, onto, history, answer_number, told_at, reason_of, IsRowFor, faults_of}
use Rattle.event_run.specs.Outputs.{powers, event_rows}

-- a line that says this was taken: it made an entry, with this row, that led the kernel k to z
pub record Taken {S K D Y : Type 0} (o : Ghosts S) (kind : KeyKind.Ghosts K D Y) (k : Kernel S K D Y) (said : Result (Call D) TextFault) (row : Row) (z : Kernel S K D Y) : Type 0 where
  pub entry : Entry D
  pub says : as_read entry ≡ said
  pub rows : IsRowFor entry row
  pub facts : facts_of z ≡ facts_of k
  pub steps : Leads (kernel_of o kind (facts_of k)) (state_of k) (history (entry ∷ [])) (state_of z)

-- the line with the number n after the header says this, and was run: it made an entry that led the kernel k to z, with its row at the end of the text and its fault, if any, at the end of the faults
pub record Lined {S K D Y : Type 0} (o : Ghosts S) (kind : KeyKind.Ghosts K D Y) (k : Kernel S K D Y) (said : Result (Call D) TextFault) (n : ℕ) (text : List ℕ) (faults : List Fault) (z : Kernel S K D Y) (text' : List ℕ) (faults' : List Fault) : Type 0 where
  pub entry : Entry D
  pub says : as_read entry ≡ said
  pub facts : facts_of z ≡ facts_of k
  pub steps : Leads (kernel_of o kind (facts_of k)) (state_of k) (history (entry ∷ [])) (state_of z)
  pub adds : text' ≡ text ++ event_row n (answer_number entry) (cond (facts_of z).checked (powers (running (state_of z).jobs (facts_of z).cores) 64) 0) (told_at entry)
  pub notes : faults' ≡ faults ++ fault_at (suc n) (reason_of entry)

-- of the lines of a file, each read so, those before `rest` were run one by one, n of them, and led the kernel k to z, with their rows and their faults added
pub record Sofar {S K D Y : Type 0} (o : Ghosts S) (kind : KeyKind.Ghosts K D Y) (read : List ℕ → Result (Call D) TextFault) (k : Kernel S K D Y) (all rest : List (List ℕ)) (n : ℕ) (text : List ℕ) (faults : List Fault) (z : Kernel S K D Y) (text' : List ℕ) (faults' : List Fault) : Type 0 where
  pub entries : List (Entry D)
  pub count : n ≡ length entries
  pub says : onto entries (map read rest) ≡ map read all
  pub facts : facts_of z ≡ facts_of k
  pub steps : Leads (kernel_of o kind (facts_of k)) (state_of k) (history entries) (state_of z)
  pub adds : text' ≡ text ++ event_rows (kernel_of o kind (facts_of k)).key (facts_of k).cores entries
  pub notes : faults' ≡ faults ++ faults_of entries

-- all lines of a file, each read so, were run one by one and led the kernel k to z, with their rows and their faults added
abbrev pub LinesRun : {S K D Y : Type 0} → Ghosts S → KeyKind.Ghosts K D Y → (List ℕ → Result (Call D) TextFault) → Kernel S K D Y → List (List ℕ) → List ℕ → List Fault → Kernel S K D Y → List ℕ → List Fault → Type 0
LinesRun o kind read k all text faults z text' faults' = (n : ℕ) × Sofar o kind read k all [] n text faults z text' faults'
