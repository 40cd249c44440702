-- What is written of a run, by its history alone
use Rattle.std.specs.Prelude.{ℕ, zero, suc, Bool, false, cond, List, [], ◌∷◌, ◌++◌, length, Some, None, Option}
use Rattle.jobs.specs.declared.state.TaskState.{TaskState}
use Rattle.jobs.specs.Jobs.{holds_it, running}
pub use Rattle.jobs.specs.Powers.{powers}
use Rattle.board.specs.declared.record.TaskRecord.{TaskRecord}
use Rattle.runs.specs.Histories.{jobs_after, blocked_ticks, longest as longest_in}
use Rattle.transcript.specs.Rows.{start_row, event_row, task_row, resource_row}
use Rattle.event_run.specs.Entries.{Entry, history, answer_number, told_at}

-- the rows of the entries (the newest first), in order: who runs is told as it is after each
unfoldable pub event_rows : {D : Type 0} → (D → ℕ → ℕ) → ℕ → List (Entry D) → List ℕ
event_rows key m [] = []
event_rows key m (e ∷ es) = event_rows key m es ++ event_row (suc (length es)) (answer_number e) (powers (running (jobs_after key (history (e ∷ es))) m) 64) (told_at e)

-- the rows of the first n tasks
unfoldable pub task_rows : (ℕ → TaskState) → (ℕ → ℕ) → ℕ → List ℕ
task_rows state blocked zero = []
task_rows state blocked (suc t) = task_rows state blocked t ++ task_row t (state t) (blocked t)

-- the answer that is there, else the other
abbrev pub or_else : Option ℕ → Option ℕ → Option ℕ
or_else None b = b
or_else (Some t) b = Some t

-- the first t below n that passes
unfoldable pub first : (ℕ → Bool) → ℕ → Option ℕ
first p zero = None
first p (suc n) = or_else (first p n) (cond (p n) (Some n) None)

-- the record of a task says that it holds the resource r
abbrev pub holding : ℕ → Option TaskRecord → Bool
holding r None = false
holding r (Some kept) = holds_it r kept.state

-- the rows of the first r resources, among n tasks
unfoldable pub resource_rows : (ℕ → TaskState) → (ℕ → ℕ) → ℕ → ℕ → List ℕ
resource_rows state longest n zero = []
resource_rows state longest n (suc r) = resource_rows state longest n r ++ resource_row r (first (λ t. holds_it r (state t)) n) (longest r)

-- the whole text of a run of m cores, n tasks and r resources: it starts, each line gives a row, and at the end each task and each resource does
abbrev pub output_of : {D : Type 0} → (D → ℕ → ℕ) → ℕ → ℕ → ℕ → List (Entry D) → List ℕ
output_of key m n r es =
    start_row 0 ++ event_rows key m es ++ task_rows (jobs_after key (history es)).state (blocked_ticks key m (history es)) n ++ resource_rows (jobs_after key (history es)).state (longest_in key m (history es)) n r
