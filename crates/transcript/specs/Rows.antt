-- The rows of what lockrun writes, as bytes
use Rattle.std.specs.Prelude.{◌≡◌, ℕ, true, List, ◌++◌, Some, None, codes, decimal, is_ok, Option, Result}
use Rattle.jobs.specs.declared.state.TaskState.{TaskState}
use Rattle.jobs.specs.States.{state_word}

-- the first row: 0 where the run begins, else the number of what was refused
abbrev pub start_row : ℕ → List ℕ
start_row number = codes "start=" ++ (decimal number ++ codes "\n")

-- the row of the n-th line after the header
abbrev pub event_row : ℕ → ℕ → ℕ → ℕ → List ℕ
event_row n answer running told = codes "n=" ++ (decimal n ++ (codes " ans=" ++ (decimal answer ++ (codes " run=" ++ (decimal running ++ (codes " told=" ++ (decimal told ++ codes "\n")))))))

-- the row of a task at the end
abbrev pub task_row : ℕ → TaskState → ℕ → List ℕ
task_row task state blocked = codes "task=" ++ (decimal task ++ (codes " state=" ++ (state_word state ++ (codes " blocked=" ++ (decimal blocked ++ codes "\n")))))

-- the holder of a resource, or none
abbrev pub holder_word : Option ℕ → List ℕ
holder_word None = codes "none"
holder_word (Some task) = decimal task

-- the row of a resource at the end
abbrev pub resource_row : ℕ → Option ℕ → ℕ → List ℕ
resource_row resource holder longest = codes "res=" ++ (decimal resource ++ (codes " holder=" ++ (holder_word holder ++ (codes " longest=" ++ (decimal longest ++ codes "\n")))))

-- where the memory sufficed, the text `new` is `old` with these bytes at its end
abbrev pub Added : {A E : Type 0} → Result A E → List ℕ → List ℕ → List ℕ → Type 0
Added result old new bytes = is_ok result ≡ true → new ≡ old ++ bytes
