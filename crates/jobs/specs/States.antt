-- What `{}` prints of a state
use Rattle.std.specs.Prelude.{ℕ, List, codes}
use Rattle.jobs.specs.declared.state.TaskState.{TaskState}
use Rattle.jobs.specs.declared.state.TaskState.TheVariants.{Idle, Ready, Waiting, Holding}

-- how a task stands, in a word
abbrev pub state_word : TaskState → List ℕ
state_word Idle = codes "idle"
state_word Ready = codes "ready"
state_word (Waiting r) = codes "waiting"
state_word (Holding r) = codes "holding"
