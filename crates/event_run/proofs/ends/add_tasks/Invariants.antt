use Rattle.std.proofs.Common.{◌≡◌, ◌++◌, string_bytes}
use Rattle.kernel.specs.Views.{state_of}
use Rattle.event_run.specs.Outputs.{task_rows}
use Rattle.event_run.proofs.ends.add_tasks.Given as goal

abbrev pub invariant-loop-task : goal.invariant-loop-task
invariant-loop-task g l = string_bytes l.text ≡ string_bytes l.initial.text ++ task_rows (state_of l.kernel).jobs.state (state_of l.kernel).lost l.task
