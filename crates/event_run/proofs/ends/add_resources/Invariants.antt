use Rattle.std.proofs.Common.{◌≡◌, ◌++◌, string_bytes}
use Rattle.kernel.specs.Views.{state_of}
use Rattle.event_run.specs.Outputs.{resource_rows}
use Rattle.event_run.proofs.ends.add_resources.Given as goal

abbrev pub invariant-loop-resource : goal.invariant-loop-resource
invariant-loop-resource g l = string_bytes l.text ≡ string_bytes l.initial.text ++ resource_rows (state_of l.kernel).jobs.state (state_of l.kernel).longest l.facts.tasks l.resource
