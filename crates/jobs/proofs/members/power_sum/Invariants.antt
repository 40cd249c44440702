use Rattle.std.proofs.Common.{◌≡◌, false, slice_index_or}
use Rattle.jobs.specs.Powers.{powers}
use Rattle.jobs.proofs.members.power_sum.Given as goal

abbrev pub invariant-loop-task : goal.invariant-loop-task
invariant-loop-task l = l.sum ≡ powers (λ t. slice_index_or l.fn.set t false) l.task
