use Rattle.std.proofs.Common.{◌≡◌, false, get_or}
use Rattle.jobs.specs.Powers.{powers}
use Rattle.event_run.proofs.running.fn.running_sum.map_or.Given as goal

abbrev pub ensures : goal.ensures
ensures l r = r ≡ powers (λ t. get_or l.set t false) 64
