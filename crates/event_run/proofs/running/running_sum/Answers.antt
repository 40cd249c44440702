use Rattle.event_run.proofs.Powers.{running_or}
use Rattle.event_run.proofs.running.running_sum.Goals as goal

pub returns : goal.returns
returns g c = running_or c.args.kernel.now c.running.result c.map_or.result c.running.ensures c.map_or.ensures
