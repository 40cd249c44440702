use Rattle.longest_run.proofs.Calling.{went_none, entry_more}
use Rattle.longest_run.proofs.run.enter_all.Goals as goal

pub loop-i-init : goal.loop-i-init
loop-i-init g c = went_none g.K.KeyKind c.args.kernel.now

pub loop-i-preserved : goal.loop-i-preserved
loop-i-preserved g c = entry_more g.K.KeyKind c.args.kernel.now c.args.cores.number c.loop-i.i c.turn-task.result c.args.declared c.loop-i.kernel c.handle.new.self c.handle-in-loop-i.new.self c.handle.result c.handle-in-loop-i.result c.turn-task.ensures c.loop-i.invariant c.handle.ensures.took c.handle-in-loop-i.ensures.took
