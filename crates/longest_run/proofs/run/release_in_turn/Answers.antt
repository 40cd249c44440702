use Rattle.longest_run.proofs.Calling.{round_more}
use Rattle.longest_run.proofs.run.release_in_turn.Goals as goal

pub loop-j-preserved : goal.loop-j-preserved
loop-j-preserved g c k d w = round_more g.K.KeyKind k c.args.cores.number c.loop-j.j c.turn-task.result d c.loop-j.kernel c.handle.new.self c.handle-in-loop-j.new.self c.handle.result c.handle-in-loop-j.result c.turn-task.ensures (c.loop-j.invariant k d w) c.handle.ensures.took c.handle-in-loop-j.ensures.took
