use Rattle.board.proofs.Passes.{summed_none, summed}
use Rattle.board.proofs.settle.sums_before.Goals as goal

pub loop-p-init : goal.loop-p-init
loop-p-init c = summed_none c.args.counts.now

pub loop-p-preserved : goal.loop-p-preserved
loop-p-preserved c = summed c.args.counts.now c.loop-p.sums c.loop-p.sum c.loop-p.p c.loop-p-test.true c.requires c.loop-p.invariant
