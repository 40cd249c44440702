use Rattle.std.proofs.Common.{replicate, ap}
use Rattle.orders.proofs.Bounds.{lawful_met}
use Rattle.gate.proofs.Gatesteps.{new_empty}
use Rattle.gate.proofs.gate.Gate.new.Goals as goal

pub returns-clause-empty : goal.returns-clause-empty
returns-clause-empty g c =
    let row = c.empty.result in
    new_empty g.L.Order (lawful_met g.met.L.Order) (record { lower = c.args.lower; fresh = c.nobody_queued.result; rows = replicate 32 row }) c.nobody_queued.ensures (ap (replicate 32) c.empty.ensures)
