use Rattle.orders.proofs.Bounds.{lawful_met}
use Rattle.runs.proofs.Guaranteed.{guaranteed}
use Rattle.runs.proofs.stands.guarantee_stands.Goals as goal

pub returns : goal.returns
returns g c f start s h fresh leads =
    guaranteed _ (lawful_met g.met.O.Order) start fresh leads
