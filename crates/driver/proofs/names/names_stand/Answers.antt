use Rattle.orders.proofs.Bounds.{lawful_met}
use Rattle.driver.proofs.Named.{names}
use Rattle.driver.proofs.names.names_stand.Goals as goal

pub returns : goal.returns
returns g c f s t n r start h fresh leads =
    names _ (lawful_met g.met.O.Order) start fresh leads t n r
