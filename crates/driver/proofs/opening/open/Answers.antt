use Rattle.driver.proofs.Tickets.{opened}
use Rattle.driver.proofs.opening.open.Goals as goal

pub returns : goal.returns
returns g c =
    let handled = c.in_ok-handle.ensures in
    opened g.O.Order g.K.KeyKind c.args.kernel.now c.handle.new.self c.args.task c.args.resource c.in_ok-handle.field-0 c.ticket.result handled.took handled.plain handled.holds c.ticket.ensures
