-- the laws of an order of service, as the bound of an impl brings them
use Rattle.orders.specs.contracts.order.Order.TheBound.{All}
use Rattle.orders.specs.Services.{Lawful}

pub lawful : {S : _} {o : _} {d : _} → All S o d → Lawful o
lawful b = record { rules = b.rules; admitting = b.admitting; passing = b.passing; unadmitted = b.unadmitted; unpassed = b.unpassed }
