-- the laws of an order of service, as the bound of a function brings them to an answer
use seplogic.Ra.Ura.{Ura}
use mir.Syntax.{Dict}
use prog.Model.{Model}
use types.Logic.{Logic}
use contract.Running.{Running}
use denote.RattleType.{RattleType}
use Rattle.orders.specs.declared.order.Order.{Ghosts}
use Rattle.orders.specs.contracts.order.Order.TheBound.{Met}
use Rattle.orders.specs.Services.{Lawful}

pub lawful_met : {M : Type 1} {𝓤 : Ura M} {𝓛 : Logic 𝓤} {𝓜 : Model 𝓤 𝓛.H} {𝓡 : Running 𝓤 𝓛.H 𝓜} {S : RattleType} {o : Ghosts S.Denot} {d : Dict} → Met 𝓛 𝓜 𝓡 𝓡.env S o d → Lawful o
lawful_met b = record { rules = b.rules; admitting = b.admitting; passing = b.passing; unadmitted = b.unadmitted; unpassed = b.unpassed }
