-- Where a task stands at a gate
use Rattle.std.specs.Prelude.{ℕ, cond}
use Rattle.orders.specs.declared.order.Order.{Ghosts}
use Rattle.orders.specs.Orders.{is_it}
use Rattle.gate.specs.declared.gate.Gate.{Gate}
use Rattle.gate.specs.Gates.{gate_meaning, in_gate}
use Rattle.gated_line.specs.declared.place.Standing.{Standing}
use Rattle.gated_line.specs.declared.place.Standing.TheVariants.{Away, Holds, Below, InGate, Covered}

-- not queued; or holding; or waiting below, or in the gate, covered or not, each with the count
abbrev pub standing_of : {L : Type 0} → Ghosts L → Gate L → ℕ → ℕ → Standing
standing_of o g r t =
    cond ((gate_meaning o g).queued r t)
    (cond (is_it ((gate_meaning o g).holder r) t) Holds
    (cond (in_gate o g r t)
    (cond ((gate_meaning o g).covered r t) (Covered ((gate_meaning o g).count r t)) (InGate ((gate_meaning o g).count r t)))
    (Below ((gate_meaning o g).count r t)))) Away
