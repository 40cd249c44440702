use Rattle.std.proofs.Common.{false, get_or}
use Rattle.board.specs.Boards.{unheld, ticked_hold, Done}
use Rattle.board.proofs.tick.tick_holds.Given as goal

abbrev pub invariant-loop-r : goal.invariant-loop-r
invariant-loop-r l = Done (λ i x. ticked_hold (get_or l.used i false) x) unheld l.initial.holds l.holds l.r
