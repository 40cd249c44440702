use Rattle.first_come.proofs.Seats.{Placed}
use Rattle.first_come.proofs.line.reseat.Given as goal

abbrev pub invariant-loop-place : goal.invariant-loop-place
invariant-loop-place l = Placed l.entries.items l.place l.seats
