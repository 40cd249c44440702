use Rattle.std.proofs.Common.{◌≡◌, take, drop, length}
use Rattle.event_text.specs.Places.{each_there}
use Rattle.event_text.proofs.Sofar.{Sofar}
use Rattle.event_text.proofs.There.{then_all}
use Rattle.event_text.proofs.read.read_form.Given as goal

abbrev pub invariant-loop-i : goal.invariant-loop-i
invariant-loop-i g l = Sofar l.wanted-items l.line l.i l.found l.next

abbrev pub invariant-loop-i-2 : goal.invariant-loop-i-2
invariant-loop-i-2 g l = record {
  room : length l.numbers ≡ length l.number-items;
  there : each_there l.number-items ≡ then_all (take l.i l.numbers) (each_there (drop l.i l.number-items));
}
