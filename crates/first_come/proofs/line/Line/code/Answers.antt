use Rattle.std.proofs.Common.{rules}
use Rattle.first_come.proofs.Seats.{found_code}
use Rattle.first_come.proofs.line.Line.code.Goals as goal

pub bounds-deref-place : goal.bounds-deref-place
bounds-deref-place c = let h = found_code c.args.task c.in_ok-place.place c.args.self.now.entries.items c.in_ok-place.ensures in search (rules, h.0)

pub returns : goal.returns
returns c = let h = found_code c.args.task c.in_ok-place.place c.args.self.now.entries.items c.in_ok-place.ensures in search (rules, h.1)
