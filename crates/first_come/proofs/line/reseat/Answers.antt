use Rattle.std.proofs.Common.{rules}
use Rattle.first_come.proofs.Seats.{task_below, placed_more}
use Rattle.first_come.proofs.line.reseat.Goals as goal

pub bounds-seats-entry : goal.bounds-seats-entry
bounds-seats-entry c = search (rules, task_below c.args.entries.now.items c.requires c.loop-place.place, c.deref-entry-items.ensures)

pub loop-place-preserved : goal.loop-place-preserved
loop-place-preserved c =
    search (rules, placed_more c.args.entries.now.items c.requires c.loop-place.seats c.loop-place.place, c.loop-place.invariant, c.deref-entry-items.ensures)
