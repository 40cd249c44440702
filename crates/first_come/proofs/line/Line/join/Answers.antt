use Rattle.std.proofs.Common.{rules}
use Rattle.first_come.specs.declared.line.Entry.{Entry}
use Rattle.first_come.proofs.Seats.{joined_neat, joined_seated}
use Rattle.first_come.proofs.line.Line.join.Goals as goal

pub invariant_of-self : goal.invariant_of-self
invariant_of-self c =
    let l = c.args.self.now in
    let e : Entry = record { task = c.args.task; code = c.args.code } in
    record {
      neat = search (rules, joined_neat l.entries.items e l.neat c.requires.new c.requires.known);
      seated = search (rules, joined_seated l.entries.items l.seats e l.seated c.requires.new (search rules));
    }
