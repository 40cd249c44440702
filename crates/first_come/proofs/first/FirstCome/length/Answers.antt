use Rattle.std.proofs.Common.{rules}
use Rattle.first_come.specs.First.{line_of}
use Rattle.first_come.specs.Lined.{tally_line}
use Rattle.first_come.specs.Firsts.{neat_of}
use Rattle.first_come.proofs.first.FirstCome.length.Goals as goal

pub returns-clause-sized : goal.returns-clause-sized
returns-clause-sized c =
    let s = c.args.self.now in
    let r = c.args.resource in
    rw (tally_line (line_of s r) ((neat_of s).neat r)) (search rules)
