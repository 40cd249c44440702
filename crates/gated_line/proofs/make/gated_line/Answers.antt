use Rattle.gated_line.proofs.Made.{made_empty}
use Rattle.gated_line.proofs.make.gated_line.Goals as goal

pub returns-clause-empty : goal.returns-clause-empty
returns-clause-empty c =
    let line = c.new.ensures in
    let gate = c.new-2.ensures in
    made_empty c.new-2.result c.new.result c.args.width gate.lower line.width line.places line.lines gate.fresh gate.rows
