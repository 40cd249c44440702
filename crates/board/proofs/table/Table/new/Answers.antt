use Rattle.std.proofs.Common.{replicate, refl}
use Rattle.std.proofs.lemmas.List.{length-replicate}
use Rattle.orders.proofs.Fresh.{fresh}
use Rattle.board.specs.Boards.{blank}
use Rattle.board.proofs.Kept.{new_known, new_counted}
use Rattle.board.proofs.table.Table.new.Goals as goal

pub invariant_of-result : goal.invariant_of-result
invariant_of-result c =
    let rows = replicate 64 c.new.result in
    let idle = fresh 64 c.new.result blank c.new.ensures in
    record { long = length-replicate 64 c.new.result; known = new_known rows idle; counted = new_counted rows idle (replicate 64 0) (fresh 64 0 0 refl) }

pub returns : goal.returns
returns c = fresh 64 c.new.result blank c.new.ensures
