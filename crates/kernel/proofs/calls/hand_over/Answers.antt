use Rattle.kernel.proofs.Taking.{handed_some}
use Rattle.kernel.proofs.calls.hand_over.Goals as goal

pub returns-in-Some : goal.returns-in-Some
returns-in-Some c = handed_some c.args.board.now c.start_hold.new.self c.grant.new.self c.args.next c.in-Some.heir c.args.held.number c.in-Some.ensures c.start_hold.ensures c.grant.ensures
