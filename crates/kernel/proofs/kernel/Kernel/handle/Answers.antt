use Rattle.kernel.proofs.Holding.{holds_call}
use Rattle.kernel.proofs.kernel.Kernel.handle.Goals as goal

pub returns-clause-holds : goal.returns-clause-holds
returns-clause-holds g c = holds_call g.O.Order g.K.KeyKind c.guarantee_stands.ensures c.args.self.now c.args.call c.dispatch.result c.dispatch.new.self c.dispatch.ensures.took
