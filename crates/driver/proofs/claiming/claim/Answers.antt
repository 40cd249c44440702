use Rattle.kernel.specs.Views.{facts_of, state_of}
use Rattle.driver.proofs.claiming.claim.Goals as goal

pub returns-clause-names : goal.returns-clause-names
returns-clause-names g c = let k = c.args.kernel.now in let x = c.args.ticket in c.names_stand.ensures (facts_of k) (state_of k) x.task x.serial x.resource
