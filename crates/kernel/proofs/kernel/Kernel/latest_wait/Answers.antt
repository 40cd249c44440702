use Rattle.std.proofs.Common.{◌≡◌, Some, rules}
use Rattle.kernel.specs.Views.{facts_of, state_of, wait_answer}
use Rattle.kernel.proofs.Waiting.{waited}
use Rattle.kernel.proofs.kernel.Kernel.latest_wait.Goals as goal

pub returns-clause-within : goal.returns-clause-within
returns-clause-within g c = λ w is start h fresh leads.
    let k = c.args.self.now in
    let told : wait_answer k c.args.task ≡ Some w = search rules in
    waited g.O.Order g.K.KeyKind k c.args.task start h (c.guarantee_stands.ensures (facts_of k) start (state_of k) h fresh leads) w told
