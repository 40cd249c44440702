use Rattle.longest_run.proofs.Ending.{reached}
use Rattle.longest_run.proofs.run.longest_wait.Goals as goal

pub returns : goal.returns
returns g c =
    let a = c.args in let s = c.start-kernel.ensures in
    record {
      reached = reached g.K.KeyKind c.guarantee_stands.ensures c.longest_wait_stands.ensures.fresh c.longest_wait_stands.ensures.longest
          a.cores a.tasks a.resources a.declared c.gated_line.result c.start-kernel.result c.make_calls.new.kernel c.gated_line.ensures.empty s.order s.facts c.make_calls.ensures;
    }
