use Rattle.std.proofs.Common.{ℕ, subst}
use Rattle.runs.specs.declared.call.Call.TheVariants.{Finish}
use Rattle.kernel.specs.Views.{done}
use Rattle.kernel.specs.Promises.{Took}
use Rattle.kernel.proofs.Taking.{after, passed_on, finish_nobody, finish_took}
use Rattle.kernel.proofs.kernel.Kernel.finish.Goals as goal

pub returns-in_err-no : goal.returns-in_err-no
returns-in_err-no g c = rw (passed_on _ _ c.from_residual.ensures.1) (finish_nobody g.O.Order g.K.KeyKind c.args.self.now c.args.task c.in_err-no.field-0.0 c.in_err-no.ensures)

pub returns : goal.returns
returns g c =
    let o = g.O.Order in
    let kind = g.K.KeyKind in
    let k = c.args.self.now in
    let found = c.in_ok-no.ensures in
    subst (λ (t : ℕ). Took o kind k (Finish t) (done c.step.result) (after o kind k c.step.new.self k.order)) found.1
    (finish_took o kind k c.in_ok-no.no.number found.0 c.step.result c.step.new.self c.step.ensures.told c.step.ensures.left)
