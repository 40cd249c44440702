use Rattle.std.proofs.Common.{ap}
use Rattle.kernel.specs.Views.{has_limits}
use Rattle.kernel.proofs.Taking.{passed_on, unchecked, tick_unchecked, tick_told}
use Rattle.kernel.proofs.kernel.Kernel.tick.Goals as goal

pub returns-in_err-ok_or : goal.returns-in_err-ok_or
returns-in_err-ok_or g c =
    let k = c.args.self.now in
    let no = unchecked k.limits c.in_err-ok_or.field-0.0 c.in_err-ok_or.ensures.value in
    rw (passed_on _ _ c.from_residual.ensures.1, no.1) (tick_unchecked g.O.Order g.K.KeyKind k no.0)

pub returns : goal.returns
returns g c =
    let t = c.tick.ensures in
    tick_told g.O.Order g.K.KeyKind c.args.self.now c.tick.result c.tick.new.self (ap has_limits c.in_ok-ok_or.ensures.ok_part) t.told t.stays t.goes
