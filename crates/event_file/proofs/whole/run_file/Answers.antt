use Rattle.std.proofs.Common.{IfOk, subst}
use Rattle.event_report.specs.declared.report.Reason.{Reason}
use Rattle.event_report.specs.Reasons.{Refused}
use Rattle.event_file.proofs.Choosing.{empty_file}
use Rattle.event_file.proofs.whole.run_file.Goals as goal

pub returns-in_default : goal.returns-in_default
returns-in_default c =
    let why = subst (λ (x : Reason). IfOk c.refuse-in_default.result (Refused x)) c.into.ensures c.refuse-in_default.ensures in
    empty_file c.args.bytes.now c.refuse-in_default.result c.in_default.ensures why
