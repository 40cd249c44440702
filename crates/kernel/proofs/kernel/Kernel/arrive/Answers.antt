use Rattle.std.proofs.Common.{ℕ, Err, Result, sym, ap, ◌∙◌, subst}
use Rattle.orders.proofs.Answered.{asked_some}
use Rattle.runs.specs.declared.call.Call.TheVariants.{Arrive}
use Rattle.runs.specs.declared.refusal.Refusal.{Refusal}
use Rattle.runs.specs.declared.refusal.Refusal.TheVariants.{OutOfRange}
use Rattle.board.specs.Events.{verdict}
use Rattle.kernel.specs.Views.{done}
use Rattle.kernel.specs.Promises.{Took}
use Rattle.kernel.proofs.Taking.{after, passed_on, verdict_err, verdict_ok, stepped_put, out_of_range, arrive_unknown, arrive_refused, arrive_out, arrive_took}
use Rattle.kernel.proofs.kernel.Kernel.arrive.Goals as goal

pub returns-in_err-no : goal.returns-in_err-no
returns-in_err-no g c = rw (passed_on _ _ c.from_residual.ensures.1) (arrive_unknown g.O.Order g.K.KeyKind c.args.self.now c.args.task c.in_err-no.field-0.0 c.in_err-no.ensures c.args.declared)

pub returns-in_err-may : goal.returns-in_err-may
returns-in_err-may g c =
    let o = g.O.Order in
    let kind = g.K.KeyKind in
    let k = c.args.self.now in
    let found = c.in_ok-no.ensures in
    let e = c.in_err-may.field-0.0 in
    rw (passed_on _ _ c.from_residual-in_err-may.ensures.1)
    (subst (λ (t : ℕ). Took o kind k (Arrive t c.args.declared) (Err e) k) found.1 (arrive_refused o kind k c.in_ok-no.no.number found.0 c.args.declared e (verdict_err _ _ c.in_err-may.ensures)))

pub returns-in_err-code : goal.returns-in_err-code
returns-in_err-code g c =
    let o = g.O.Order in
    let kind = g.K.KeyKind in
    let k = c.args.self.now in
    let found = c.in_ok-no.ensures in
    let d = c.args.declared in
    let out = out_of_range (kind.ranged d) (kind.code (kind.key d c.now.result)) c.code_at.result c.in_err-code.field-0.0 c.code_at.ensures c.in_err-code.ensures.value in
    rw (passed_on _ _ c.from_residual-in_err-code.ensures.1, out.1)
    (subst (λ (t : ℕ). Took o kind k (Arrive t d) (Err OutOfRange) k) found.1 (arrive_out o kind k c.in_ok-no.no.number found.0 d (verdict_ok _ _ c.in_ok-may.ensures) out.0))

pub returns : goal.returns
returns g c =
    let o = g.O.Order in
    let kind = g.K.KeyKind in
    let k = c.args.self.now in
    let found = c.in_ok-no.ensures in
    let n = c.in_ok-no.no.number in
    let d = c.args.declared in
    let free = verdict_ok _ _ c.in_ok-may.ensures in
    let a = asked_some (kind.ranged d) (kind.code (kind.key d c.now.result)) c.in_ok-code.code (sym c.in_ok-code.ensures.ok_part ∙ c.code_at.ensures) in
    subst (λ (t : ℕ). Took o kind k (Arrive t d) (done c.step.result) (after o kind k c.step.new.self k.order)) found.1
    (subst (λ (x : Result (Unit {0}) Refusal). Took o kind k (Arrive n d) (done x) (after o kind k c.step.new.self k.order)) (sym (c.step.ensures.told ∙ ap verdict free))
    (arrive_took o kind k n found.0 d c.in_ok-code.code c.step.new.self free a.0 (a.1 ∙ ap (λ x. kind.code (kind.key d x)) c.now.ensures) (stepped_put _ _ _ _ _ free c.step.ensures.left)))
