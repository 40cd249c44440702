use Rattle.std.proofs.Common.{◌≡◌, ℕ, true, false, eqb, Some, Ok, Err, sym, refl, ap, ◌∙◌, subst}
use Rattle.std.specs.Option.{option_eq, unwrap_or}
use Rattle.orders.specs.Orders.{asked}
use Rattle.runs.specs.declared.call.Call.TheVariants.{Request}
use Rattle.runs.specs.declared.refusal.Refusal.TheVariants.{Order}
use Rattle.kernel.specs.Views.{counted}
use Rattle.kernel.specs.Promises.{Took}
use Rattle.kernel.proofs.Taking.{after, passed_on, verdict_err, verdict_ok, stepped_put, request_nobody, request_unknown, request_refused, request_kept, request_took}
use Rattle.kernel.proofs.kernel.Kernel.request.Goals as goal

pub returns-in_err-no : goal.returns-in_err-no
returns-in_err-no g c = rw (passed_on _ _ c.from_residual.ensures.1) (request_nobody g.O.Order g.K.KeyKind c.args.self.now c.args.task c.in_err-no.field-0.0 c.in_err-no.ensures c.args.resource)

pub returns-in_err-wanted : goal.returns-in_err-wanted
returns-in_err-wanted g c =
    let o = g.O.Order in
    let kind = g.K.KeyKind in
    let k = c.args.self.now in
    let r = c.args.resource in
    let found = c.in_ok-no.ensures in
    let e = c.in_err-wanted.field-0.0 in
    rw (passed_on _ _ c.from_residual-in_err-wanted.ensures.1) (subst (λ (t : ℕ). Took o kind k (Request t r) (Err e) k) found.1 (request_unknown o kind k c.in_ok-no.no.number found.0 r e c.in_err-wanted.ensures))

pub returns-in_err-may : goal.returns-in_err-may
returns-in_err-may g c =
    let o = g.O.Order in
    let kind = g.K.KeyKind in
    let k = c.args.self.now in
    let r = c.args.resource in
    let found = c.in_ok-no.ensures in
    let e = c.in_err-may.field-0.0 in
    rw (passed_on _ _ c.from_residual-in_err-may.ensures.1)
    (subst (λ (t : ℕ). Took o kind k (Request t r) (Err e) k) found.1 (request_refused o kind k c.in_ok-no.no.number found.0 c.in_ok-wanted.wanted false 0 r c.in_ok-wanted.ensures.0 e (verdict_err _ _ c.in_err-may.ensures)))

pub returns-in_err-admit : goal.returns-in_err-admit
returns-in_err-admit g c =
    let o = g.O.Order in
    let kind = g.K.KeyKind in
    let k = c.args.self.now in
    let n = c.in_ok-no.no.number in
    let found = c.in_ok-no.ensures in
    let r = c.args.resource in
    let word = c.in_err-admit.field-0.0 in
    let q = c.admit.new.self in
    let a = c.in_err-admit.ensures in
    let at_n = subst (λ (x : ℕ). o.admitted k.order r n x (Err word) q) (ap (λ y. y.code) c.record-own.ensures) (subst (λ (t : ℕ). o.admitted k.order r t c.record-own.result.code (Err word) q) (sym found.1) a) in
    rw (passed_on _ (Order word) c.from_residual-in_err-admit.ensures.1)
    (subst (λ (t : ℕ). Took o kind k (Request t r) (Err (Order word)) (after o kind k k.board q)) found.1
    (request_kept o kind k n found.0 c.in_ok-wanted.wanted false 0 r c.in_ok-wanted.ensures.0 (verdict_ok _ _ c.in_ok-may.ensures) word q at_n (g.met.O.Order.unadmitted k.order r c.args.task c.record-own.result.code word q a)))

pub returns : goal.returns
returns g c =
    let o = g.O.Order in
    let kind = g.K.KeyKind in
    let k = c.args.self.now in
    let n = c.in_ok-no.no.number in
    let found = c.in_ok-no.ensures in
    let r = c.args.resource in
    let t = c.args.task in
    let q = c.admit.new.self in
    let a = c.in_ok-admit.ensures in
    let at_n = subst (λ (x : ℕ). o.admitted k.order r n x (Ok tt) q) (ap (λ y. y.code) c.record-own.ensures) (subst (λ (t : ℕ). o.admitted k.order r t c.record-own.result.code (Ok tt) q) (sym found.1) a) in
    let queued : o.queue q r t ≡ true = ((g.met.O.Order.admitting k.order r t c.record-own.result.code (Ok tt) q a).joined refl).queued in
    let free = verdict_ok _ _ c.in_ok-may.ensures in
    let told : c.unwrap_or-told.result ≡ o.count q r n =
    c.unwrap_or-told.ensures ∙ ap (λ x. unwrap_or x 0) (c.count.ensures ∙ ap (λ b. asked b (o.count q r t)) queued) ∙ ap (o.count q r) (sym found.1) in
    let fits : c.eq-granted.result ≡ option_eq eqb (o.holder q r) (Some n) =
    c.eq-granted.ensures ∙ ap (λ h. option_eq eqb h (Some t)) c.holder.ensures ∙ ap (λ x. option_eq eqb (o.holder q r) (Some x)) (sym found.1) in
    subst (λ (x : ℕ). Took o kind k (Request x r) (counted (Ok c.unwrap_or-told.result)) (after o kind k c.step.new.self q)) found.1
    (request_took o kind k n found.0 c.in_ok-wanted.wanted false 0 r c.in_ok-wanted.ensures.0 free q c.unwrap_or-told.result c.in_ok-wanted.wanted.number c.eq-granted.result (o.holder q r) c.step.new.self at_n refl fits told c.in_ok-wanted.ensures.1
    (stepped_put _ _ _ _ _ free c.step.ensures.left))
