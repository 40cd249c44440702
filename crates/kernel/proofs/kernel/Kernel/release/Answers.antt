use Rattle.std.proofs.Common.{ℕ, Ok, Err, subst}
use Rattle.runs.specs.declared.call.Call.TheVariants.{Release}
use Rattle.runs.specs.declared.refusal.Refusal.TheVariants.{Order}
use Rattle.kernel.specs.Views.{handed}
use Rattle.kernel.specs.Promises.{Took}
use Rattle.orders.proofs.Bounds.{lawful_met}
use Rattle.kernel.proofs.Taking.{after, passed_on, verdict_err, verdict_ok, stepped_put, next_below, release_nobody, release_refused, release_kept, release_took}
use Rattle.kernel.proofs.kernel.Kernel.release.Goals as goal

pub returns-in_err-no : goal.returns-in_err-no
returns-in_err-no g c = rw (passed_on _ _ c.from_residual.ensures.1) (release_nobody g.O.Order g.K.KeyKind c.args.self.now c.args.task c.in_err-no.field-0.0 c.in_err-no.ensures)

pub returns-in_err-may : goal.returns-in_err-may
returns-in_err-may g c =
    let o = g.O.Order in
    let kind = g.K.KeyKind in
    let k = c.args.self.now in
    let found = c.in_ok-no.ensures in
    let e = c.in_err-may.field-0.0 in
    rw (passed_on _ _ c.from_residual-in_err-may.ensures.1) (subst (λ (t : ℕ). Took o kind k (Release t) (Err e) k) found.1 (release_refused o kind k c.in_ok-no.no.number found.0 e (verdict_err _ _ c.in_err-may.ensures)))

pub returns-in_err-next : goal.returns-in_err-next
returns-in_err-next g c =
    let o = g.O.Order in
    let kind = g.K.KeyKind in
    let k = c.args.self.now in
    let found = c.in_ok-no.ensures in
    let word = c.in_err-next.field-0.0 in
    let q = c.pass.new.self in
    let r = c.in_ok-held.held.number in
    let a = subst (λ (x : ℕ). o.passed k.order x (Err word) q) c.get.ensures c.in_err-next.ensures in
    let at = rw c.in_ok-held.ensures.ok_part at c.held.ensures in
    rw (passed_on _ (Order word) c.from_residual-in_err-next.ensures.1)
    (subst (λ (t : ℕ). Took o kind k (Release t) (Err (Order word)) (after o kind k k.board q)) found.1
    (release_kept o kind k c.in_ok-no.no.number found.0 (verdict_ok _ _ c.in_ok-may.ensures) r word q at a (g.met.O.Order.unpassed k.order r word q a)))

pub hand_over-requires : goal.hand_over-requires
hand_over-requires g c =
    next_below g.O.Order (lawful_met g.met.O.Order) c.args.self.now.order c.pass.new.self c.get.result c.in_ok-next.next c.in_ok-next.ensures

pub returns : goal.returns
returns g c =
    let o = g.O.Order in
    let kind = g.K.KeyKind in
    let k = c.args.self.now in
    let found = c.in_ok-no.ensures in
    let q = c.pass.new.self in
    let r = c.in_ok-held.held.number in
    let next = c.in_ok-next.next in
    let free = verdict_ok _ _ c.in_ok-may.ensures in
    let a = subst (λ (x : ℕ). o.passed k.order x (Ok next) q) c.get.ensures c.in_ok-next.ensures in
    let at = rw c.in_ok-held.ensures.ok_part at c.held.ensures in
    subst (λ (t : ℕ). Took o kind k (Release t) (handed (Ok next)) (after o kind k c.hand_over.new.board q)) found.1
    (release_took o kind k c.in_ok-no.no.number found.0 free r next q c.step.new.self c.hand_over.new.board at a (stepped_put _ _ _ _ _ free c.step.ensures.left) c.hand_over.ensures)
