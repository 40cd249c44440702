use Rattle.std.proofs.Common.{◌≡◌, ℕ, ◌+◌, cond, ap, ◌∙◌, sym, arith}
use Rattle.std.specs.Result.{is_ok}
use Rattle.kernel.proofs.Holding.{holds_list}
use Rattle.kernel.proofs.Running.{sofar_none, sofar_more, sofar_all}
use Rattle.kernel.proofs.kernel.Kernel.run.Goals as goal
use Rattle.kernel.proofs.kernel.Kernel.run.Goals.{then-is_ok, else-is_ok}

pub loop-call-init : goal.loop-call-init
loop-call-init g c = sofar_none g.O.Order g.K.KeyKind c.args.self.now c.args.calls.now

pub loop-call-preserved : goal.loop-call-preserved
loop-call-preserved g c =
    let count : c.if-is_ok.accepted ≡ c.loop-call.accepted + cond (is_ok c.dispatch.result) 1 0 =
    elim c.if-is_ok.branch [
      | then-is_ok w ↦ omega (arith, w.accepted-is, ap {B = ℕ} (λ b. cond b 1 0) (sym c.is_ok.ensures.value ∙ w.if-is_ok.true))
      | else-is_ok w ↦ omega (arith, w.accepted-is, ap {B = ℕ} (λ b. cond b 1 0) (sym c.is_ok.ensures.value ∙ w.if-is_ok.false))
    ] in
    sofar_more g.O.Order g.K.KeyKind c.args.self.now c.args.calls.now c.loop-call.call-index c.loop-call.accepted c.if-is_ok.accepted c.loop-call.self c.dispatch.new.self c.call-item.result c.dispatch.result (omega arith) c.call-item.is c.loop-call.invariant
    c.dispatch.ensures.took count

pub returns-clause-ran : goal.returns-clause-ran
returns-clause-ran g c = sofar_all g.O.Order g.K.KeyKind c.args.self.now c.args.calls.now c.loop-call.call-index c.loop-call.accepted c.loop-call.self (holds_list g.O.Order g.K.KeyKind c.guarantee_stands.ensures c.args.self.now) (omega arith) c.loop-call.invariant
