use Rattle.std.proofs.Common.{◌≡◌, ◌<◌, length, get_or, ◌∙◌, rules, arith, slice_set}
use Rattle.board.specs.Boards.{blank, jobs_of, Counted}
use Rattle.jobs.specs.Jobs.{pending, demand}
use Rattle.board.proofs.Ticks.{done_set}
use Rattle.board.proofs.Demands.{demand_kept, demand_moved, demand_fits}
use Rattle.board.proofs.demand.recount.Goals as goal
use Rattle.board.proofs.demand.recount.Goals.{then-k-t, else-k-t}

pub returns-then-old-new : goal.returns-then-old-new
returns-then-old-new c k b =
    let t = c.get-t.result in
    let counted : Counted (slice_set c.args.rows.now t c.args.old) c.args.ahead.now = rw c.get-t.ensures c.requires in
    let inside : t < length c.args.rows.now = search rules in
    let alike : pending c.args.old.state ≡ pending (get_or c.args.rows.now t blank).state = grind (arith, c.is_pending.ensures, c.is_pending-2.ensures, c.if-is_pending.true) in
    let code : c.args.old.code ≡ (get_or c.args.rows.now t blank).code = c.if-old-new.true in
    counted k b ∙ demand_kept c.args.rows.now t c.args.old inside alike code k

pub shifted-requires : goal.shifted-requires
shifted-requires c =
    let t = c.get-t.result in
    let counted : Counted (slice_set c.args.rows.now t c.args.old) c.args.ahead.now = rw c.get-t.ensures c.requires in
    demand_fits c.args.rows.now t c.args.old c.loop-k.k (omega arith) (search rules) c.if-k-t.false _ (c.loop-k.invariant.left c.loop-k.k (omega arith) ∙ counted c.loop-k.k c.loop-k-test.true) _ (rw (c.rank-was.ensures, c.rank-own.ensures) at c.is_before.ensures)

pub loop-k-preserved : goal.loop-k-preserved
loop-k-preserved c =
    let t = c.get-t.result in
    let counted : Counted (slice_set c.args.rows.now t c.args.old) c.args.ahead.now = rw c.get-t.ensures c.requires in
    let was = c.loop-k.invariant.left c.loop-k.k (omega arith) ∙ counted c.loop-k.k c.loop-k-test.true in
    done_set (λ k x. demand (jobs_of c.args.rows.now) k) 0 c.args.ahead.now c.loop-k.ahead c.loop-k.k c.if-k-t.count c.loop-k.invariant (search rules)
    (elim c.if-k-t.branch [
      | then-k-t w ↦ rw (w.count-is, w.if-k-t.true, c.get-t.ensures) w.demand.ensures
      | else-k-t w ↦ rw w.count-is (demand_moved c.args.rows.now t c.args.old c.loop-k.k (omega arith) (search rules) w.if-k-t.false _ was _ _ (rw (c.rank-was.ensures, c.rank-own.ensures) at w.is_before.ensures) (rw (c.rank-is.ensures, c.rank-own.ensures) at w.is_before-else-k-t.ensures) _ w.shifted.ensures)
    ])
