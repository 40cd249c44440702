use Rattle.std.proofs.Common.{◌≡◌, ◌∙◌, ap, sym, false, get_or, rules, arith}
use Rattle.std.proofs.lemmas.Bool.{ltb-true}
use Rattle.jobs.specs.declared.state.TaskState.TheVariants.{Holding}
use Rattle.board.specs.Boards.{blank, ticked}
use Rattle.board.proofs.Ticks.{done_none, done_set, using_none, using_takes, using_keeps}
use Rattle.board.proofs.table.Table.tick.Goals as goal
use Rattle.board.proofs.table.Table.tick.Goals.{in-Holding, in_default}

pub loop-k-init : goal.loop-k-init
loop-k-init c = record { rows = done_none _ _ c.args.self.now.rows; used = using_none c.args.self.now.rows c.args.running.now }

pub loop-k-preserved : goal.loop-k-preserved
loop-k-preserved c =
    let s = c.args.self.now in
    let k = c.loop-k.k in
    let done = c.loop-k.invariant.rows in
    let same = done.left k (omega arith) in
    record {
      rows = done_set (λ i x. ticked (get_or c.args.blocked.now i false) x) blank s.rows c.loop-k.row-items k c.tick.new.self done (search rules) c.tick.ensures;
      used = elim c.match-row.branch [
        | in-Holding w ↦
            let at : (get_or s.rows k blank).state ≡ Holding w.in-Holding.resource = ap (λ x. x.state) (sym same) ∙ w.in-Holding.is in
            rw w.used-is (using_takes s.rows c.args.running.now c.loop-k.used w.in-Holding.resource k at (ltb-true _ 32 (rw at at (s.known k))) c.loop-k.invariant.used)
        | in_default w ↦ rw w.used-is (using_keeps s.rows c.args.running.now c.loop-k.used k (λ q e. w.in_default.not-Holding q (ap (λ x. x.state) same ∙ e)) c.loop-k.invariant.used)
      ];
    }
