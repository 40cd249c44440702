use Rattle.std.proofs.Common.{◌≡◌, ◌∙◌, length, get_or, min, sym, arith, rules, ap, ◌<◌, length-append}
use Rattle.std.proofs.lemmas.Bool.{ltb-true}
use Rattle.jobs.specs.declared.state.TaskState.TheVariants.{Waiting}
use Rattle.jobs.specs.Jobs.{demand}
use Rattle.std.proofs.lemmas.Slice.Zip.{zip_turn}
use Rattle.board.specs.Boards.{blank, jobs_of}
use Rattle.board.proofs.Passes.{leading_none, leading_takes, leading_keeps}
use Rattle.board.proofs.table.Table.least_waiting.Goals as goal

pub loop-row-init : goal.loop-row-init
loop-row-init c = leading_none c.args.self.now.rows

pub loop-row-preserved-in-Waiting : goal.loop-row-preserved-in-Waiting
loop-row-preserved-in-Waiting c =
    let s = c.args.self.now in
    let z = zip_turn s.rows s.ahead c.loop-row.yielded c.into_iter-row-iterator.result c.loop-row.row-iterator c.next.new.self c.next.result (cc) (cc) c.loop-row.yielded_by (c.in-Some.row, c.in-Some.ahead) c.in-Some.is c.next.ensures.steps in
    let at : (get_or s.rows (length c.loop-row.yielded) blank).state ≡ Waiting c.in-Waiting.resource = sym (ap (λ x. x.state) (z.2 blank)) ∙ c.in-Waiting.is in
    let below : c.in-Waiting.resource < 32 = ltb-true _ 32 (rw at at (s.known (length c.loop-row.yielded))) in
    let a : c.in-Some.ahead.now ≡ demand (jobs_of s.rows) (length c.loop-row.yielded) = z.3 0 ∙ s.counted (length c.loop-row.yielded) (omega arith) in
    let e : c.min.result ≡ min (get_or c.loop-row.best c.in-Waiting.resource 0) (demand (jobs_of s.rows) (length c.loop-row.yielded)) = search rules in
    rw (length-append, e) (leading_takes s.rows c.loop-row.best c.in-Waiting.resource (length c.loop-row.yielded) at below c.loop-row.invariant)

pub loop-row-preserved : goal.loop-row-preserved
loop-row-preserved c =
    let s = c.args.self.now in
    let z = zip_turn s.rows s.ahead c.loop-row.yielded c.into_iter-row-iterator.result c.loop-row.row-iterator c.next.new.self c.next.result (cc) (cc) c.loop-row.yielded_by (c.in-Some.row, c.in-Some.ahead) c.in-Some.is c.next.ensures.steps in
    rw length-append (leading_keeps s.rows c.loop-row.best (length c.loop-row.yielded) (λ q e. c.in_default.not-Waiting q (ap (λ x. x.state) (z.2 blank) ∙ e)) c.loop-row.invariant)
