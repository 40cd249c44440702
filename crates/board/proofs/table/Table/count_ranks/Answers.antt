use Rattle.std.proofs.Common.{◌<◌, sym, ◌∙◌, length, arith, rules, ap, length-append}
use Rattle.std.proofs.lemmas.Slice.Zip.{zip_turn}
use Rattle.jobs.specs.Jobs.{active}
use Rattle.board.specs.Boards.{blank}
use Rattle.board.proofs.Passes.{shared_start, shared_takes, shared_keeps, shared_few, ranked_below}
use Rattle.board.proofs.table.Table.count_ranks.Goals as goal

pub loop-row-init : goal.loop-row-init
loop-row-init c = shared_start c.args.self.now.rows

pub bounds-counts-rank : goal.bounds-counts-rank
bounds-counts-rank c =
    let z = zip_turn c.args.self.now.rows c.args.ranks.now c.loop-row.yielded c.into_iter-row-iterator.result c.loop-row.row-iterator c.next.new.self c.next.result (cc) (cc) c.loop-row.yielded_by (c.in-Some.row, c.in-Some.rank) c.in-Some.is c.next.ensures.steps in
    rw (z.3 0) (ranked_below c.args.self.now.rows c.args.ranks.now c.requires _ (omega arith))

pub overflow_add-counts : goal.overflow_add-counts
overflow_add-counts c =
    let z = zip_turn c.args.self.now.rows c.args.ranks.now c.loop-row.yielded c.into_iter-row-iterator.result c.loop-row.row-iterator c.next.new.self c.next.result (cc) (cc) c.loop-row.yielded_by (c.in-Some.row, c.in-Some.rank) c.in-Some.is c.next.ensures.steps in
    let below : c.in-Some.rank.now < 64 = rw (z.3 0) (ranked_below c.args.self.now.rows c.args.ranks.now c.requires _ (omega arith)) in
    let few = shared_few c.args.self.now.rows c.loop-row.counts (length c.loop-row.yielded) _ c.loop-row.invariant below in
    search rules

pub bounds-counts-rank-then-is_active : goal.bounds-counts-rank-then-is_active
bounds-counts-rank-then-is_active c =
    let z = zip_turn c.args.self.now.rows c.args.ranks.now c.loop-row.yielded c.into_iter-row-iterator.result c.loop-row.row-iterator c.next.new.self c.next.result (cc) (cc) c.loop-row.yielded_by (c.in-Some.row, c.in-Some.rank) c.in-Some.is c.next.ensures.steps in
    rw (z.3 0) (ranked_below c.args.self.now.rows c.args.ranks.now c.requires _ (omega arith))

pub loop-row-preserved-then-is_active : goal.loop-row-preserved-then-is_active
loop-row-preserved-then-is_active c =
    let z = zip_turn c.args.self.now.rows c.args.ranks.now c.loop-row.yielded c.into_iter-row-iterator.result c.loop-row.row-iterator c.next.new.self c.next.result (cc) (cc) c.loop-row.yielded_by (c.in-Some.row, c.in-Some.rank) c.in-Some.is c.next.ensures.steps in
    rw (length-append, z.3 0)
    (shared_takes c.args.self.now.rows c.args.ranks.now c.loop-row.counts (length c.loop-row.yielded) (omega arith) c.requires (ap (λ x. active x.state) (sym (z.2 blank)) ∙ sym c.is_active.ensures ∙ c.if-is_active.true) c.loop-row.invariant)

pub loop-row-preserved : goal.loop-row-preserved
loop-row-preserved c =
    let z = zip_turn c.args.self.now.rows c.args.ranks.now c.loop-row.yielded c.into_iter-row-iterator.result c.loop-row.row-iterator c.next.new.self c.next.result (cc) (cc) c.loop-row.yielded_by (c.in-Some.row, c.in-Some.rank) c.in-Some.is c.next.ensures.steps in
    rw length-append (shared_keeps c.args.self.now.rows c.loop-row.counts (length c.loop-row.yielded) (ap (λ x. active x.state) (sym (z.2 blank)) ∙ sym c.is_active.ensures ∙ c.if-is_active.false) c.loop-row.invariant)
