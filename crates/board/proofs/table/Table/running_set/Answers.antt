use Rattle.std.proofs.Common.{◌≡◌, ◌∙◌, false, ◌&&◌, ltb, get_or, rules}
use Rattle.jobs.specs.Jobs.{active, running}
use Rattle.board.specs.Boards.{blank, jobs_of}
use Rattle.board.proofs.Made.{made, callable}
use Rattle.board.proofs.Passes.{ranked_below, shared_small, preceded_sums, picked}
use Rattle.board.proofs.table.Table.running_set.Goals as goal

pub sums_before-before-requires : goal.sums_before-before-requires
sums_before-before-requires c = shared_small c.args.self.now.rows c.count_ranks.result c.count_ranks.ensures

pub from_fn-requires : goal.from_fn-requires
from_fn-requires c = (
  search rules,
  callable (λ k l. let small = ranked_below c.args.self.now.rows c.effective_ranks-ranks.result c.effective_ranks-ranks.ensures k l in search rules) (λ k y q h. search rules),
)

pub returns : goal.returns
returns c =
    let rows = c.args.self.now.rows in
    let ranks = c.effective_ranks-ranks in
    let before = c.sums_before-before in
    let preceded = preceded_sums rows c.count_ranks.result before.result c.count_ranks.ensures before.ensures in
    made c.from_fn.ensures.items (λ k x. x ≡ running (jobs_of rows) c.args.cores k) (λ k x q m h.
    let e : x ≡ (active (get_or rows k blank).state && ltb (get_or before.result (get_or ranks.result k 0) 0) c.args.cores) = search (rules, h.met) in
    (search (rules, h.met), e ∙ picked rows ranks.result before.result c.args.cores k m ranks.ensures preceded)) false
