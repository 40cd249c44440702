use Rattle.std.proofs.Common.{false, get_or}
use Rattle.board.specs.Boards.{blank, ticked, Done}
use Rattle.board.proofs.Ticks.{Using}
use Rattle.board.proofs.table.Table.tick.Given as goal

abbrev pub invariant-loop-k : goal.invariant-loop-k
invariant-loop-k l = record {
  rows : Done (λ i x. ticked (get_or l.blocked i false) x) blank l.initial.row-items l.row-items l.k;
  used : Using l.initial.row-items l.running l.used l.k;
}
