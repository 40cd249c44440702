use Rattle.std.proofs.Common.{◌≡◌, ◌<◌, true, List, length, sym, ◌∙◌, subst, rules}
use Rattle.std.proofs.lemmas.List.{length-set}
use Rattle.board.specs.declared.record.TaskRecord.{TaskRecord}
use Rattle.board.specs.Boards.{blank, named, Counted}
use Rattle.board.proofs.Kept.{set_all, set_back}
use Rattle.board.proofs.table.Table.put.Goals as goal

pub recount-requires : goal.recount-requires
recount-requires c =
    let s = c.args.self.now in
    rw (sym c.get-t.ensures) (subst (λ (rows : List TaskRecord). Counted rows s.ahead) (sym (set_back s.rows c.get-t.result c.args.new blank)) s.counted)

pub invariant_of-self : goal.invariant_of-self
invariant_of-self c =
    let s = c.args.self.now in
    let t = c.get-t.result in
    let in_table : t < length s.rows = search rules in
    record {
      long = length-set s.rows t c.args.new ∙ s.long;
      known = set_all (λ y. named y.state ≡ true) s.rows t c.args.new blank in_table c.requires s.known;
      counted = c.recount.ensures;
    }
