use Rattle.std.proofs.Common.{◌≡◌, ◌+◌, leb, false, refl, ◌∙◌, add-one, arith, rules}
use Rattle.std.proofs.lemmas.Bool.Decides.{nat_tests}
use Rattle.board.proofs.Ticks.{ticked_jobs, ticked_runs, ticked_blocks, ticked_short, ticked_rows, ticked_brief, ticked_holds}
use Rattle.board.proofs.board.Board.tick.Goals as goal

pub invariant_of-self : goal.invariant_of-self
invariant_of-self c =
    let s = c.args.self.now in
    let rows = s.table.rows in
    let after = c.tick-used.new.self.rows in
    let done = c.tick-used.ensures.rows in
    let next : c.in_ok-ticks.ticks ≡ s.ticks + 1 = search rules in
    record {
      runs = ticked_runs rows after s.cores s.running s.blocked done s.runs;
      blocks = ticked_blocks rows after s.cores s.running s.blocked done s.blocks;
      short = rw next (ticked_short rows after s.cores s.running s.blocked done s.ticks s.short);
      brief = rw next (ticked_brief s.holds c.tick_holds.new.holds c.tick-used.result c.tick_holds.ensures s.ticks s.brief);
    }

pub returns : goal.returns
returns c =
    let s = c.args.self.now in
    let rows = s.table.rows in
    let after = c.tick-used.new.self.rows in
    let done = c.tick-used.ensures.rows in
    let next : c.in_ok-ticks.ticks ≡ s.ticks + 1 = search rules in
    let free : leb 4294967295 s.ticks ≡ false = grind (arith, nat_tests) in
    record {
      told = rw free refl;
      stays = λ e. cc;
      goes = λ _. record {
        cores = refl;
        now = next ∙ add-one s.ticks;
        rows = ticked_rows rows after s.cores s.running s.blocked done s.table.long s.blocks;
        holds = ticked_holds s.holds c.tick_holds.new.holds c.tick-used.result c.tick_holds.ensures rows s.cores s.running s.table.known s.runs c.tick-used.ensures.used;
        jobs = ticked_jobs rows after 64 s.blocked done;
      };
    }
