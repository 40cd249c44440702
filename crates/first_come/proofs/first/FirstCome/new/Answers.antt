use Rattle.std.specs.Array.{AllOfLen}
use Rattle.std.proofs.Common.{◌≡◌, ◌<◌, ℕ, List, [], get_or, replicate, sym, ◌∙◌, arith}
use Rattle.std.proofs.lemmas.List.{ext_get_or, get_or-replicate, get_or_past}
use Rattle.first_come.specs.declared.line.Line.{Line}
use Rattle.first_come.specs.Lines.{empty, fresh_line, waiting}
use Rattle.first_come.proofs.first.FirstCome.new.Goals as goal

module _ (ls : List Line) (fresh : AllOfLen (λ l. l ≡ fresh_line) ls 32) where
  fresh_lines : ls ≡ replicate 32 fresh_line
  fresh_lines = ext_get_or fresh_line ls (replicate 32 fresh_line) fresh.long (λ i b. let k : i < 32 = omega (arith, fresh.long) in fresh.at i fresh_line k ∙ sym (get_or-replicate 32 i fresh_line fresh_line k))

  nobody_waits : (r : ℕ) → waiting (get_or ls r empty) ≡ []
  nobody_waits r =
      grind (arith, fresh.long, fresh.at r empty, get_or_past ls r empty)

pub invariant_of-result-clause-fits : goal.invariant_of-result-clause-fits
invariant_of-result-clause-fits c = λ r. rw (nobody_waits c.default.result c.default.ensures r) (omega arith)

pub returns-clause-lines : goal.returns-clause-lines
returns-clause-lines c = fresh_lines c.default.result c.default.ensures
