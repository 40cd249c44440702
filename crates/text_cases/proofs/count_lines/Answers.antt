use Rattle.std.proofs.Common.{◌≡◌, ℕ, ◌+◌, List, [], length, ap, arith}
use Rattle.fields.specs.Cutting.{lines, pieces}
use Rattle.text_cases.proofs.count_lines.Goals as goal

-- an empty file has no line
none_left : (n m : ℕ) (l : List ℕ) → n + length (lines l) ≡ m → l ≡ [] → n ≡ m
unfolding pieces
none_left n m l e empty = omega (arith, ap (λ (k : List ℕ). length (lines k)) empty)

pub returns : goal.returns
returns c = none_left c.loop-rest.count _ c.loop-rest.left.now c.loop-rest.invariant.0 c.in_default.ensures
