-- A file, line by line
use Rattle.std.specs.Prelude.{◌≡◌, ℕ, ◌<◌, List, [], ◌∷◌, length, Some, None, Option}
use Rattle.std.specs.Borrow.{Bor}
use Rattle.fields.specs.Cutting.{before, lines}

-- the file l has this first line, and this follows it
pub record FirstLine (l line rest : List ℕ) : Type 0 where
  pub cut : lines l ≡ line ∷ lines rest
  pub shorter : length rest < length l
  -- no byte 10 is in the line
  pub whole : before 10 line ≡ length line

-- what a cut answers: an empty file has no line
abbrev pub CutLine : List ℕ → Option (Bor (List ℕ) × Bor (List ℕ)) → Type 0
CutLine l None = l ≡ []
CutLine l (Some (line, rest)) = FirstLine l line.now rest.now
