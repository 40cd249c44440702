-- Cutting a list of bytes
use Rattle.std.specs.Prelude.{ℕ, suc, cond, List, [], ◌∷◌, take, ◌==◌}

-- how many bytes stand before the first b, or before the end
unfoldable pub before : ℕ → List ℕ → ℕ
before b [] = 0
before b (x ∷ xs) = cond (x == b) 0 (suc (before b xs))

-- x in front of the first piece
abbrev pub onto : ℕ → List (List ℕ) → List (List ℕ)
onto x [] = (x ∷ []) ∷ []
onto x (p ∷ ps) = (x ∷ p) ∷ ps

-- the pieces of a list that is cut at every b; an empty list has the pieces `last`
unfoldable pub pieces : ℕ → List (List ℕ) → List ℕ → List (List ℕ)
pieces b last [] = last
pieces b last (x ∷ xs) = cond (x == b) ([] ∷ pieces b last xs) (onto x (pieces b last xs))

-- the lines of a file: cut at every byte 10; no line follows one at the very end
abbrev pub lines : List ℕ → List (List ℕ)
lines l = pieces 10 [] l

-- the parts of a line: cut at every space, so that there is at least one
abbrev pub parts : List ℕ → List (List ℕ)
parts l = pieces 32 ([] ∷ []) l

-- the first of the parts
abbrev pub first_part : List ℕ → List ℕ
first_part l = take (before 32 l) l
