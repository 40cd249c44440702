-- The tasks in line, as a list of entries
use Rattle.std.specs.Prelude.{◌≡◌, ℕ, suc, ◌<◌, Bool, true, false, cond, not, ◌&&◌, ◌||◌, List, [], ◌∷◌, length, Some, None, Option, ◌==◌, nat_lt, slice_index, slice_index_or}
use Rattle.first_come.specs.declared.line.Entry.{Entry}

-- what is read past the end of a list of entries
abbrev pub blank : Entry
blank = record { task = 0; code = 0 }

-- whether the task t is in line
abbrev pub has : ℕ → List Entry → Bool
has t [] = false
has t (e ∷ es) = e.task == t || has t es

-- the place of the task t in line, which is how many are ahead of it
abbrev pub place : ℕ → List Entry → ℕ
place t [] = 0
place t (e ∷ es) = cond (e.task == t) 0 (suc (place t es))

-- the code with which the task t came into the line
abbrev pub code_of : ℕ → List Entry → ℕ
code_of t [] = 0
code_of t (e ∷ es) = cond (e.task == t) e.code (code_of t es)

-- the task that is first in line
abbrev pub leader : List Entry → Option ℕ
leader [] = None
leader (e ∷ es) = Some e.task

-- each task in line is below 64, and none is in line twice
abbrev pub proper : List Entry → Bool
proper [] = true
proper (e ∷ es) = nat_lt e.task 64 && (not (has e.task es) && proper es)

-- under each task in line the seats have its place
abbrev pub Seated : List Entry → List ℕ → Type 0
Seated es seats = (i : ℕ) → i < length es → slice_index seats (slice_index_or es i blank).task ≡ i
