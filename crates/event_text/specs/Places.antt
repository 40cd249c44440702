-- The fields of a line by their places
use Rattle.std.specs.Prelude.{ℕ, ◌+◌, cond, List, [], ◌∷◌, length, drop, Some, None, Option, nat_lt}
use Rattle.fields.specs.Cutting.{first_part, parts}
use Rattle.event_text.specs.declared.form.Wanted.{Wanted}
use Rattle.event_text.specs.declared.form.Found.{Found}
use Rattle.event_text.specs.Grammar.{is_field, field_number, before_all}

-- where a field begins, if one ends at the place e: past the space
abbrev pub next_place : List ℕ → ℕ → Option ℕ
next_place l e = cond (nat_lt e (length l)) (Some (e + 1)) None

-- the wanted field at the place i of the line l, if it is there
abbrev pub found_at : Wanted → List ℕ → ℕ → Option Found
found_at w l i = cond (is_field w (first_part (drop i l))) (Some (record { number = field_number w (first_part (drop i l)); next = next_place l (i + length (first_part (drop i l))) })) None

-- the same, where another field follows
abbrev pub found_next : Wanted → List ℕ → Option ℕ → Option Found
found_next w l None = None
found_next w l (Some i) = found_at w l i

-- the parts of the line from the next field on
abbrev pub left : List ℕ → Option ℕ → List (List ℕ)
left l None = []
left l (Some i) = parts (drop i l)

-- the numbers of the fields that were found, before those of the others, where all are there
abbrev pub gathered : List (Option ℕ) → Option (List ℕ) → Option (List ℕ)
gathered [] r = r
gathered (n ∷ ns) r = before_all n (gathered ns r)

-- the numbers of all fields, where each is there
abbrev pub each_there : List (Option ℕ) → Option (List ℕ)
each_there ns = gathered ns (Some [])
