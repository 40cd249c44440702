-- What a field of a line shows
use Rattle.std.specs.Prelude.{ℕ, Bool, true, false, List, length, take, drop, Some, None, Option}
use Rattle.fields.specs.declared.field.Field.{Field}
use Rattle.fields.specs.declared.field.Field.TheVariants.{Number, Word}
use Rattle.field_names.specs.declared.name.Name.{Name}
use Rattle.fields.specs.Cutting.{first_part}
use Rattle.field_names.specs.Names.{name_text, after}
use Rattle.fields.specs.Numbers.{is_number}

-- the bytes of a field's name, with the `=`, and of its value; where the field begins; whether it is a number
pub record Shown : Type 0 where
  pub name : List ℕ
  pub value : List ℕ
  pub at : ℕ
  pub number : Bool

-- what a field shows, if there is one
abbrev pub shown : Option Field → Option Shown
shown None = None
shown (Some (Number cut)) = Some (record { name = cut.name.now; value = cut.value.now; at = cut.at; number = true })
shown (Some (Word cut)) = Some (record { name = cut.name.now; value = cut.value.now; at = cut.at; number = false })

-- a part of a line, with the name's length and what follows the name, as a field
abbrev pub cut_field : List ℕ → ℕ → ℕ → Option (List ℕ) → Option Shown
cut_field part i n None = None
cut_field part i n (Some v) = Some (record { name = take n part; value = v; at = i; number = is_number v })

-- the field of the name n in the part of the line l that begins at the place i
abbrev pub field_at : List ℕ → ℕ → Name → Option Shown
field_at l i n = cut_field (first_part (drop i l)) i (length (name_text n)) (after (name_text n) (first_part (drop i l)))
