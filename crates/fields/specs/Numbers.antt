-- Numbers as text
use Rattle.std.specs.Prelude.{ℕ, ◌+◌, ◌-◌, ◌*◌, Bool, true, cond, not, ◌&&◌, List, [], ◌∷◌, length, Some, None, Option, ◌==◌, nat_le, nat_lt, slice_index}

-- 0 to 9
abbrev pub is_digit : ℕ → Bool
is_digit c = nat_le 48 c && nat_le c 57

-- digits only
unfoldable pub digits_only : List ℕ → Bool
digits_only [] = true
digits_only (c ∷ cs) = is_digit c && digits_only cs

-- a number is one or more digits
abbrev pub is_number : List ℕ → Bool
is_number t = nat_lt 0 (length t) && digits_only t

-- the number that the digits write, after n
unfoldable pub value_after : ℕ → List ℕ → ℕ
value_after n [] = n
value_after n (c ∷ cs) = value_after (n * 10 + (c - 48)) cs

-- a zero before other digits
abbrev pub leads_zero : List ℕ → Bool
leads_zero t = nat_lt 1 (length t) && slice_index t 0 == 48

-- no leading zero, and at most 4,294,967,295
abbrev pub fits : List ℕ → Bool
fits t = not (leads_zero t) && nat_le (value_after 0 t) 4294967295

-- the number that a text writes, where it is a number and fits
abbrev pub number_of : List ℕ → Option ℕ
number_of t = cond (is_number t && fits t) (Some (value_after 0 t)) None
