-- Forms of lines
use Rattle.std.specs.Prelude.{◌≡◌, ℕ, Bool, true, false, cond, ◌&&◌, List, [], ◌∷◌, length, Some, None, Ok, Err, Option, Result, nat_lt}
use Rattle.std.specs.Str.{bytes_eq}
use Rattle.fields.specs.Cutting.{parts}
use Rattle.field_names.specs.Names.{name_text, after}
use Rattle.fields.specs.Words.{word_text}
use Rattle.fields.specs.Numbers.{is_number, number_of}
use Rattle.event_text.specs.declared.fault.TextFault.{TextFault}
use Rattle.event_text.specs.declared.fault.TextFault.TheVariants.{TooLong, NoForm, BadNumber}
use Rattle.event_text.specs.declared.form.Wanted.{Wanted}
use Rattle.event_text.specs.declared.form.Wanted.TheVariants.{Number, Word}

-- the test of a value, where there is one
abbrev pub passes : (List ℕ → Bool) → Option (List ℕ) → Bool
passes f None = false
passes f (Some v) = f v

-- the number of a value, where there is one and it fits
abbrev pub number_in : Option (List ℕ) → Option ℕ
number_in None = None
number_in (Some v) = number_of v

-- the part p is the wanted field: its name, then a number, or its name, then that word
abbrev pub is_field : Wanted → List ℕ → Bool
is_field (Number n) p = passes is_number (after (name_text n) p)
is_field (Word n w) p = passes (λ v. bytes_eq v (word_text w)) (after (name_text n) p)

-- the number of the wanted field, where it fits; a word counts as 0
abbrev pub field_number : Wanted → List ℕ → Option ℕ
field_number (Number n) p = number_in (after (name_text n) p)
field_number (Word n w) p = Some 0

-- the parts of a line are the fields of the form, one by one
unfoldable pub of_form : List Wanted → List (List ℕ) → Bool
of_form [] [] = true
of_form [] (p ∷ ps) = false
of_form (w ∷ ws) [] = false
of_form (w ∷ ws) (p ∷ ps) = is_field w p && of_form ws ps

-- a number before the others, where all are there
abbrev pub before_all : Option ℕ → Option (List ℕ) → Option (List ℕ)
before_all None r = None
before_all (Some n) None = None
before_all (Some n) (Some ns) = Some (n ∷ ns)

-- the numbers of the fields, where each fits
unfoldable pub numbers : List Wanted → List (List ℕ) → Option (List ℕ)
numbers [] ps = Some []
numbers (w ∷ ws) [] = Some []
numbers (w ∷ ws) (p ∷ ps) = before_all (field_number w p) (numbers ws ps)

-- numbers that are all there, or a bad number
abbrev pub unless_bad : Option (List ℕ) → Result (List ℕ) TextFault
unless_bad None = Err BadNumber
unless_bad (Some ns) = Ok ns

-- the numbers of a line of the form; first it must be of the form, then each number must fit
unfoldable pub form_read : List Wanted → List ℕ → Result (List ℕ) TextFault
form_read ws l = cond (of_form ws (parts l)) (unless_bad (numbers ws (parts l))) (Err NoForm)

-- what is made of the numbers
abbrev pub made : {A : Type 0} → (List ℕ → A) → Result (List ℕ) TextFault → Result A TextFault
made f (Ok ns) = Ok (f ns)
made f (Err e) = Err e

-- what a line gives as one form, or, where it is not of that form, as another
abbrev pub or_else : {A : Type 0} → Result A TextFault → Result A TextFault → Result A TextFault
or_else (Ok a) r = Ok a
or_else (Err TooLong) r = Err TooLong
or_else (Err NoForm) r = r
or_else (Err BadNumber) r = Err BadNumber

-- the same, where the other form is said by what its reading may give
abbrev pub OrElse : {A : Type 0} → Result A TextFault → (Result A TextFault → Type 0) → Result A TextFault → Type 0
OrElse (Ok a) Other r = r ≡ Ok a
OrElse (Err TooLong) Other r = r ≡ Err TooLong
OrElse (Err NoForm) Other r = Other r
OrElse (Err BadNumber) Other r = r ≡ Err BadNumber

-- a line of more than 80 bytes is too long, whatever it holds
abbrev pub unless_long : {A : Type 0} → List ℕ → Result A TextFault → Result A TextFault
unless_long l r = cond (nat_lt 80 (length l)) (Err TooLong) r
