-- The value of a text, digit by digit
use Rattle.std.proofs.Common.{◌≡◌, ℕ, ◌+◌, ◌-◌, ◌*◌, ◌^◌, ◌<◌, ◌≤◌, true, false, ◌&&◌, leb, List, [], ◌∷◌, length, get_or, drop, Some, None, Ok, Err, Result, ◌∙◌, refl, ap, arith}
use Rattle.std.specs.List.{list_all}
use Rattle.std.specs.Result.{OkIff, result_ok}
use Rattle.std.specs.Char.{is_ascii_digit}
use Rattle.std.proofs.lemmas.List.{at_drop_more, at_drop_all}
use Rattle.std.proofs.lemmas.Bool.Decides.{nat_tests}
use Rattle.fields.specs.Numbers.{is_digit, digits_only, is_number, value_after, leads_zero, number_of}

pub digits_step : (t : List ℕ) (i : ℕ) → i < length t → digits_only (drop i t) ≡ (is_digit (get_or t i 0) && digits_only (drop (i + 1) t))
unfolding digits_only
digits_step t i h = at_drop_more digits_only t i 0 h

-- all digits, in the words of the library
pub all_digits : (t : List ℕ) → digits_only t ≡ list_all is_ascii_digit t
unfolding digits_only
all_digits [] = refl
all_digits (c ∷ cs) = ap (λ b. is_digit c && b) (all_digits cs)

pub value_step : (n : ℕ) (t : List ℕ) (i : ℕ) → i < length t → value_after n (drop i t) ≡ value_after (n * 10 + (get_or t i 0 - 48)) (drop (i + 1) t)
unfolding value_after
value_step n t i h = at_drop_more (value_after n) t i 0 h

pub value_end : (n : ℕ) (t : List ℕ) (i : ℕ) → length t ≤ i → value_after n (drop i t) ≡ n
unfolding value_after
value_end n t i h = at_drop_all (value_after n) t i h

-- a digit more never makes less
pub grows : (n : ℕ) (t : List ℕ) → n ≤ value_after n t
unfolding value_after
grows n [] = omega arith
grows n (c ∷ cs) = omega (arith, grows (n * 10 + (c - 48)) cs)

pub a_digit : (t : List ℕ) (i : ℕ) → i < length t → digits_only (drop i t) ≡ true → (is_digit (get_or t i 0) ≡ true) × (digits_only (drop (i + 1) t) ≡ true)
a_digit t i h e = let s = digits_step t i h in (grind (arith, nat_tests), grind (arith, nat_tests))

pub digit_low : (t : List ℕ) (i : ℕ) → i < length t → digits_only (drop i t) ≡ true → 48 ≤ get_or t i 0
digit_low t i h e = let s = a_digit t i h e in grind (arith, nat_tests)

-- a number that was converted to 32 bits, or was not
pub narrowed : {E : Type 0} (r : Result ℕ E) (x v : ℕ) → OkIff r (x < 2 ^ 32) x → Some v ≡ result_ok r → (v ≡ x) × (v < 2 ^ 32)
narrowed (Ok y) x v h e = let same : v ≡ y = cc in (same ∙ h.1, omega (arith, h.0, h.1))
narrowed (Err f) x v h e = let z : ◌≡◌ {A = ℕ} 0 1 = cc in absurd (omega arith)

pub too_wide : {E : Type 0} (r : Result ℕ E) (x : ℕ) → OkIff r (x < 2 ^ 32) x → None ≡ result_ok r → 2 ^ 32 ≤ x
too_wide (Ok y) x h e = let z : ◌≡◌ {A = ℕ} 0 1 = cc in absurd (omega arith)
too_wide (Err f) x h e = omega (arith, h)

pub too_large : (t : List ℕ) (i n : ℕ) → i < length t → value_after 0 t ≡ value_after n (drop i t) → 2 ^ 32 ≤ n * 10 + (get_or t i 0 - 48) → None ≡ number_of t
too_large t i n h e large =
    let s = value_step n t i h in
    let g = grows (n * 10 + (get_or t i 0 - 48)) (drop (i + 1) t) in
    let big : leb (value_after 0 t) 4294967295 ≡ false = grind (arith, nat_tests) in
    grind (arith, nat_tests)

pub read_all : (t : List ℕ) (i n : ℕ) → length t ≤ i → value_after 0 t ≡ value_after n (drop i t) → n < 2 ^ 32 → is_number t ≡ true → leads_zero t ≡ false → Some n ≡ number_of t
read_all t i n h e small is no_zero =
    let s = value_end n t i h in
    let fine : leb (value_after 0 t) 4294967295 ≡ true = grind (arith, nat_tests) in
    grind (arith, nat_tests)
