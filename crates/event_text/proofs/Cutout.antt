-- What is known of a field that was cut out of a line
use Rattle.std.proofs.Common.{◌≡◌, ℕ, ◌+◌, ◌-◌, ◌<◌, ◌≤◌, Bool, true, false, cond, List, length, take, drop, Some, None, Option, sym, refl, ap, ◌∙◌, ⊎_elim, arith}
use Rattle.std.specs.Str.{bytes_eq}
use Rattle.std.proofs.lemmas.List.{length-drop, length-take-le}
use Rattle.std.proofs.lemmas.Slice.Eq.{bytes_eq-Decides}
use Rattle.std.proofs.lemmas.Bool.{true≢false, cond-true, cases_Bool}
use Rattle.field_names.specs.declared.name.Name.{Name}
use Rattle.field_names.specs.declared.name.Name.TheVariants.{Cores, Tasks, Resources, Order, Key, Event, Task, Due, Band, Level, Resource}
use Rattle.fields.specs.declared.word.Word.{Word as Written}
use Rattle.fields.specs.declared.word.Word.TheVariants.{Fifo, Gate, Deadline, Fixed, Arrive, Request, Release, Finish, Tick}
use Rattle.fields.specs.Cutting.{before, first_part}
use Rattle.field_names.specs.Names.{name_text, after}
use Rattle.fields.specs.Words.{word_text}
use Rattle.fields.specs.Numbers.{is_number, number_of, digits_only}
use Rattle.fields.specs.declared.field.Cut.{Cut}
use Rattle.fields.specs.declared.field.Field.{Field}
use Rattle.fields.specs.Tokens.{Shown, shown, cut_field, field_at}
use Rattle.field_names.proofs.Afters.{after_whole}
use Rattle.fields.proofs.Counts.{before_within}
use Rattle.event_text.specs.declared.form.Found.{Found}
use Rattle.event_text.specs.declared.form.Wanted.TheVariants.{Number, Word}
use Rattle.event_text.specs.Grammar.{passes, number_in}
use Rattle.event_text.specs.Places.{next_place, found_at}

pub record CutFrom (l : List ℕ) (i : ℕ) (n : Name) (s : Shown) : Type 0 where
  pub place : s.at ≡ i
  pub follows : after (name_text n) (first_part (drop i l)) ≡ Some s.value
  pub digits : s.number ≡ is_number s.value
  pub long : length s.name + length s.value ≡ length (first_part (drop i l))
  pub inside : i + length (first_part (drop i l)) ≤ length l

-- every name has its `=` at least
name_some : (n : Name) → 0 < length (name_text n)
name_some Cores = omega arith
name_some Tasks = omega arith
name_some Resources = omega arith
name_some Order = omega arith
name_some Key = omega arith
name_some Event = omega arith
name_some Task = omega arith
name_some Due = omega arith
name_some Band = omega arith
name_some Level = omega arith
name_some Resource = omega arith

-- a part is no longer than what is left of the line
part_within : (l : List ℕ) (i : ℕ) → length (first_part (drop i l)) ≤ length l - i
part_within l i = omega (arith, length-take-le (before 32 (drop i l)) (drop i l) (before_within 32 (drop i l)), before_within 32 (drop i l), length-drop i l)

cut_some : (l : List ℕ) (i : ℕ) (n : Name) (s : Shown) (o : Option (List ℕ)) → after (name_text n) (first_part (drop i l)) ≡ o → Some s ≡ cut_field (first_part (drop i l)) i (length (name_text n)) o → CutFrom l i n s
cut_some l i n s None e h = let z : ◌≡◌ {A = ℕ} 0 1 = cc in absurd (omega arith)
cut_some l i n s (Some v) e h =
    let whole = after_whole (name_text n) (first_part (drop i l)) v e in
    let named = length-take-le (length (name_text n)) (first_part (drop i l)) (omega arith) in
    let is : s ≡ record { name = take (length (name_text n)) (first_part (drop i l)); value = v; at = i; number = is_number v } = cc in
    rw is (record { place = refl; follows = e; digits = refl; long = omega arith; inside = omega (arith, name_some n, part_within l i) })

pub cut_out : (l : List ℕ) (i : ℕ) (n : Name) (s : Shown) → Some s ≡ field_at l i n → CutFrom l i n s
cut_out l i n s h = cut_some l i n s (after (name_text n) (first_part (drop i l))) refl h

-- no word is a number
no_digits : (w : Written) → is_number (word_text w) ≡ false
unfolding digits_only
no_digits Fifo = refl
no_digits Gate = refl
no_digits Deadline = refl
no_digits Fixed = refl
no_digits Arrive = refl
no_digits Request = refl
no_digits Release = refl
no_digits Finish = refl
no_digits Tick = refl

no_word : (v : List ℕ) (w : Written) → is_number v ≡ true → bytes_eq v (word_text w) ≡ false
no_word v w e =
    ⊎_elim
    (λ same. let z = sym e ∙ ap is_number ((bytes_eq-Decides v (word_text w)).0 same) ∙ no_digits w in absurd (true≢false z))
    (λ other. other)
    (cases_Bool (bytes_eq v (word_text w)))

abbrev pub found : Option ℕ → Option ℕ → Found
found n k = record { number = n; next = k }

module _ (l : List ℕ) (i : ℕ) (n : Name) (s : Shown) (h : Some s ≡ field_at l i n) where
  pub field_inside : s.at + length s.name + length s.value ≤ length l
  field_inside = let c = cut_out l i n s h in omega arith

  pub number_found : s.number ≡ true → (r : Option ℕ) → r ≡ number_of s.value → (k : Option ℕ) → k ≡ next_place l (s.at + length s.name + length s.value) → Some (found r k) ≡ found_at (Number n) l i
  number_found is r e k f =
      let c = cut_out l i n s h in
      let to : s.at + length s.name + length s.value ≡ i + length (first_part (drop i l)) = omega arith in
      let told : is_number s.value ≡ true = sym c.digits ∙ is in
      (λ j. Some (found (e j) ((f ∙ ap (next_place l) to) j)))
      ∙ sym (cond-true (is_number s.value) (Some (found (number_of s.value) (next_place l (i + length (first_part (drop i l)))))) None told)
      ∙ ap (λ (o : Option (List ℕ)). cond (passes is_number o) (Some (found (number_in o) (next_place l (i + length (first_part (drop i l)))))) None) (sym c.follows)

  pub word_found : (w : Written) → bytes_eq s.value (word_text w) ≡ true → (k : Option ℕ) → k ≡ next_place l (s.at + length s.name + length s.value) → Some (found (Some 0) k) ≡ found_at (Word n w) l i
  word_found w is k f =
      let c = cut_out l i n s h in
      let to : s.at + length s.name + length s.value ≡ i + length (first_part (drop i l)) = omega arith in
      rw (c.follows, is, f, to)

  pub other_word : (w : Written) → bytes_eq s.value (word_text w) ≡ false → None ≡ found_at (Word n w) l i
  other_word w is = let c = cut_out l i n s h in rw (c.follows, is)

  pub number_no_word : (w : Written) → s.number ≡ true → None ≡ found_at (Word n w) l i
  number_no_word w is = other_word w (no_word s.value w (sym (cut_out l i n s h).digits ∙ is))

-- the same facts, as a token has them
abbrev pub shows : Cut → Bool → Shown
shows cut number = record { name = cut.name.now; value = cut.value.now; at = cut.at; number = number }

pub number_token : (l : List ℕ) (i : ℕ) (n : Name) (f : Field) (cut : Cut) → shown (Some f) ≡ field_at l i n → f ≡ Field.Number cut → Some (shows cut true) ≡ field_at l i n
number_token l i n f cut h is = ap (λ (g : Field). shown (Some g)) (sym is) ∙ h

pub word_token : (l : List ℕ) (i : ℕ) (n : Name) (f : Field) (cut : Cut) → shown (Some f) ≡ field_at l i n → f ≡ Field.Word cut → Some (shows cut false) ≡ field_at l i n
word_token l i n f cut h is = ap (λ (g : Field). shown (Some g)) (sym is) ∙ h
