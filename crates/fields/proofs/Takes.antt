-- The field that is cut from a line
use Rattle.std.proofs.Common.{◌≡◌, ℕ, ◌-◌, Bool, List, length, take, drop, Some, Option, sym, ap, ◌∙◌, arith}
use Rattle.field_names.specs.declared.name.Name.{Name}
use Rattle.fields.specs.Cutting.{first_part}
use Rattle.field_names.specs.Names.{name_text, after}
use Rattle.fields.specs.Numbers.{is_number}
use Rattle.fields.specs.Tokens.{Shown, cut_field, field_at}
use Rattle.field_names.proofs.Afters.{after_whole}

-- a field of a part, with the length of its name
abbrev with_name : List ℕ → List ℕ → ℕ → ℕ → Bool → Option Shown
with_name part v i k b = Some (record { name = take k part; value = v; at = i; number = b })

module _ (l : List ℕ) (i : ℕ) (n : Name) (part : List ℕ) (from : part ≡ first_part (drop i l)) where
  pub taken : (v : List ℕ) (b : Bool) → Some v ≡ after (name_text n) part → b ≡ is_number v → Some (record { name = take (length part - length v) part; value = v; at = i; number = b }) ≡ field_at l i n
  taken v b some told =
      let long : length part - length v ≡ length (name_text n) = omega (arith, after_whole (name_text n) part v (sym some)) in
      (λ j. with_name part v i (long j) (told j))
      ∙ ap (cut_field part i (length (name_text n))) some
      ∙ ap (λ p. cut_field p i (length (name_text n)) (after (name_text n) p)) from
