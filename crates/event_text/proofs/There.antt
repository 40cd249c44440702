-- Numbers that are all there
use Rattle.std.proofs.Common.{◌≡◌, ℕ, ◌+◌, ◌<◌, ◌≤◌, List, ◌∷◌, ◌++◌, length, get_or, take, drop, Some, None, Ok, Err, Option, Result, sym, ap, ◌∙◌, append-nil}
use Rattle.std.specs.Result.{IsErrAnd}
use Rattle.std.proofs.lemmas.List.{drop_more, drop_all, take_all}
use Rattle.event_text.specs.declared.fault.TextFault.{TextFault}
use Rattle.event_text.specs.declared.fault.TextFault.TheVariants.{BadNumber}
use Rattle.event_text.specs.Grammar.{unless_bad}
use Rattle.event_text.specs.Places.{each_there}

-- an error that is known
pub err_is : {A : Type 0} (r : Result A TextFault) (e : TextFault) → IsErrAnd r (λ f. f ≡ e) → r ≡ Err e
err_is (Ok x) e h = absurd h
err_is (Err f) e h = ap Err h

-- numbers, then others, where these are there
abbrev pub then_all : List ℕ → Option (List ℕ) → Option (List ℕ)
then_all ns None = None
then_all ns (Some ms) = Some (ns ++ ms)

module _ (found : List (Option ℕ)) (out : List ℕ) (i : ℕ) (sofar : each_there found ≡ then_all (take i out) (each_there (drop i found))) where
  pub missing : i < length found → get_or found i None ≡ None → Err BadNumber ≡ unless_bad (each_there found)
  missing h none = ap unless_bad (sym (sofar ∙ ap (λ (ns : List (Option ℕ)). then_all (take i out) (each_there ns)) (drop_more found i None h ∙ ap (λ (n : Option ℕ). n ∷ drop (i + 1) found) none)))

  pub all_there : length found ≤ i → length out ≤ i → each_there found ≡ Some out
  all_there h room =
      sofar
      ∙ ap (λ (ns : List (Option ℕ)). then_all (take i out) (each_there ns)) (drop_all i found h)
      ∙ ap Some (append-nil (take i out) ∙ take_all i out room)
