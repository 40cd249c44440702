-- A line that is read field by field
use Rattle.std.proofs.Common.{◌≡◌, ℕ, ◌+◌, ◌<◌, ◌≤◌, Bool, true, false, cond, ◌&&◌, ltb, List, [], ◌∷◌, ◌++◌, length, get_or, take, drop, set, is_some, Some, None, Err, Option, sym, refl, ap, ◌∙◌, subst, ⊎_elim, arith}
use Rattle.std.proofs.lemmas.List.{length-drop, length-set, length-take-le, drop-drop, drop_more, drop_all, take_all, take_more_set}
use Rattle.std.proofs.lemmas.Bool.{true≢false, false≢true, cases_lt, cond-true, cond-false}
use Rattle.std.proofs.lemmas.Bool.Decides.{nat_tests}
use Rattle.fields.specs.Cutting.{before, pieces, parts, first_part}
use Rattle.fields.proofs.Counts.{before_within, piece_ends, last_part}
use Rattle.event_text.specs.declared.fault.TextFault.TheVariants.{NoForm}
use Rattle.event_text.specs.declared.form.Wanted.{Wanted}
use Rattle.event_text.specs.declared.form.Found.{Found}
use Rattle.event_text.specs.Grammar.{is_field, field_number, of_form, before_all, numbers, unless_bad, form_read}
use Rattle.event_text.specs.Places.{next_place, found_next, left, gathered, each_there}
use Rattle.event_text.proofs.Cutout.{found}

-- the parts from a place on: the part there, then those from the next place on
parts_step : (l : List ℕ) (i : ℕ) → parts (drop i l) ≡ first_part (drop i l) ∷ left l (next_place l (i + length (first_part (drop i l))))
parts_step l i =
    let r = drop i l in
    let long = length-drop i l in
    let within = before_within 32 (drop i l) in
    let first = length-take-le (before 32 (drop i l)) (drop i l) within in
    ⊎_elim
    (λ more.
    let test : ltb (i + length (first_part (drop i l))) (length l) ≡ true = grind (arith, nat_tests) in
    let on : i + (before 32 (drop i l) + 1) ≡ i + length (first_part (drop i l)) + 1 = omega arith in
    piece_ends 32 ([] ∷ []) (drop i l) more
    ∙ ap (λ (ps : List (List ℕ)). first_part (drop i l) ∷ ps) (ap (pieces 32 ([] ∷ [])) (drop-drop (before 32 (drop i l) + 1) i l ∙ ap (λ (k : ℕ). drop k l) on) ∙ ap (left l) (sym (cond-true _ (Some (i + length (first_part (drop i l)) + 1)) None test))))
    (λ last.
    let test : ltb (i + length (first_part (drop i l))) (length l) ≡ false = grind (arith, nat_tests) in
    last_part 32 (drop i l) last
    ∙ (λ j. sym (take_all (before 32 (drop i l)) (drop i l) last) j ∷ ap (left l) (sym (cond-false _ (Some (i + length (first_part (drop i l)) + 1)) None test)) j))
    (cases_lt (before 32 (drop i l)) (length (drop i l)))

-- the first i fields of the form ws were found in l; the next one begins at k
pub record Sofar (ws : List Wanted) (l : List ℕ) (i : ℕ) (out : List (Option ℕ)) (k : Option ℕ) : Type 0 where
  pub room : length out ≡ length ws
  pub fields : of_form ws (parts l) ≡ of_form (drop i ws) (left l k)
  pub values : numbers ws (parts l) ≡ gathered (take i out) (numbers (drop i ws) (left l k))

pub at_start : (ws : List Wanted) (l : List ℕ) (out : List (Option ℕ)) → length out ≡ length ws → Sofar ws l 0 out (Some 0)
at_start ws l out e = record { room = e; fields = refl; values = refl }

-- one number more
gathered_more : (ns : List (Option ℕ)) (n : Option ℕ) (r : Option (List ℕ)) → gathered (ns ++ n ∷ []) r ≡ gathered ns (before_all n r)
gathered_more [] n r = refl
gathered_more (m ∷ ns) n r = ap (before_all m) (gathered_more ns n r)

-- what a test with nothing behind it was
cond_none : {A : Type 0} (b : Bool) (x : A) → None ≡ cond b (Some x) None → b ≡ false
cond_none true x e = let z : ◌≡◌ {A = ℕ} 0 1 = cc in absurd (omega arith)
cond_none false x e = refl

cond_some : {A : Type 0} (b : Bool) (x y : A) → Some y ≡ cond b (Some x) None → (b ≡ true) × (y ≡ x)
cond_some true x y e = (refl, cc)
cond_some false x y e = let z : ◌≡◌ {A = ℕ} 0 1 = cc in absurd (omega arith)

no_form : (ws : List Wanted) (l : List ℕ) → of_form ws (parts l) ≡ false → Err NoForm ≡ form_read ws l
unfolding form_read
no_form ws l e = sym (cond-false _ (unless_bad (numbers ws (parts l))) (Err NoForm) e)

with_form : (ws : List Wanted) (l : List ℕ) (r : Option (List ℕ)) → of_form ws (parts l) ≡ true → numbers ws (parts l) ≡ r → unless_bad r ≡ form_read ws l
unfolding form_read
with_form ws l r e n = ap unless_bad (sym n) ∙ sym (cond-true _ (unless_bad (numbers ws (parts l))) (Err NoForm) e)

module _ (ws : List Wanted) (l : List ℕ) (i : ℕ) (out : List (Option ℕ)) (d : Wanted) where
  pub absent : (k : Option ℕ) → Sofar ws l i out k → i < length ws → None ≡ found_next (get_or ws i d) l k → Err NoForm ≡ form_read ws l
  unfolding of_form
  absent None s h e = no_form ws l (s.fields ∙ ap (λ (v : List Wanted). of_form v []) (drop_more ws i d h))
  absent (Some j) s h e =
      let other = cond_none (is_field (get_or ws i d) (first_part (drop j l))) _ e in
      no_form ws l (s.fields ∙ (λ t. of_form (drop_more ws i d h t) (parts_step l j t)) ∙ ap (λ (b : Bool). b && of_form (drop (i + 1) ws) (left l (next_place l (j + length (first_part (drop j l)))))) other)

  pub one_more : (k : Option ℕ) → Sofar ws l i out k → i < length ws → (f : Found) → Some f ≡ found_next (get_or ws i d) l k → Sofar ws l (i + 1) (set out i f.number) f.next
  unfolding of_form numbers
  one_more None s h f e = let z : ◌≡◌ {A = ℕ} 0 1 = cc in absurd (omega arith)
  one_more (Some j) s h f e =
      let p = first_part (drop j l) in
      let n = field_number (get_or ws i d) (first_part (drop j l)) in
      let nx = next_place l (j + length (first_part (drop j l))) in
      let was = cond_some (is_field (get_or ws i d) p) (found n nx) f e in
      let room : i < length out = omega (arith, s.room) in
      subst (λ (g : Found). Sofar ws l (i + 1) (set out i g.number) g.next) (sym was.1) (record {
        room = length-set out i n ∙ s.room;
        fields = s.fields ∙ (λ t. of_form (drop_more ws i d h t) (parts_step l j t)) ∙ ap (λ (b : Bool). b && of_form (drop (i + 1) ws) (left l nx)) was.0;
        values = s.values
            ∙ ap (gathered (take i out)) (λ t. numbers (drop_more ws i d h t) (parts_step l j t))
            ∙ sym (gathered_more (take i out) n (numbers (drop (i + 1) ws) (left l nx)))
            ∙ ap (λ (ns : List (Option ℕ)). gathered ns (numbers (drop (i + 1) ws) (left l nx))) (sym (take_more_set out i n room));
      })

-- the ends of the reading
pub more_fields : (ws : List Wanted) (l : List ℕ) (i : ℕ) (out : List (Option ℕ)) (k : Option ℕ) → true ≡ is_some k → Sofar ws l i out k → length ws ≤ i → Err NoForm ≡ form_read ws l
unfolding of_form
more_fields ws l i out None e s h = absurd (true≢false e)
more_fields ws l i out (Some j) e s h = no_form ws l (s.fields ∙ (λ t. of_form (drop_all i ws h t) (parts_step l j t)))

pub all_read : (ws : List Wanted) (l : List ℕ) (i : ℕ) (out : List (Option ℕ)) (k : Option ℕ) → false ≡ is_some k → Sofar ws l i out k → length ws ≤ i → unless_bad (each_there out) ≡ form_read ws l
unfolding of_form numbers
all_read ws l i out (Some j) e s h = absurd (false≢true e)
all_read ws l i out None e s h =
    with_form ws l (each_there out) (s.fields ∙ ap (λ (v : List Wanted). of_form v []) (drop_all i ws h))
    (s.values ∙ ap (λ (v : List Wanted). gathered (take i out) (numbers v [])) (drop_all i ws h) ∙ ap each_there (take_all i out (omega (arith, s.room))))
