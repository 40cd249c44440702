-- What a pattern takes is what follows the name
use Rattle.std.proofs.Common.{◌≡◌, ℕ, suc, ◌+◌, Bool, true, false, cond, ◌&&◌, eqb, leb, List, [], ◌∷◌, length, drop, Some, None, Option, sym, refl, ap, ◌∙◌, add-one, arith}
use Rattle.std.proofs.lemmas.List.{take_rest}
use Rattle.std.proofs.lemmas.Bool.{le-leb, lt-leb}
use Rattle.std.proofs.lemmas.Bool.Decides.{nat_tests}
use Rattle.field_names.specs.Names.{after}
use Rattle.field_names.specs.Patterns.{stand_at, after_at}

-- the places of a list with one byte more in front are one further on
stand_next : (i x : ℕ) (ps l : List ℕ) → stand_at (i + 1) ps (x ∷ l) ≡ stand_at i ps l
stand_next i x [] l = refl
stand_next i x (p ∷ ps) l = rw (stand_next (i + 1) x ps l, add-one)

-- the rest of a pattern is what is left when the first bytes are dropped
after_drop : (ps l : List ℕ) → after_at ps l ≡ cond (leb (length ps) (length l) && stand_at 0 ps l) (Some (drop (length ps) l)) None
after_drop ps l = rw take_rest

-- three tests in a row
tests : {A : Type 0} (x y z : Bool) (a b : A) → cond (x && (y && z)) a b ≡ cond y (cond (x && z) a b) b
tests true true z a b = refl
tests true false z a b = refl
tests false true z a b = refl
tests false false z a b = refl

pub after_is : (ps l : List ℕ) → after_at ps l ≡ after ps l
unfolding after
after_is [] l = after_drop [] l ∙ rw (le-leb 0 (length l) (omega arith))
after_is (p ∷ ps) [] = after_drop (p ∷ ps) [] ∙ rw (lt-leb (suc (length ps)) 0 (omega arith))
after_is (p ∷ ps) (x ∷ l) =
    let same : leb (suc (length ps)) (suc (length l)) ≡ leb (length ps) (length l) = grind (arith, nat_tests) in
    after_drop (p ∷ ps) (x ∷ l)
    ∙ rw (same, stand_next 0 x ps l) (tests (leb (length ps) (length l)) (eqb x p) (stand_at 0 ps l) (Some (drop (length ps) l)) None)
    ∙ ap (λ (r : Option (List ℕ)). cond (eqb x p) r None) (sym (after_drop ps l) ∙ after_is ps l)

-- a name and what follows it are the whole
pub after_whole : (ps l v : List ℕ) → after ps l ≡ Some v → length l ≡ length ps + length v
unfolding after
after_whole [] l v e = let same : l ≡ v = cc in rw same (omega arith)
after_whole (p ∷ ps) [] v e = let z : ◌≡◌ {A = ℕ} 0 1 = cc in absurd (omega arith)
after_whole (p ∷ ps) (x ∷ l) v e =
    let one : eqb x p ≡ true = grind (arith, nat_tests) in
    let rest : after ps l ≡ Some v = grind (arith, nat_tests) in
    omega (arith, after_whole ps l v rest)
