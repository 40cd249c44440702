-- Where the first such byte stands, byte by byte, and what is cut there
use Rattle.std.proofs.Common.{◌≡◌, ℕ, suc, ◌+◌, ◌<◌, ◌≤◌, Bool, true, false, cond, eqb, List, [], ◌∷◌, length, take, drop, refl, ap, add-one, one-add, arith}
use Rattle.std.specs.List.{position_or_len}
use Rattle.std.proofs.lemmas.List.Recursion.{is_position_or_len}
use Rattle.std.proofs.lemmas.Bool.Decides.{nat_tests}
use Rattle.fields.specs.Cutting.{before, onto, pieces}

-- it is the first place at which the byte stands
pub place_is : (b : ℕ) (l : List ℕ) → before b l ≡ position_or_len (λ x. eqb x b) l
unfolding before
place_is b l = is_position_or_len (before b) (λ x. eqb x b) refl (λ x xs. rw one-add) l

pub before_within : (b : ℕ) (l : List ℕ) → before b l ≤ length l
unfolding before
before_within b [] = omega arith
before_within b (x ∷ xs) = let h = before_within b xs in grind (arith, nat_tests)

-- one byte more: it is b, or it joins the piece that follows
one_more : (b x k : ℕ) (last : List (List ℕ)) (xs : List ℕ) (t : Bool) → cond t 0 (suc k) < suc (length xs) → (k < length xs → pieces b last xs ≡ take k xs ∷ pieces b last (drop (k + 1) xs)) → cond t ([] ∷ pieces b last xs) (onto x (pieces b last xs)) ≡ take (cond t 0 (suc k)) (x ∷ xs) ∷ pieces b last (drop (cond t 0 (suc k) + 1) (x ∷ xs))
one_more b x k last xs true h rest = refl
one_more b x k last xs false h rest = rw (rest (omega arith)) (rw (add-one k, add-one (suc k)))

-- a piece ends at the first b ..
pub piece_ends : (b : ℕ) (last : List (List ℕ)) (l : List ℕ) → before b l < length l → pieces b last l ≡ take (before b l) l ∷ pieces b last (drop (before b l + 1) l)
unfolding before pieces
piece_ends b last [] h = absurd (omega arith)
piece_ends b last (x ∷ xs) h = one_more b x (before b xs) last xs (eqb x b) h (piece_ends b last xs)

-- .. or with the list
pub last_line : (b : ℕ) (l : List ℕ) → length l ≤ before b l → 0 < length l → pieces b [] l ≡ l ∷ []
unfolding before pieces
last_line b [] h k = absurd (omega arith)
last_line b (x ∷ []) h k = let e : eqb x b ≡ false = grind (arith, nat_tests) in rw e
last_line b (x ∷ (y ∷ ys)) h k =
    let e : eqb x b ≡ false = grind (arith, nat_tests) in
    rw (e, last_line b (y ∷ ys) (omega (arith, rw e at h)) (omega arith))

pub last_part : (b : ℕ) (l : List ℕ) → length l ≤ before b l → pieces b ([] ∷ []) l ≡ l ∷ []
unfolding before pieces
last_part b [] h = refl
last_part b (x ∷ xs) h =
    let e : eqb x b ≡ false = grind (arith, nat_tests) in
    rw (e, last_part b xs (omega (arith, rw e at h)))

-- the bytes before the first b have none
none_before : (b x : ℕ) (xs : List ℕ) (t : Bool) → eqb x b ≡ t → before b (take (before b xs) xs) ≡ length (take (before b xs) xs) → before b (take (cond t 0 (suc (before b xs))) (x ∷ xs)) ≡ length (take (cond t 0 (suc (before b xs))) (x ∷ xs))
unfolding before
none_before b x xs true e h = refl
none_before b x xs false e h = rw e (ap suc h)

pub before_take : (b : ℕ) (l : List ℕ) → before b (take (before b l) l) ≡ length (take (before b l) l)
unfolding before
before_take b [] = refl
before_take b (x ∷ xs) = none_before b x xs (eqb x b) refl (before_take b xs)
