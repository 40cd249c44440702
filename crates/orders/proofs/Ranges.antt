-- counting over the numbers below n, by a chain over the range
use Rattle.std.proofs.Common.{◌≡◌, ℕ, zero, suc, ◌+◌, max, Bool, true, false, cond, ◌&&◌, List, [], ◌∷◌, ◌++◌, length, filter, Some, None, Option, unwrap_or, sym, refl, ap, ◌∙◌, zero-add, arith}
use Rattle.std.specs.Borrow.{Bor}
use Rattle.std.specs.Fn.{Mut, Called, CalledAt}
use Rattle.std.specs.Iterator.{YieldsThen, Drains, PicksByCmp}
use Rattle.std.specs.Iterator.Adapters.{filter_source, filter_callee, filter_steps, filter_map_source, filter_map_callee, filter_map_steps}
use Rattle.std.specs.List.{range_with_len, list_all, filter_map, cons_option, fold, reduce, FoldsTo}
use Rattle.std.specs.Option.{MatchOption}
use Rattle.std.specs.Ordering.{max_by_ordering, nat_cmp}
use Rattle.std.specs.declared.ops.Range.{Range}
use Rattle.std.specs.declared.iter.Filter.{Filter}
use Rattle.std.specs.declared.iter.FilterMap.{FilterMap}
use Rattle.std.proofs.iter.Yields.{nat_range_steps}
use Rattle.std.proofs.lemmas.Iterator.{YieldsList-from_range}
use Rattle.std.proofs.lemmas.Iterator.Search.{all_from_yields_List}
use Rattle.std.proofs.lemmas.Iterator.Consumers.{YieldsList-from_filter, YieldsList-from_filter_map, count_from_yields_List, reduce_from_yields_List}
use Rattle.std.proofs.lemmas.List.{map-id, length-append}
use Rattle.std.proofs.lemmas.List.Elements.{filter-append, filter_map-append}
use Rattle.std.proofs.lemmas.List.Folds.{list_all-append, max_of_map}
use Rattle.std.proofs.lemmas.List.Sums.{fold-append}
use Rattle.orders.specs.Counting.{tally, most, every}

-- the last number of a range
more : (a n : ℕ) → range_with_len a (suc n) ≡ range_with_len a n ++ (a + n) ∷ []
more a zero = let e : a ≡ a + 0 = omega arith in ap (λ k. k ∷ []) e
more a (suc n) =
    let e : a + 1 + n ≡ a + suc n = omega arith in
    ap (λ xs. a ∷ xs) (more (a + 1) n ∙ ap (λ k. range_with_len (a + 1) n ++ k ∷ []) e)

pub range_more : (n : ℕ) → range_with_len 0 (suc n) ≡ range_with_len 0 n ++ n ∷ []
range_more n = more 0 n ∙ ap (λ k. range_with_len 0 n ++ k ∷ []) (zero-add n)

every_list : (f : ℕ → Bool) (n : ℕ) → list_all f (range_with_len 0 n) ≡ every f n
unfolding every
every_list f zero = refl
every_list f (suc n) =
    ap (list_all f) (range_more n) ∙ list_all-append f (range_with_len 0 n) (n ∷ []) ∙ ap (λ b. b && (f n && true)) (every_list f n) ∙ grind arith

-- what `(0..n).all` answers, by its clause `ran` and what the closure answers
pub every_from_all : {F : Type 0} {g : Mut F (ℕ × Unit {0}) Bool} (test : ℕ → Bool) (n : ℕ) (u : Range ℕ) (f : F) (r : Bool)
    → (xs : List ℕ) × (o : Option ℕ) × (j : F) × YieldsThen nat_range_steps (record { start = 0; end = n }) xs o u × FoldsTo (λ p x q. Called g p (x, tt) true q) f xs j × MatchOption o (r ≡ true) (λ x. (r ≡ false) × ((h : F) × Called g j (x, tt) false h))
    → ((x : ℕ) (b : Bool) (q : F) → Called g f (x, tt) b q → (q ≡ f) × (b ≡ test x)) → r ≡ every test n
every_from_all test n u f r d k = all_from_yields_List test u f r d (YieldsList-from_range 0 n n refl (omega arith)) k ∙ every_list test n

-- ---- `(0..n).filter(..).count()`

one : (b : Bool) (n : ℕ) → length (cond b (n ∷ []) []) ≡ cond b 1 0
one true n = refl
one false n = refl

tally_list : (f : ℕ → Bool) (n : ℕ) → length (filter f (range_with_len 0 n)) ≡ tally f n
unfolding tally
tally_list f zero = refl
tally_list f (suc n) =
    let below = filter f (range_with_len 0 n) in
    ap (λ xs. length (filter f xs)) (range_more n) ∙ ap length (filter-append f (range_with_len 0 n) (n ∷ [])) ∙ omega (arith, length-append below (filter f (n ∷ [])), one (f n) n, tally_list f n)

pub tally_from_count : {F : Type 0} {g : Mut F (Bor ℕ × Unit {0}) Bool} (test : ℕ → Bool) (n : ℕ) (s : Filter (Range ℕ) F) (f : F) (r : ℕ)
    → (xs : List ℕ) × Drains (filter_steps nat_range_steps g) s xs × (r ≡ length xs) → filter_source s ≡ record { start = 0; end = n } → filter_callee s ≡ f
    → ((x : ℕ) (b : Bool) (q : F) → CalledAt g f x b q → (q ≡ f) × (b ≡ test x)) → r ≡ tally test n
tally_from_count {g = g} test n s f r d e a k =
    count_from_yields_List s r d (YieldsList-from_filter g test (YieldsList-from_range 0 n n e (omega arith)) a k) ∙ tally_list test n

-- ---- `(0..n).filter_map(..).max().unwrap_or(0)`

last : (b : Bool) (m x : ℕ) → fold max m (cons_option (cond b (Some x) None) []) ≡ max (cond b x 0) m
last true m x = grind arith
last false m x = grind arith

most_list : (f : ℕ → Bool) (g : ℕ → ℕ) (n : ℕ) → fold max 0 (filter_map (λ u. cond (f u) (Some (g u + 1)) None) (range_with_len 0 n)) ≡ most f g n
unfolding most
most_list f g zero = refl
most_list f g (suc n) =
    let h = λ (u : ℕ). cond (f u) (Some (g u + 1)) None in
    ap (λ xs. fold max 0 (filter_map h xs)) (range_more n) ∙ ap (fold max 0) (filter_map-append h (range_with_len 0 n) (n ∷ [])) ∙ fold-append max 0 (filter_map h (range_with_len 0 n)) (filter_map h (n ∷ []))
    ∙ ap (λ m. fold max m (filter_map h (n ∷ []))) (most_list f g n) ∙ last (f n) (most f g n) (g n + 1)

largest : (xs : List ℕ) → unwrap_or (reduce (λ p z. max_by_ordering (nat_cmp p z) p z) xs) 0 ≡ fold max 0 xs
largest xs = ap (λ ys. unwrap_or (reduce (λ p z. max_by_ordering (nat_cmp p z) p z) ys) 0) (sym (map-id xs)) ∙ max_of_map (λ x. x) xs

pub most_from_max : {F : Type 0} {g : Mut F (ℕ × Unit {0}) (Option ℕ)} (test : ℕ → Bool) (size : ℕ → ℕ) (n : ℕ) (s : FilterMap (Range ℕ) F) (f : F) (r : Option ℕ)
    → PicksByCmp (filter_map_steps nat_range_steps g) max_by_ordering nat_cmp s r → filter_map_source s ≡ record { start = 0; end = n } → filter_map_callee s ≡ f
    → ((x : ℕ) (o : Option ℕ) (q : F) → Called g f (x, tt) o q → (q ≡ f) × (o ≡ cond (test x) (Some (size x + 1)) None)) → unwrap_or r 0 ≡ most test size n
most_from_max {g = g} test size n s f r d e a k =
    let h = λ (u : ℕ). cond (test u) (Some (size u + 1)) None in
    ap (λ o. unwrap_or o 0) (reduce_from_yields_List (λ p z. max_by_ordering (nat_cmp p z) p z) s r d (YieldsList-from_filter_map g h (YieldsList-from_range 0 n n e (omega arith)) a k))
    ∙ largest (filter_map h (range_with_len 0 n)) ∙ most_list test size n
