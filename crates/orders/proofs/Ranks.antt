-- the best rank of the numbers below n that pass a test, by a chain over the range
use Rattle.std.proofs.Common.{◌≡◌, ℕ, zero, suc, ◌<◌, Bool, true, false, cond, List, [], ◌∷◌, ◌++◌, Some, None, Option, sym, refl, ap, ◌∙◌, subst, inl, inr, arith}
use Rattle.std.specs.Fn.{Mut, Called}
use Rattle.std.specs.Iterator.{PicksByCmp}
use Rattle.std.specs.Iterator.Adapters.{filter_map_source, filter_map_callee, filter_map_steps}
use Rattle.std.specs.List.{range_with_len, filter_map, reduce}
use Rattle.std.specs.Ordering.{min_by_ordering, ordering_then, nat_cmp}
use Rattle.std.specs.declared.cmp.Ordering.{Ordering}
use Rattle.std.specs.declared.cmp.Ordering.TheVariants.{Less, Equal, Greater}
use Rattle.std.specs.declared.ops.Range.{Range}
use Rattle.std.specs.declared.iter.FilterMap.{FilterMap}
use Rattle.std.proofs.iter.Yields.{nat_range_steps}
use Rattle.std.proofs.lemmas.Bool.{cases_eq, true≢false}
use Rattle.std.proofs.lemmas.Bool.Decides.{nat_tests}
use Rattle.std.proofs.lemmas.Iterator.{YieldsList-from_range}
use Rattle.std.proofs.lemmas.Iterator.Consumers.{YieldsList-from_filter_map, reduce_from_yields_List}
use Rattle.std.proofs.lemmas.List.{append-nil}
use Rattle.std.proofs.lemmas.List.Elements.{filter_map-append}
use Rattle.std.proofs.lemmas.List.Sums.{fold-append}
use Rattle.orders.specs.declared.rank.Rank.{Rank}
use Rattle.orders.specs.contracts.rank.RankOrd.TheImpl.{cmp-value}
use Rattle.orders.specs.Counting.{ahead}
use Rattle.orders.proofs.Counts.{ahead_self}
use Rattle.orders.proofs.Ranges.{range_more}

abbrev better : Rank → Rank → Rank
better p z = min_by_ordering (cmp-value.it p z) p z

is_greater : Ordering → Bool
is_greater Less = false
is_greater Equal = false
is_greater Greater = true

least_of : {A : Type 0} (o : Ordering) (x y : A) → min_by_ordering o x y ≡ cond (is_greater o) y x
unfolding is_greater
least_of Less x y = refl
least_of Equal x y = refl
least_of Greater x y = refl

compared : (a b c d : ℕ) → is_greater (ordering_then (nat_cmp a c) (nat_cmp b d)) ≡ ahead c d a b
unfolding is_greater
compared a b c d = grind (arith, nat_tests)

better_by : (p z : Rank) → better p z ≡ cond (ahead z.code z.task p.code p.task) z p
better_by p z = least_of _ p z ∙ ap (λ b. cond b z p) (compared p.code p.task z.code z.task)

-- what is not ahead of the worse of two is not ahead of the better
beyond : (c t d u e w : ℕ) → ahead d u e w ≡ true → ahead c t e w ≡ false → ahead c t d u ≡ false
beyond c t d u e w a b = grind (arith, nat_tests)

-- the best rank so far, and one more
reduce_more : {A : Type 0} (f : A → A → A) (xs : List A) (x : A) → reduce f (xs ++ x ∷ []) ≡ Some (elim (reduce f xs) [ None ↦ x | Some y ↦ f y x ])
reduce_more f [] x = refl
reduce_more f (y ∷ ys) x = ap Some (fold-append f y ys (x ∷ []))

module _ (test : ℕ → Bool) (code : ℕ → ℕ) where
  abbrev pub rank : ℕ → Option Rank
  rank u = cond (test u) (Some (record { code = code u; task = u })) None

  -- of the numbers below n that pass, the one with the best rank, with its code; none where none passes
  abbrev pub Leads : ℕ → Option Rank → Type 0
  Leads n None = (u : ℕ) → u < n → test u ≡ false
  Leads n (Some b) = (b.task < n) × (test b.task ≡ true) × (b.code ≡ code b.task) × ((u : ℕ) → u < n → test u ≡ true → ahead (code u) u b.code b.task ≡ false)

  missed : (n : ℕ) (o : Option Rank) → test n ≡ false → Leads n o → Leads (suc n) o
  missed n None e h = λ u l. elim (cases_eq u n) [ inl s ↦ ap test s ∙ e | inr ne ↦ h u (omega arith) ]
  missed n (Some b) e h = (
    omega (arith, h.0),
    h.1,
    h.2,
    λ u l y. elim (cases_eq u n) [ inl s ↦ absurd (true≢false (sym y ∙ ap test s ∙ e)) | inr ne ↦ h.3 u (omega arith) y ],
  )

  chosen : (n : ℕ) (b : Rank) (o : Bool) → ahead (code n) n b.code b.task ≡ o → test n ≡ true → Leads n (Some b) → Leads (suc n) (Some (cond o (record { code = code n; task = n }) b))
  chosen n b true a e h = (
    omega arith,
    e,
    refl,
    λ u l y. elim (cases_eq u n) [
      | inl s ↦ subst (λ x. ahead (code x) x (code n) n ≡ false) (sym s) (ahead_self (code n) n)
      | inr ne ↦ beyond (code u) u (code n) n b.code b.task a (h.3 u (omega arith) y)
    ],
  )
  chosen n b false a e h = (
    omega (arith, h.0),
    h.1,
    h.2,
    λ u l y. elim (cases_eq u n) [
      | inl s ↦ subst (λ x. ahead (code x) x b.code b.task ≡ false) (sym s) a
      | inr ne ↦ h.3 u (omega arith) y
    ],
  )

  more : (n : ℕ) (o : Option Rank) → test n ≡ true → Leads n o → Leads (suc n) (Some (elim o [ None ↦ record { code = code n; task = n } | Some b ↦ better b (record { code = code n; task = n }) ]))
  more n None e h = (
    omega arith,
    e,
    refl,
    λ u l y. elim (cases_eq u n) [
      | inl s ↦ subst (λ x. ahead (code x) x (code n) n ≡ false) (sym s) (ahead_self (code n) n)
      | inr ne ↦ absurd (true≢false (sym y ∙ h u (omega arith)))
    ],
  )
  more n (Some b) e h = subst (λ x. Leads (suc n) (Some x)) (sym (better_by b (record { code = code n; task = n }))) (chosen n b (ahead (code n) n b.code b.task) refl e h)

  leads : (n : ℕ) → Leads n (reduce better (filter_map rank (range_with_len 0 n)))
  leads zero = λ u l. absurd (omega arith)
  leads (suc n) =
      let below = filter_map rank (range_with_len 0 n) in
      let all : filter_map rank (range_with_len 0 (suc n)) ≡ below ++ filter_map rank (n ∷ []) = ap (filter_map rank) (range_more n) ∙ filter_map-append rank (range_with_len 0 n) (n ∷ []) in
      subst (λ xs. Leads (suc n) (reduce better xs)) (sym all) (by below (test n) refl (leads n))
    where
      by : (below : List Rank) (b : Bool) → test n ≡ b → Leads n (reduce better below) → Leads (suc n) (reduce better (below ++ filter_map rank (n ∷ [])))
      by below true e h = rw e (subst (Leads (suc n)) (sym (reduce_more better below (record { code = code n; task = n }))) (more n (reduce better below) e h))
      by below false e h = rw e (subst (λ xs. Leads (suc n) (reduce better xs)) (sym (append-nil below)) (missed n (reduce better below) e h))

  -- `(0..n).filter_map(..).min()`
  pub leads_from_min : {F : Type 0} {g : Mut F (ℕ × Unit {0}) (Option Rank)} (n : ℕ) (s : FilterMap (Range ℕ) F) (f : F) (r : Option Rank)
      → PicksByCmp (filter_map_steps nat_range_steps g) min_by_ordering cmp-value.it s r → filter_map_source s ≡ record { start = 0; end = n } → filter_map_callee s ≡ f
      → ((x : ℕ) (o : Option Rank) (q : F) → Called g f (x, tt) o q → (q ≡ f) × (o ≡ rank x)) → Leads n r
  leads_from_min {g = g} n s f r d e a k =
      subst (Leads n) (sym (reduce_from_yields_List better s r d (YieldsList-from_filter_map g rank (YieldsList-from_range 0 n n e (omega arith)) a k))) (leads n)
