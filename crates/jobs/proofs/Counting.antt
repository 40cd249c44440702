-- Counts of sets of tasks: one member left out, injections, and sums by value
use Rattle.std.proofs.Common.{◌≡◌, ℕ, zero, suc, ◌+◌, ◌<◌, ◌≤◌, min, Bool, true, cond, not, ◌&&◌, eqb, ltb, ◌≢◌, sym, refl, ◌∙◌, inl, inr, arith}
use Rattle.std.proofs.lemmas.Bool.{cases_Bool, cases_eq, cases_lt, and_parts, eqb-true, lt-ltb}
use Rattle.std.proofs.lemmas.Bool.Decides.{nat_tests}
use Rattle.orders.specs.Counting.{tally}
use Rattle.orders.proofs.Counts.{tally_same, tally_top, tally_none}
use Rattle.jobs.specs.Ranks.{total}

-- the test p, with i left out
abbrev without : (ℕ → Bool) → ℕ → ℕ → Bool
without p i k = p k && not (eqb k i)

-- one of those that pass left out, there is one fewer
tally_without : (p : ℕ → Bool) (i n : ℕ) → i < n → p i ≡ true → tally p n ≡ suc (tally (without p i) n)
unfolding tally
tally_without p i zero h e = absurd (omega arith)
tally_without p i (suc n) h e = elim (cases_eq n i) [
  | inl q ↦ let s = tally_same p (without p i) n (λ k l. grind (arith, nat_tests)) in grind (arith, nat_tests)
  | inr q ↦ let s = tally_without p i n (omega arith) e in grind (arith, nat_tests)
]

-- if f takes those that pass a, each to another, to those that pass b, then b passes as many
pub tally_into : (f : ℕ → ℕ) (n : ℕ) (a : ℕ → Bool) (m : ℕ) (b : ℕ → Bool) →
    ((k : ℕ) → k < n → a k ≡ true → (f k < m) × (b (f k) ≡ true)) →
    ((i k : ℕ) → a i ≡ true → a k ≡ true → f i ≡ f k → i ≡ k) → tally a n ≤ tally b m
unfolding tally
tally_into f zero a m b into one = omega arith
tally_into f (suc n) a m b into one = elim (cases_Bool (a n)) [
  | inl e ↦
      let t = into n (omega arith) e in
      let w = tally_without b (f n) m t.0 t.1 in
      let rest : (k : ℕ) → k < n → a k ≡ true → (f k < m) × (without b (f n) (f k) ≡ true) = λ k l p. (let u = into k (omega arith) p in let d : f k ≢ f n = λ q. let z = one k n p e q in omega arith in (u.0, grind (arith, nat_tests))) in
      let s = tally_into f n a m (without b (f n)) rest one in
      grind arith
  | inr e ↦ let s = tally_into f n a m b (λ k l p. into k (omega arith) p) one in grind arith
]

-- where one passes, the count is not 0
pub tally_some : (p : ℕ → Bool) (n k : ℕ) → k < n → p k ≡ true → 0 < tally p n
tally_some p n k l e = let t = tally_without p k n l e in omega arith

-- where the count is not 0, one passes
pub some_tally : (p : ℕ → Bool) (n : ℕ) → 0 < tally p n → (k : ℕ) × (k < n) × (p k ≡ true)
unfolding tally
some_tally p zero l = absurd (omega arith)
some_tally p (suc n) l = elim (cases_Bool (p n)) [
  | inl e ↦ (n, omega arith, e)
  | inr e ↦ let z : 1 ≤ 0 + tally p n = rw e at l in let s = some_tally p n (omega arith) in (s.0, omega arith, s.2)
]

-- a set in two parts
tally_parts : (a b c : ℕ → Bool) (n : ℕ) → ((k : ℕ) → cond (c k) 1 0 ≡ cond (a k) 1 0 + cond (b k) 1 0) → tally c n ≡ tally a n + tally b n
unfolding tally
tally_parts a b c zero h = refl
tally_parts a b c (suc n) h = let s = tally_parts a b c n h in let e = h n in omega arith

-- how many pass with a value below e: the sum, over the values below e, of how many pass with that value
pub tally_total : (p : ℕ → Bool) (f : ℕ → ℕ) (n e : ℕ) → tally (λ k. p k && ltb (f k) e) n ≡ total (λ x. tally (λ k. p k && eqb (f k) x) n) e
unfolding total
tally_total p f n zero = tally_none (λ k. p k && ltb (f k) 0) n (λ k l. grind (arith, nat_tests))
tally_total p f n (suc e) =
    let s = tally_total p f n e in
    let t = tally_parts (λ k. p k && eqb (f k) e) (λ k. p k && ltb (f k) e) (λ k. p k && ltb (f k) (suc e)) n (λ k. grind (arith, nat_tests)) in
    omega arith

-- a sum of numbers that are at most 1 grows by at most 1 a step
total_more : (g : ℕ → ℕ) (m n : ℕ) → ((x : ℕ) → g x ≤ 1) → m ≤ n → total g n + m ≤ n + total g m
unfolding total
total_more g m zero h l = let e : m ≡ 0 = omega arith in rw e (omega arith)
total_more g m (suc n) h l = elim (cases_eq m (suc n)) [
  | inl e ↦ rw e (omega arith)
  | inr e ↦ let s = total_more g m n h (omega arith) in let t = h n in omega arith
]

-- if those that pass have different values, at most one has the value x
tally_one : (p : ℕ → Bool) (f : ℕ → ℕ) (n x : ℕ) → ((i k : ℕ) → p i ≡ true → p k ≡ true → f i ≡ f k → i ≡ k) → tally (λ k. p k && eqb (f k) x) n ≤ 1
tally_one p f n x one =
    let same : (i k : ℕ) → (p i && eqb (f i) x) ≡ true → (p k && eqb (f k) x) ≡ true → i ≡ k = λ i k a b. (let c = and_parts (p i) _ a in let d = and_parts (p k) _ b in one i k c.0 d.0 (eqb-true _ _ c.1 ∙ sym (eqb-true _ _ d.1))) in
    let t = tally_into (λ k. 0) n (λ k. p k && eqb (f k) x) 1 (λ k. true) (λ k l e. (omega arith, refl)) (λ i k a b e. same i k a b) in
    let u = tally_top (λ k. true) 1 in
    omega arith

-- if the values of all that pass are below e, none has a value that is not
tally_below : (p : ℕ → Bool) (f : ℕ → ℕ) (n e : ℕ) → ((k : ℕ) → p k ≡ true → f k < e) → tally (λ k. p k && ltb (f k) e) n ≡ tally p n
tally_below p f n e low = tally_same p (λ k. p k && ltb (f k) e) n (λ k b. elim (cases_Bool (p k)) [ inl y ↦ rw (y, lt-ltb (f k) e (low k y)) | inr y ↦ rw y ])

-- if those that pass have different values, all below their number, then m of them, or all, have a value below m
pub tally_lowest : (p : ℕ → Bool) (f : ℕ → ℕ) (n m : ℕ) → ((i k : ℕ) → p i ≡ true → p k ≡ true → f i ≡ f k → i ≡ k) → ((k : ℕ) → p k ≡ true → f k < tally p n) →
    tally (λ k. p k && ltb (f k) m) n ≡ min m (tally p n)
unfolding total
tally_lowest p f n m one low =
    let g : ℕ → ℕ = λ x. tally (λ k. p k && eqb (f k) x) n in
    let h : (x : ℕ) → g x ≤ 1 = λ x. tally_one p f n x one in
    elim (cases_lt m (tally p n)) [
      | inl l ↦
          let a = total_more g m (tally p n) h (omega arith) in
          let b = total_more g 0 m h (omega arith) in
          let c = tally_below p f n (tally p n) low in
          let d = tally_total p f n (tally p n) in
          let e = tally_total p f n m in
          omega arith
      | inr l ↦ let c = tally_below p f n m (λ k y. let z = low k y in omega arith) in omega arith
    ]
