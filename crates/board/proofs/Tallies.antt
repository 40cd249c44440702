-- How tallies and minima move: by one more number, and by a test that changes at one number
use Rattle.std.proofs.Common.{◌≡◌, ℕ, zero, suc, ◌+◌, ◌<◌, ◌≤◌, min, Bool, cond, ◌≢◌, List, length, get_or, set, replicate, take, count_by, refl, ◌∙◌, inl, inr, add-one, zero-add, arith}
use Rattle.std.proofs.lemmas.List.{get_or-set_same, get_or-set_other, get_or-replicate, length-set, length-replicate}
use Rattle.std.proofs.lemmas.List.FromFn.{length-enumerate_from, get_or-enumerate_from}
use Rattle.std.proofs.lemmas.List.Sums.{count_by_more_yes, count_by_more_no}
use Rattle.std.specs.List.{enumerate_from}
use Rattle.std.proofs.lemmas.Bool.{cases_eq, cases_Bool}
use Rattle.orders.specs.Counting.{tally}
use Rattle.orders.proofs.Counts.{tally_same}
use Rattle.jobs.proofs.Counting.{tally_some}
use Rattle.jobs.specs.Ranks.{total}
use Rattle.board.specs.Settling.{least}

-- a number that passes is counted
pub tally_part : (f : ℕ → Bool) (x n : ℕ) → x < n → cond (f x) 1 0 ≤ tally f n
tally_part f x n l = elim (cases_Bool (f x)) [ inl e ↦ rw e (tally_some f n x l e) | inr e ↦ rw e (omega arith) ]

-- two tests that differ only at x
pub tally_shift : (f g : ℕ → Bool) (x n : ℕ) → x < n → ((k : ℕ) → k < n → k ≢ x → g k ≡ f k) → tally g n + cond (f x) 1 0 ≡ tally f n + cond (g x) 1 0
unfolding tally
tally_shift f g x zero l h = absurd (omega arith)
tally_shift f g x (suc n) l h = elim (cases_eq n x) [
  | inl e ↦
      let s : tally g n ≡ tally f n = tally_same f g n (λ k m. h k (omega arith) (omega arith)) in
      rw (e, ← e, s) (omega arith)
  | inr ne ↦
      let i : tally g n + cond (f x) 1 0 ≡ tally f n + cond (g x) 1 0 = tally_shift f g x n (omega arith) (λ k m. h k (omega arith)) in
      rw (h n (omega arith) ne) (omega arith)
]

-- the minimum over no number
pub least_start : (f : ℕ → Bool) (g : ℕ → ℕ) → 64 ≡ least f g 0
unfolding least
least_start f g = refl

-- and over one more
pub least_step : (f : ℕ → Bool) (g : ℕ → ℕ) (n : ℕ) → least f g (n + 1) ≡ cond (f n) (min (g n) (least f g n)) (least f g n)
unfolding least
least_step f g n = rw (add-one n)

-- the sum over no number
pub total_start : (g : ℕ → ℕ) → 0 ≡ total g 0
unfolding total
total_start g = refl

-- and over one more
pub total_step : (g : ℕ → ℕ) (n : ℕ) → total g (n + 1) ≡ total g n + g n
unfolding total
total_step g n = rw (add-one n) (omega arith)

-- equal summands
pub total_same : (f g : ℕ → ℕ) (n : ℕ) → ((x : ℕ) → x < n → g x ≡ f x) → total g n ≡ total f n
unfolding total
total_same f g zero h = refl
total_same f g (suc n) h = rw (h n (omega arith), total_same f g n (λ x l. h x (omega arith)))

-- counted over a list with the places of its elements
pub tally_places : {X : Type 0} (f : ℕ → X → Bool) (d : X) (xs : List X) (n : ℕ) → n ≤ length xs → count_by (λ (p : ℕ × X). f p.0 p.1) (take n (enumerate_from 0 xs)) ≡ tally (λ i. f i (get_or xs i d)) n
unfolding tally
tally_places f d xs zero l = refl
tally_places {X} f d xs (suc n) l =
    let all = enumerate_from 0 xs in
    let p : ℕ × X → Bool = λ q. f q.0 q.1 in
    let long : n < length all = rw length-enumerate_from (omega arith) in
    let here : p (get_or all n (0, d)) ≡ f n (get_or xs n d) = rw (get_or-enumerate_from 0 xs n (0, d) (omega arith)) (rw zero-add refl) in
    let i : count_by p (take n all) ≡ tally (λ i. f i (get_or xs i d)) n = tally_places f d xs n (omega arith) in
    elim (cases_Bool (f n (get_or xs n d))) [
      | inl e ↦ rw (← add-one n, count_by_more_yes p all n (0, d) long (here ∙ e), e, i) (omega arith)
      | inr e ↦ rw (← add-one n, count_by_more_no p all n (0, d) long (here ∙ e), e, i) (omega arith)
    ]

-- an array of m that has f r n at each r below m
pub record Holds {A : Type 0} (f : ℕ → ℕ → A) (d : A) (m : ℕ) (xs : List A) (n : ℕ) : Type 0 where
  pub long : length xs ≡ m
  pub all : (r : ℕ) → r < m → get_or xs r d ≡ f r n

pub holds_none : {A : Type 0} (f : ℕ → ℕ → A) (d x : A) (m : ℕ) → ((r : ℕ) → x ≡ f r 0) → Holds f d m (replicate m x) 0
holds_none f d x m e = record { long = length-replicate m x; all = λ r l. get_or-replicate m r x d l ∙ e r }

-- one more turn, in which only the value at q moves
pub holds_set : {A : Type 0} (f : ℕ → ℕ → A) (d : A) (m : ℕ) (xs : List A) (n q : ℕ) (x : A) → Holds f d m xs n → q < m → x ≡ f q (n + 1) → ((r : ℕ) → r ≢ q → f r (n + 1) ≡ f r n) → Holds f d m (set xs q x) (n + 1)
holds_set f d m xs n q x h l e same = record {
  long = length-set xs q x ∙ h.long;
  all = λ r k. elim (cases_eq r q) [
    | inl i ↦ rw (i, get_or-set_same xs q x d (rw h.long l)) e
    | inr i ↦ rw (get_or-set_other xs q r x d i, same r i) (h.all r k)
  ];
}

-- one more turn, in which no value moves
pub holds_same : {A : Type 0} (f : ℕ → ℕ → A) (d : A) (m : ℕ) (xs : List A) (n : ℕ) → Holds f d m xs n → ((r : ℕ) → f r (n + 1) ≡ f r n) → Holds f d m xs (n + 1)
holds_same f d m xs n h same = record { long = h.long; all = λ r k. rw (same r) (h.all r k) }
