-- Turns, states and lines
use Rattle.std.proofs.Common.{◌≡◌, ℕ, zero, suc, ◌+◌, ◌-◌, ◌*◌, ◌<◌, ◌≤◌, min, true, false, cond, ◌&&◌, eqb, ltb, leb, ◌≢◌, ◌⊎◌, List, [], ◌∷◌, ◌++◌, length, Some, sym, refl, ap, ◌∙◌, inl, inr, arith}
use Rattle.std.proofs.lemmas.Bool.{cases_Bool, cases_lt, and_from, lt-ltb, le-ltb, both_ways, eq-eqb, ne_eqb, or_from, or_left}
use Rattle.std.proofs.lemmas.Bool.Decides.{nat_tests}
use Rattle.orders.specs.Counting.{tally}
use Rattle.first_come.specs.declared.line.Entry.{Entry}
use Rattle.first_come.specs.Lines.{has, leader}
use Rattle.gated_line.proofs.Sim.{entry, without, leads}
use Rattle.jobs.specs.declared.state.TaskState.{TaskState}
use Rattle.jobs.specs.declared.state.TaskState.TheVariants.{Idle, Ready, Waiting, Holding}
use Rattle.jobs.specs.Jobs.{pending}
use Rattle.longest.specs.Longest.{turn}

-- ---- turns

pub turn_low : (m i : ℕ) → i < m → turn m i ≡ m + i
turn_low m i l = rw (lt-ltb i m l)

pub turn_high : (m i : ℕ) → m ≤ i → turn m i ≡ i - m
turn_high m i l = rw (le-ltb i m l)

pub turn_below : (m i : ℕ) → i < 2 * m → turn m i < 2 * m
turn_below m i l = elim (cases_lt i m) [ inl x ↦ rw (turn_low m i x) (omega arith) | inr x ↦ rw (turn_high m i x) (omega arith) ]

-- turn is its own inverse
turn_turn : (m i : ℕ) → i < 2 * m → turn m (turn m i) ≡ i
turn_turn m i l = elim (cases_lt i m) [
  | inl x ↦ rw (turn_low m i x, turn_high m (m + i) (omega arith)) (omega arith)
  | inr x ↦ rw (turn_high m i x, turn_low m (i - m) (omega arith)) (omega arith)
]

-- no task has two turns
pub turn_one : (m i j : ℕ) → i < 2 * m → j < 2 * m → turn m i ≡ turn m j → i ≡ j
turn_one m i j l k e = sym (turn_turn m i l) ∙ (ap (turn m) e ∙ turn_turn m j k)

-- ---- states

-- the state of the j-th job when i have entered and k have released
abbrev pub nth_state : ℕ → ℕ → ℕ → TaskState
nth_state i k j = cond (ltb j k) Ready (cond (ltb j i) (cond (eqb j k) (Holding 0) (Waiting 0)) Idle)

-- the state of task t then
abbrev pub task_state : ℕ → ℕ → ℕ → ℕ → TaskState
task_state m i k t = cond (ltb t (2 * m)) (nth_state i k (turn m t)) Idle

pub task_at : (m i k j : ℕ) → j < 2 * m → task_state m i k (turn m j) ≡ nth_state i k j
task_at m i k j l = rw (lt-ltb (turn m j) (2 * m) (turn_below m j l)) (ap (nth_state i k) (turn_turn m j l))

-- whoever has not entered is idle
pub nth_idle : (i k j : ℕ) → k ≤ i → i ≤ j → nth_state i k j ≡ Idle
nth_idle i k j a b = rw (le-ltb j k (omega arith), le-ltb j i b)

-- after k releases the k-th holds
pub nth_holding : (i k : ℕ) → k < i → nth_state i k k ≡ Holding 0
nth_holding i k a = rw (le-ltb k k (omega arith), lt-ltb k i a, eq-eqb k k refl)

-- whoever entered after it waits
pub nth_waiting : (i k j : ℕ) → k < j → j < i → nth_state i k j ≡ Waiting 0
nth_waiting i k j a b = rw (le-ltb j k (omega arith), lt-ltb j i b, ne_eqb j k (omega arith))

-- whoever has released is ready
pub nth_ready : (i k j : ℕ) → j < k → nth_state i k j ≡ Ready
nth_ready i k j a = rw (lt-ltb j k a)

-- one more enters
nth_enter : (i k j : ℕ) → j ≢ i → nth_state (suc i) k j ≡ nth_state i k j
nth_enter i k j ne = grind (arith, nat_tests)

-- one more releases
nth_leave : (i k j : ℕ) → j ≢ k → j ≢ suc k → nth_state i (suc k) j ≡ nth_state i k j
nth_leave i k j a b = grind (arith, nat_tests)

pub task_low : (m i k t : ℕ) → t < 2 * m → task_state m i k t ≡ nth_state i k (turn m t)
task_low m i k t l = rw (lt-ltb t (2 * m) l)

pub task_high : (m i k t : ℕ) → 2 * m ≤ t → task_state m i k t ≡ Idle
task_high m i k t l = rw (le-ltb t (2 * m) l)

-- whoever is pending has entered
pub task_pending : (m i k t : ℕ) → k ≤ i → pending (task_state m i k t) ≡ true → (t < 2 * m) × (turn m t < i)
task_pending m i k t l e = elim (cases_lt t (2 * m)) [
  | inl x ↦ (
    x,
    elim (cases_lt (turn m t) i) [
      | inl y ↦ y
      | inr y ↦ absurd (both_ways _ (ap pending (task_low m i k t x ∙ nth_idle i k (turn m t) l y)) e)
    ],
  )
  | inr x ↦ absurd (both_ways _ (ap pending (task_high m i k t x)) e)
]

-- whoever holds is the k-th
pub task_holder : (m i k t r : ℕ) → task_state m i k t ≡ Holding r → t ≡ turn m k
task_holder m i k t r e = elim (cases_lt t (2 * m)) [
  | inl x ↦ sym (turn_turn m t x) ∙ ap (turn m) (nth_holder (turn m t) (sym (task_low m i k t x) ∙ e))
  | inr x ↦ absurd (let z : Idle ≡ Holding r = sym (task_high m i k t x) ∙ e in grind arith)
]
  where
    nth_holder : (j : ℕ) → nth_state i k j ≡ Holding r → j ≡ k
    nth_holder j f = grind (arith, nat_tests)

pub task_enter : (m i k t : ℕ) → i < 2 * m → t ≢ turn m i → task_state m (suc i) k t ≡ task_state m i k t
task_enter m i k t l ne = elim (cases_lt t (2 * m)) [
  | inl x ↦ task_low m (suc i) k t x ∙ (nth_enter i k (turn m t) (λ e. ne (sym (turn_turn m t x) ∙ ap (turn m) e)) ∙ sym (task_low m i k t x))
  | inr x ↦ task_high m (suc i) k t x ∙ sym (task_high m i k t x)
]

pub task_leave : (m i k t : ℕ) → t ≢ turn m k → t ≢ turn m (suc k) → task_state m i (suc k) t ≡ task_state m i k t
task_leave m i k t a b = elim (cases_lt t (2 * m)) [
  | inl x ↦ task_low m i (suc k) t x ∙ (nth_leave i k (turn m t) (λ e. a (sym (turn_turn m t x) ∙ ap (turn m) e)) (λ e. b (sym (turn_turn m t x) ∙ ap (turn m) e)) ∙ sym (task_low m i k t x))
  | inr x ↦ task_high m i (suc k) t x ∙ sym (task_high m i k t x)
]

-- ---- lines

-- at most w numbers lie from a to a + w - 1
pub window : (a w n : ℕ) → tally (λ j. leb a j && ltb j (a + w)) n ≤ min (n - a) w
unfolding tally
window a w zero = omega arith
window a w (suc n) = let i = window a w n in grind (arith, nat_tests)

-- n jobs in line from the a-th on
abbrev pub line : ℕ → ℕ → ℕ → ℕ → List Entry
line c m a zero = []
line c m a (suc n) = entry (turn m a) c ∷ line c m (suc a) n

pub line_long : (c m a n : ℕ) → length (line c m a n) ≡ n
line_long c m a zero = refl
line_long c m a (suc n) = ap suc (line_long c m (suc a) n)

-- the next in turn goes to the end
pub line_push : (c m a n : ℕ) → line c m a n ++ (entry (turn m (a + n)) c ∷ []) ≡ line c m a (suc n)
line_push c m a zero = let e : a + 0 ≡ a = omega arith in rw e
line_push c m a (suc n) = let e : a + suc n ≡ suc a + n = omega arith in rw e (ap (λ xs. entry (turn m a) c ∷ xs) (line_push c m (suc a) n))

-- whose turn comes before or after is not in line
pub line_lacks : (c m a n i : ℕ) → i < 2 * m → a + n ≤ 2 * m → (a + n ≤ i) ⊎ (i < a) → has (turn m i) (line c m a n) ≡ false
line_lacks c m a zero i l k o = refl
line_lacks c m a (suc n) i l k o =
    let d : a ≢ i = elim o [ inl x ↦ omega arith | inr x ↦ omega arith ] in
    let o' : (suc a + n ≤ i) ⊎ (i < suc a) = elim o [ inl x ↦ inl (omega arith) | inr x ↦ inr (omega arith) ] in
    or_from _ _ (ne_eqb (turn m a) (turn m i) (λ e. d (turn_one m a i (omega arith) l e))) (line_lacks c m (suc a) n i l (omega arith) o')

-- whoever comes no later in turn, with the same code, is ahead of all others
pub line_leads : (c m b a n : ℕ) → m ≤ a → b ≤ a - m → leads (entry b c) (line c m a n) ≡ true
line_leads c m b a zero l k = refl
line_leads c m b a (suc n) l k =
    let e = turn_high m a l in
    and_from _ _ (rw e (grind (arith, nat_tests))) (line_leads c m b (suc a) n (omega arith) (omega arith))

-- leaving out whoever is not there changes nothing
pub without_lacking : (b : ℕ) (ys : List Entry) → has b ys ≡ false → without b ys ≡ ys
without_lacking b [] e = refl
without_lacking b (y ∷ ys) e =
    elim (cases_Bool (eqb y.task b)) [
      | inl x ↦ absurd (both_ways _ e (or_left _ _ x))
      | inr x ↦ rw x (ap (λ zs. y ∷ zs) (without_lacking b ys (rw x at e)))
    ]

-- the a-th is first in line
pub line_leader : (c m a n : ℕ) → 1 ≤ n → leader (line c m a n) ≡ Some (turn m a)
line_leader c m a zero l = absurd (omega arith)
line_leader c m a (suc n) l = refl
