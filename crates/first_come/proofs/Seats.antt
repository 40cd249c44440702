-- A line and its seats
use Rattle.std.proofs.Common.{◌≡◌, ℕ, ◌+◌, ◌<◌, ◌≤◌, true, false, eqb, List, zero, suc, [], ◌∷◌, ◌++◌, length, get_or, drop, set, Some, None, sym, refl, ap, ◌∙◌, inl, inr, arith}
use Rattle.std.specs.Bool.{then_some}
use Rattle.std.proofs.lemmas.List.{get_or-set_same, get_or-set_other, length_push}
use Rattle.std.proofs.Math.ListN.{get_or-append}
use Rattle.std.proofs.Math.Seq.{get_or-append_seam}
use Rattle.std.proofs.lemmas.Bool.{cases_eq, cases_lt}
use Rattle.std.proofs.lemmas.Bool.Decides.{nat_tests}
use Rattle.orders.specs.Orders.{asked}
use Rattle.orders.proofs.Answered.{asked_some}
use Rattle.first_come.specs.declared.line.Entry.{Entry}
use Rattle.first_come.specs.Entries.{blank, has, place, code_of, proper, Seated}
use Rattle.first_come.specs.Lined.{place_in, task_at, code_at, has_at, below_from_proper, proper_push}

-- ---- a search by seat

module _ (t : ℕ) (es : List Entry) (seats : List ℕ) (seated : Seated es seats) where
  -- the seat of a task in line is its place
  seat_place : has t es ≡ true → get_or seats t 0 ≡ place t es
  seat_place h = ap (λ u. get_or seats u 0) (sym (task_at t es h)) ∙ seated (place t es) (place_in t es h)

  pub seat_unknown : proper es ≡ true → 64 ≤ t → None ≡ asked (has t es) (place t es)
  seat_unknown ok far = grind (arith, below_from_proper t es ok)

  pub seat_past : length es ≤ get_or seats t 0 → None ≡ asked (has t es) (place t es)
  seat_past far = grind (arith, seat_place, place_in t es)

  pub seat_tells : (s : ℕ) (e : Entry) → s ≡ get_or seats t 0 → s < length es → e ≡ get_or es s blank → then_some (eqb e.task t) s ≡ asked (has t es) (place t es)
  seat_tells s e at near own =
      grind (arith, nat_tests, seat_place, has_at t s es near, task_at t es)

-- the entry at the place of a task has its code
pub found_code : (t i : ℕ) (es : List Entry) → Some i ≡ asked (has t es) (place t es) → (i < length es) × (Some (get_or es i blank).code ≡ asked (has t es) (code_of t es))
found_code t i es h =
    let a = asked_some (has t es) (place t es) i h in
    rw (a.1, a.0) (place_in t es a.0, ap Some (code_at t es a.0))

-- ---- a newcomer at the end

pub joined_neat : (es : List Entry) (e : Entry) → proper es ≡ true → has e.task es ≡ false → e.task < 64 → (fs : List Entry) → fs ≡ es ++ (e ∷ []) → proper fs ≡ true
joined_neat es e ok new known fs is = rw is (proper_push es e ok new known)

pub joined_seated : (es : List Entry) (seats : List ℕ) (e : Entry) → Seated es seats → has e.task es ≡ false → e.task < length seats → (fs : List Entry) (n : ℕ) → n ≡ length es → fs ≡ es ++ (e ∷ []) → Seated fs (set seats e.task n)
joined_seated es seats e seated new known fs n at is =
    rw (is, at) (λ i b. elim (cases_lt i (length es)) [
      | inl k ↦
          grind (arith, get_or-append es (e ∷ []) blank i k, get_or-set_other seats e.task (get_or es i blank).task n 0, has_at e.task i es k, seated i k)
      | inr k ↦
          let last : i ≡ length es = omega (arith, length_push es e) in
          rw (last, get_or-append_seam es e [] blank) (get_or-set_same seats e.task (length es) 0 known)
    ])

-- ---- the first leaves

pub left_neat : (es fs : List Entry) → proper es ≡ true → fs ≡ drop 1 es → proper fs ≡ true
left_neat [] fs ok is = rw is
left_neat (x ∷ xs) fs ok is = rw is (grind arith)

-- ---- each task gets its place as its seat

pub task_below : (es : List Entry) → proper es ≡ true → (n : ℕ) → n < length es → (get_or es n blank).task < 64
task_below es ok n b = let t = (get_or es n blank).task in below_from_proper t es ok (has_at t n es b refl)

-- no task stands at two places
apart : (es : List Entry) → proper es ≡ true → (i n : ℕ) → i < n → n < length es → (get_or es i blank).task ≡ (get_or es n blank).task → ⊥
apart [] ok i n d b same = omega (arith, b)
apart (x ∷ xs) ok i zero d b same = omega (arith, d)
apart (x ∷ xs) ok zero (suc n) d b same = grind (arith, has_at x.task n xs (omega (arith, b)) (sym same))
apart (x ∷ xs) ok (suc i) (suc n) d b same = apart xs (grind arith) i n (omega (arith, d)) (omega (arith, b)) same

-- the first n tasks in line have their seats
abbrev pub Placed : List Entry → ℕ → List ℕ → Type 0
Placed es n seats = (i : ℕ) → i < n → get_or seats (get_or es i blank).task 0 ≡ i

pub placed_more : (es : List Entry) → proper es ≡ true → (seats : List ℕ) (n : ℕ) → n < length es → length seats ≡ 64 → Placed es n seats → Placed es (n + 1) (set seats (get_or es n blank).task n)
placed_more es ok seats n b long h i d =
    let t = (get_or es n blank).task in
    elim (cases_eq i n) [
      | inl e ↦ rw e (get_or-set_same seats t n 0 (omega (arith, long, task_below es ok n b)))
      | inr ne ↦ get_or-set_other seats t (get_or es i blank).task n 0 (apart es ok i n (omega (arith, ne, d)) b) ∙ h i (omega (arith, ne, d))
    ]
