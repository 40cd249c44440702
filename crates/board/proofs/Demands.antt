-- How many pending jobs are ahead, when one record changes
use Rattle.std.proofs.Common.{◌≡◌, ℕ, ◌+◌, ◌<◌, ◌≤◌, Bool, cond, ◌&&◌, ◌≢◌, List, length, get_or, set, take, filter, count_by, sym, refl, ap, ◌∙◌, inl, inr, arith}
use Rattle.std.proofs.lemmas.List.{get_or-set_same, get_or-set_other}
use Rattle.std.proofs.lemmas.List.{take_all}
use Rattle.std.proofs.lemmas.List.FromFn.{length-enumerate_from}
use Rattle.std.proofs.lemmas.List.Sums.{length-filter}
use Rattle.std.specs.List.{enumerate_from}
use Rattle.orders.specs.Counting.{ahead as is_ahead}
use Rattle.std.proofs.lemmas.Bool.{cases_eq}
use Rattle.orders.proofs.Counts.{tally_same, tally_top}
use Rattle.jobs.specs.Jobs.{pending, demand}
use Rattle.board.specs.declared.record.TaskRecord.{TaskRecord}
use Rattle.board.specs.Boards.{blank, jobs_of}
use Rattle.board.proofs.Tallies.{tally_part, tally_shift, tally_places}

-- the job of the record x, of task i, is pending and ahead of that of the record y, of task k
abbrev pub before : TaskRecord → ℕ → TaskRecord → ℕ → Bool
before x i y k = pending x.state && is_ahead x.code i y.code k

-- the test that the demand of k counts
abbrev pub rival : List TaskRecord → ℕ → ℕ → Bool
rival rows k i = before (get_or rows i blank) i (get_or rows k blank) k

before_same : {x x' y y' : TaskRecord} → x ≡ x' → y ≡ y' → (i k : ℕ) → before x i y k ≡ before x' i y' k
before_same p q i k = rw (p, q)

module _ (rows : List TaskRecord) (t : ℕ) (old : TaskRecord) (k : ℕ) (known : t < 64) (long : length rows ≡ 64) (apart : k ≢ t) where
  abbrev earlier : List TaskRecord
  earlier = set rows t old

  at_k : get_or earlier k blank ≡ get_or rows k blank
  at_k = get_or-set_other rows t k old blank apart

  at_t : get_or earlier t blank ≡ old
  at_t = get_or-set_same rows t old blank (omega arith)

  was : cond {A = ℕ} (rival earlier k t) 1 0 ≡ cond (before old t (get_or rows k blank) k) 1 0
  was = ap (λ b. cond {A = ℕ} b 1 0) (before_same at_t at_k t k)

  -- the changed record is one of those counted
  pub demand_holds : cond (before old t (get_or rows k blank) k) 1 0 ≤ demand (jobs_of earlier) k
  unfolding demand
  demand_holds = omega (arith, was, tally_part (rival earlier k) t 64 known)

  -- what the count loses and gains
  pub demand_shifts : demand (jobs_of rows) k + cond (before old t (get_or rows k blank) k) 1 0 ≡ demand (jobs_of earlier) k + cond (before (get_or rows t blank) t (get_or rows k blank) k) 1 0
  unfolding demand
  demand_shifts =
      omega (arith, was, tally_shift (rival earlier k) (rival rows k) t 64 known (λ i l ne. sym (before_same (get_or-set_other rows t i old blank ne) at_k i k)))

-- a demand, counted over the table
pub demand_counted : (rows : List TaskRecord) (k : ℕ) → length rows ≡ 64 → length (filter (λ (p : ℕ × TaskRecord). before p.1 p.0 (get_or rows k blank) k) (enumerate_from 0 rows)) ≡ demand (jobs_of rows) k
unfolding demand
demand_counted rows k long =
    let all = enumerate_from 0 rows in
    let whole : take 64 all ≡ all = take_all 64 all (rw (length-enumerate_from, long) (omega arith)) in
    length-filter _ all ∙ ap (count_by (λ (p : ℕ × TaskRecord). before p.1 p.0 (get_or rows k blank) k)) (sym whole) ∙ tally_places (λ i x. before x i (get_or rows k blank) k) blank rows 64 (rw long (omega arith))

-- no more than 64 are ahead
demand_top : (rows : List TaskRecord) (k : ℕ) → demand (jobs_of rows) k ≤ 64
unfolding demand
demand_top rows k = tally_top (rival rows k) 64

module _ (rows : List TaskRecord) (t : ℕ) (old : TaskRecord) (k : ℕ) (known : t < 64) (long : length rows ≡ 64) (apart : k ≢ t) (count : ℕ) (was : count ≡ demand (jobs_of (set rows t old)) k) where
  -- the count of k can lose one where it has to, and is small
  pub demand_fits : (lost : Bool) → lost ≡ before old t (get_or rows k blank) k → (cond lost 1 0 ≤ count) × (count ≤ 64)
  demand_fits lost e = (rw (was, e) (demand_holds rows t old k known long apart), rw was (demand_top (set rows t old) k))

  -- and shifted it is the new one
  pub demand_moved : (lost gained : Bool) → lost ≡ before old t (get_or rows k blank) k → gained ≡ before (get_or rows t blank) t (get_or rows k blank) k → (x : ℕ) → x + cond lost 1 0 ≡ count + cond gained 1 0 → x ≡ demand (jobs_of rows) k
  demand_moved lost gained e f x h =
      let d : demand (jobs_of rows) k + cond lost 1 0 ≡ demand (jobs_of (set rows t old)) k + cond gained 1 0 = rw (e, f) (demand_shifts rows t old k known long apart) in
      omega arith

-- a record that is as pending as it was, with the same code, leaves every demand as it was
module _ (rows : List TaskRecord) (t : ℕ) (old : TaskRecord) (inside : t < length rows) (alike : pending old.state ≡ pending (get_or rows t blank).state) (code : old.code ≡ (get_or rows t blank).code) where
  same_at : (i : ℕ) → (pending (get_or (set rows t old) i blank).state ≡ pending (get_or rows i blank).state) × ((get_or (set rows t old) i blank).code ≡ (get_or rows i blank).code)
  same_at i = elim (cases_eq i t) [
    | inl e ↦ rw (e, get_or-set_same rows t old blank inside) (alike, code)
    | inr ne ↦ rw (get_or-set_other rows t i old blank ne) (refl, refl)
  ]

  pub demand_kept : (k : ℕ) → demand (jobs_of (set rows t old)) k ≡ demand (jobs_of rows) k
  unfolding demand
  demand_kept k = tally_same (rival rows k) (rival (set rows t old) k) 64 (λ i l. rw ((same_at i).0, (same_at i).1, (same_at k).1))
