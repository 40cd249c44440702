-- One more turn of the passes of a tick, and what a tick leaves
use Rattle.std.proofs.Common.{◌≡◌, ◌≢◌, ℕ, suc, ◌+◌, ◌<◌, ◌≤◌, Bool, true, false, ◌&&◌, ◌||◌, ltb, List, length, get_or, set, replicate, sym, refl, ap, ◌∙◌, subst, inl, inr, arith}
use mathlib.Core.Path.{fun_ext}
use Rattle.std.proofs.lemmas.List.{length-set, get_or-set_same, get_or-set_other, get_or_past}
use Rattle.std.proofs.lemmas.Bool.{cases_eq, cases_lt, cases_Bool, ltb-true, eq-eqb, ne_eqb}
use Rattle.std.proofs.lemmas.Bool.Decides.{nat_tests}
use Rattle.orders.specs.Counting.{tally}
use Rattle.orders.proofs.Counts.{tally_step, tally_same, tally_none}
use Rattle.board.proofs.Tallies.{Holds, holds_none, holds_set, holds_same}
use Rattle.jobs.specs.declared.state.TaskState.{TaskState}
use Rattle.jobs.specs.declared.state.TaskState.TheVariants.{Idle, Ready, Waiting, Holding}
use Rattle.jobs.specs.Jobs.{Jobs, holds_it, running, blocked, busy}
use Rattle.board.specs.declared.record.TaskRecord.{TaskRecord}
use Rattle.board.specs.declared.record.ResourceRecord.{ResourceRecord}
use Rattle.board.specs.Boards.{blank, unheld, jobs_of, ticked, ticked_hold, named, Known, Run, Blocked, used_by, Used, Done}

pub done_none : {X : Type 0} (f : ℕ → X → X) (d : X) (xs : List X) → Done f d xs xs 0
done_none f d xs = record { long = refl; done = λ k l. absurd (omega arith); left = λ k l. refl }

-- the next element is changed
pub done_set : {X : Type 0} (f : ℕ → X → X) (d : X) (xs ys : List X) (n : ℕ) (x : X) → Done f d xs ys n → n < length xs → x ≡ f n (get_or ys n d) → Done f d xs (set ys n x) (n + 1)
done_set f d xs ys n x a l e = record {
  long = length-set ys n x ∙ a.long;
  done = λ k m. elim (cases_eq k n) [
    | inl q ↦ rw (q, get_or-set_same ys n x d (rw a.long l), e, a.left n (omega arith))
    | inr q ↦ rw (get_or-set_other ys n k x d q) (a.done k (omega arith))
  ];
  left = λ k m. rw (get_or-set_other ys n k x d (omega arith)) (a.left k (omega arith));
}

-- some of the first n passed, or none yet
some_more : (f : ℕ → Bool) (n : ℕ) → ltb 0 (tally f (n + 1)) ≡ (ltb 0 (tally f n) || f n)
some_more f n = rw (tally_step f n) (elim (cases_Bool (f n)) [ inl e ↦ rw e (grind (arith, nat_tests)) | inr e ↦ rw e (grind (arith, nat_tests)) ])

-- a job that holds nothing holds no resource
holds_not : (s : TaskState) (r : ℕ) → ((q : ℕ) → s ≢ Holding q) → holds_it r s ≡ false
holds_not Idle r h = refl
holds_not Ready r h = refl
holds_not (Waiting q) r h = refl
holds_not (Holding q) r h = absurd (h q refl)

module _ (rows : List TaskRecord) (run : List Bool) where
  -- which resources are held by a job below n that runs
  abbrev pub Using : List Bool → ℕ → Type 0
  Using used n = Holds (used_by rows run) false 32 used n

  pub using_none : Using (replicate 32 false) 0
  unfolding tally
  using_none = holds_none _ false false 32 (λ r. refl)

  using_step : (r n : ℕ) → used_by rows run r (n + 1) ≡ (used_by rows run r n || (holds_it r (get_or rows n blank).state && get_or run n false))
  using_step r n = some_more (λ k. holds_it r (get_or rows k blank).state && get_or run k false) n

  -- one more job holds q
  pub using_takes : (used : List Bool) (q n : ℕ) → (get_or rows n blank).state ≡ Holding q → q < 32 → Using used n → Using (set used q (get_or used q false || get_or run n false)) (n + 1)
  using_takes used q n e l h = holds_set _ false 32 used n q _ h l (rw (using_step q n, e, eq-eqb q q refl, h.all q l)) (λ r i. rw (using_step r n, e, ne_eqb q r (λ z. i (sym z))) (grind (arith, nat_tests)))

  -- one more job holds nothing
  pub using_keeps : (used : List Bool) (n : ℕ) → ((q : ℕ) → (get_or rows n blank).state ≢ Holding q) → Using used n → Using used (n + 1)
  using_keeps used n e h = holds_same _ false 32 used n h (λ r. rw (using_step r n, holds_not (get_or rows n blank).state r e) (grind (arith, nat_tests)))

-- ---- what a tick leaves

ticked_state : (b : Bool) (x : TaskRecord) → (ticked b x).state ≡ x.state
ticked_state true x = refl
ticked_state false x = refl

ticked_code : (b : Bool) (x : TaskRecord) → (ticked b x).code ≡ x.code
ticked_code true x = refl
ticked_code false x = refl

ticked_blocked : (b : Bool) (x : TaskRecord) → (ticked b x).blocked ≤ suc x.blocked
ticked_blocked true x = omega arith
ticked_blocked false x = omega arith

ticked_used : (b : Bool) (x : ResourceRecord) → (ticked_hold b x).used ≤ suc x.used
ticked_used true x = omega arith
ticked_used false x = omega arith

-- a field that the change leaves as it is
field_kept : {X A : Type 0} (field : X → A) (f : ℕ → X → X) (d : X) (xs ys : List X) (n : ℕ) → Done f d xs ys n → ((k : ℕ) (x : X) → field (f k x) ≡ field x) → (k : ℕ) → field (get_or ys k d) ≡ field (get_or xs k d)
field_kept field f d xs ys n h same k = elim (cases_lt k n) [
  | inl l ↦ ap field (h.done k l) ∙ same k (get_or xs k d)
  | inr l ↦ ap field (h.left k l)
]

-- a count that the change leaves or raises by one
field_raised : {X : Type 0} (field : X → ℕ) (f : ℕ → X → X) (d : X) (xs ys : List X) (n now : ℕ) → Done f d xs ys n → ((k : ℕ) (x : X) → field (f k x) ≤ suc (field x)) → ((k : ℕ) → field (get_or xs k d) ≤ now) → (k : ℕ) → field (get_or ys k d) ≤ now + 1
field_raised field f d xs ys n now h small low k = let b = low k in elim (cases_lt k n) [
  | inl l ↦ rw (h.done k l) (let a = small k (get_or xs k d) in omega arith)
  | inr l ↦ rw (h.left k l) (omega arith)
]

-- a job that holds one of the 32 resources holds no other
holds_no_other : (s : TaskState) (r : ℕ) → named s ≡ true → 32 ≤ r → holds_it r s ≡ false
holds_no_other Idle r h l = refl
holds_no_other Ready r h l = refl
holds_no_other (Waiting q) r h l = refl
holds_no_other (Holding q) r h l = ne_eqb q r (let k = ltb-true q 32 h in λ e. omega arith)

module _ (rows after : List TaskRecord) (n : ℕ) (block : List Bool) (done : Done (λ k x. ticked (get_or block k false) x) blank rows after n) where
  -- no job changes
  pub ticked_jobs : jobs_of after ≡ jobs_of rows
  ticked_jobs =
      let states : (λ (k : ℕ). (get_or after k blank).state) ≡ (λ k. (get_or rows k blank).state) = fun_ext (field_kept (λ x. x.state) _ blank rows after n done (λ k x. ticked_state (get_or block k false) x)) in
      let codes : (λ (k : ℕ). (get_or after k blank).code) ≡ (λ k. (get_or rows k blank).code) = fun_ext (field_kept (λ x. x.code) _ blank rows after n done (λ k x. ticked_code (get_or block k false) x)) in
      λ i. record { state = states i; code = codes i }

module _ (rows after : List TaskRecord) (m : ℕ) (run block : List Bool) (done : Done (λ k x. ticked (get_or block k false) x) blank rows after 64) where
  pub ticked_runs : Run rows m run → Run after m run
  ticked_runs runs = subst (λ (j : Jobs). (t : ℕ) → t < 64 → get_or run t false ≡ running j m t) (sym (ticked_jobs rows after 64 block done)) runs

  pub ticked_blocks : Blocked rows m block → Blocked after m block
  ticked_blocks blocks = subst (λ (j : Jobs). (t : ℕ) → t < 64 → get_or block t false ≡ blocked j m t) (sym (ticked_jobs rows after 64 block done)) blocks

  pub ticked_short : (now : ℕ) → ((t : ℕ) → (get_or rows t blank).blocked ≤ now) → (t : ℕ) → (get_or after t blank).blocked ≤ now + 1
  ticked_short now short = field_raised (λ x. x.blocked) _ blank rows after 64 now done (λ k x. ticked_blocked (get_or block k false) x) short

  -- nobody past the table is blocked
  past_blocked : length rows ≡ 64 → (k : ℕ) → 64 ≤ k → blocked (jobs_of rows) m k ≡ false
  unfolding blocked
  past_blocked long k l = rw (get_or_past rows k blank (omega arith))

  pub ticked_rows : length rows ≡ 64 → Blocked rows m block → (k : ℕ) → get_or after k blank ≡ ticked (blocked (jobs_of rows) m k) (get_or rows k blank)
  ticked_rows long blocks k = elim (cases_lt k 64) [
    | inl l ↦ done.done k l ∙ ap (λ b. ticked b (get_or rows k blank)) (blocks k l)
    | inr l ↦ done.left k l ∙ rw (past_blocked long k l)
  ]

-- a resource is used exactly if it is busy
used_busy : (rows : List TaskRecord) (m : ℕ) (run : List Bool) → Run rows m run → (r : ℕ) → used_by rows run r 64 ≡ busy (jobs_of rows) m r
unfolding busy
used_busy rows m run runs r =
    ap (ltb 0) (tally_same (λ k. holds_it r (get_or rows k blank).state && running (jobs_of rows) m k) (λ k. holds_it r (get_or rows k blank).state && get_or run k false) 64 (λ k l. ap (λ b. holds_it r (get_or rows k blank).state && b) (runs k l)))

-- nobody holds what there is not
past_busy : (rows : List TaskRecord) (m : ℕ) → Known rows → (r : ℕ) → 32 ≤ r → busy (jobs_of rows) m r ≡ false
unfolding busy
past_busy rows m known r l =
    let none : tally (λ k. holds_it r (get_or rows k blank).state && running (jobs_of rows) m k) 64 ≡ 0 = tally_none _ 64 (λ k h. rw (holds_no_other (get_or rows k blank).state r (known k) l)) in
    rw none

module _ (holds later : List ResourceRecord) (used : List Bool) (done : Done (λ r x. ticked_hold (get_or used r false) x) unheld holds later 32) where
  pub ticked_brief : (now : ℕ) → ((r : ℕ) → (get_or holds r unheld).used ≤ now) → (r : ℕ) → (get_or later r unheld).used ≤ now + 1
  ticked_brief now brief = field_raised (λ x. x.used) _ unheld holds later 32 now done (λ r x. ticked_used (get_or used r false) x) brief

  pub ticked_holds : (rows : List TaskRecord) (m : ℕ) (run : List Bool) → Known rows → Run rows m run → Used rows run used → (r : ℕ) → get_or later r unheld ≡ ticked_hold (busy (jobs_of rows) m r) (get_or holds r unheld)
  ticked_holds rows m run known runs uses r = elim (cases_lt r 32) [
    | inl l ↦ done.done r l ∙ ap (λ b. ticked_hold b (get_or holds r unheld)) (uses r l ∙ used_busy rows m run runs r)
    | inr l ↦ done.left r l ∙ rw (past_busy rows m known r l)
  ]
