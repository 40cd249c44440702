-- rows at the end, one by one
use Rattle.std.specs.Option.{MatchOption}
use Rattle.std.proofs.lemmas.Bool.{cases_lt, cond-true, lt-ltb}
use Rattle.std.proofs.Common.{◌≡◌, ℕ, zero, suc, ◌+◌, ◌<◌, ◌≤◌, Bool, true, false, ◌&&◌, ltb, ⊎_elim, arith, List, [], ◌++◌, Some, None, Option, sym, refl, ap, ◌∙◌, append_assoc, append-nil, add-one}
use Rattle.jobs.specs.declared.state.TaskState.{TaskState}
use Rattle.jobs.specs.Jobs.{holds_it}
use Rattle.runs.specs.Steps.{Facts}
use Rattle.board.specs.Calls.{row, hold}
use Rattle.board.specs.declared.record.TaskRecord.{TaskRecord}
use Rattle.board.specs.declared.record.ResourceRecord.{ResourceRecord}
use Rattle.kernel.specs.declared.kernel.Kernel.{Kernel}
use Rattle.kernel.specs.Views.{facts_of, state_of, made_of, task_answer, resource_answer}
use Rattle.transcript.specs.Rows.{task_row, resource_row}
use Rattle.event_run.specs.Outputs.{first, holding, task_rows, resource_rows}

-- none of the first n passes, or i is the first
none_first : (p : ℕ → Bool) (n : ℕ) → ((k : ℕ) → k < n → p k ≡ false) → first p n ≡ None
unfolding first
none_first p zero h = refl
none_first p (suc n) h = rw (none_first p n (λ k l. h k (omega arith)), h n (omega arith))

some_first : (p : ℕ → Bool) (n i : ℕ) → i < n → p i ≡ true → ((k : ℕ) → k < i → p k ≡ false) → first p n ≡ Some i
unfolding first
some_first p zero i l e h = absurd (omega arith)
some_first p (suc n) i l e h =
    ⊎_elim
    (λ before. rw (some_first p n i before e h))
    (λ after.
    let last : i ≡ n = omega arith in
    rw (none_first p n (λ k l. h k (omega arith)), ap p (sym last) ∙ e, last))
    (cases_lt i n)

pub first_is : (p : ℕ → Bool) (n : ℕ) (r : Option ℕ) → MatchOption r ((k : ℕ) → 0 ≤ k → k < n → p k ≡ false) (λ i. (0 ≤ i) × (i < n) × (p i ≡ true) × ((k : ℕ) → 0 ≤ k → k < i → p k ≡ false)) → r ≡ first p n
first_is p n None h = sym (none_first p n (λ k l. h k (omega arith) l))
first_is p n (Some i) h = sym (some_first p n i h.1 h.2 (λ k l. h.3 k (omega arith) l))

-- tests that agree below n have the same first
first_same : (p q : ℕ → Bool) (n : ℕ) → ((k : ℕ) → k < n → p k ≡ q k) → first p n ≡ first q n
unfolding first
first_same p q zero h = refl
first_same p q (suc n) h = rw (first_same p q n (λ k l. h k (omega arith)), h n (omega arith))

-- the holder by the records is the holder by the states
pub holder_is : {S K D Y : Type 0} (k : Kernel S K D Y) (m n l r : ℕ) → facts_of k ≡ made_of m n l → first (λ t. holding r (task_answer k t)) n ≡ first (λ t. holds_it r ((state_of k).jobs.state t)) n
holder_is k m n l r made =
    first_same (λ t. holding r (task_answer k t)) (λ t. holds_it r ((state_of k).jobs.state t)) n (λ t below.
    let there : ((facts_of k).checked && ltb t (facts_of k).tasks) ≡ true = ap (λ (f : Facts). f.checked && ltb t f.tasks) made ∙ lt-ltb t n below in
    ap (holding r) (cond-true ((facts_of k).checked && ltb t (facts_of k).tasks) (Some (row k.board t)) None there))

-- a text that grows by rows
grown : (start text text' rows row : List ℕ) → text ≡ start ++ rows → text' ≡ text ++ row → text' ≡ start ++ (rows ++ row)
grown start text text' rows row e f = f ∙ ap (λ x. x ++ row) e ∙ append_assoc start rows row

module _ (state : ℕ → TaskState) (f : ℕ → ℕ) (start : List ℕ) where
  none_more : (rows : List ℕ) → rows ≡ [] → start ≡ start ++ rows
  none_more rows e = sym (ap (λ x. start ++ x) e ∙ append-nil start)

  task_rows_0 : task_rows state f 0 ≡ []
  unfolding task_rows
  task_rows_0 = refl

  task_rows_1 : (t : ℕ) → task_rows state f (t + 1) ≡ task_rows state f t ++ task_row t (state t) (f t)
  unfolding task_rows
  task_rows_1 t = rw add-one

  pub tasks_none : start ≡ start ++ task_rows state f 0
  tasks_none = none_more (task_rows state f 0) task_rows_0

  pub tasks_more : (t : ℕ) (p : TaskState) (b : ℕ) (text text' : List ℕ) → p ≡ state t → b ≡ f t → text ≡ start ++ task_rows state f t → text' ≡ text ++ task_row t p b → text' ≡ start ++ task_rows state f (t + 1)
  tasks_more t p b text text' e q is adds =
      grown start text text' (task_rows state f t) (task_row t (state t) (f t)) is (adds ∙ ap (λ (x : TaskState). text ++ task_row t x b) e ∙ ap (λ x. text ++ task_row t (state t) x) q) ∙ ap (λ x. start ++ x) (sym (task_rows_1 t))

  module _ (n : ℕ) where
    resource_rows_0 : resource_rows state f n 0 ≡ []
    unfolding resource_rows
    resource_rows_0 = refl

    resource_rows_1 : (r : ℕ) → resource_rows state f n (r + 1) ≡ resource_rows state f n r ++ resource_row r (first (λ t. holds_it r (state t)) n) (f r)
    unfolding resource_rows
    resource_rows_1 r = rw add-one

    pub resources_none : start ≡ start ++ resource_rows state f n 0
    resources_none = none_more (resource_rows state f n 0) resource_rows_0

    pub resources_more : (r : ℕ) (h : Option ℕ) (b : ℕ) (text text' : List ℕ) → h ≡ first (λ t. holds_it r (state t)) n → b ≡ f r → text ≡ start ++ resource_rows state f n r → text' ≡ text ++ resource_row r h b → text' ≡ start ++ resource_rows state f n (r + 1)
    resources_more r h b text text' e q is adds =
        grown start text text' (resource_rows state f n r) (resource_row r (first (λ t. holds_it r (state t)) n) (f r)) is (adds ∙ ap (λ (x : Option ℕ). text ++ resource_row r x b) e ∙ ap (λ x. text ++ resource_row r (first (λ t. holds_it r (state t)) n) x) q)
        ∙ ap (λ x. start ++ x) (sym (resource_rows_1 r))

-- a record that the kernel answers is the one on its board
pub task_kept : {S K D Y : Type 0} (k : Kernel S K D Y) (m n l t : ℕ) (kept : TaskRecord) → facts_of k ≡ made_of m n l → t < n → task_answer k t ≡ Some kept → kept ≡ row k.board t
task_kept k m n l t kept made below e =
    let there : ((facts_of k).checked && ltb t (facts_of k).tasks) ≡ true = ap (λ (f : Facts). f.checked && ltb t f.tasks) made ∙ lt-ltb t n below in
    let is = cond-true ((facts_of k).checked && ltb t (facts_of k).tasks) (Some (row k.board t)) None there in
    cc

pub hold_kept : {S K D Y : Type 0} (k : Kernel S K D Y) (m n l r : ℕ) (kept : ResourceRecord) → facts_of k ≡ made_of m n l → r < l → resource_answer k r ≡ Some kept → kept ≡ hold k.board r
hold_kept k m n l r kept made below e =
    let there : ((facts_of k).checked && ltb r (facts_of k).resources) ≡ true = ap (λ (f : Facts). f.checked && ltb r f.resources) made ∙ lt-ltb r l below in
    let is = cond-true ((facts_of k).checked && ltb r (facts_of k).resources) (Some (hold k.board r)) None there in
    cc
