-- a board that changed, as the state that the step speaks of
use Rattle.std.proofs.Common.{◌≡◌, ℕ, suc, max, Bool, true, false, cond, eqb, get_or, Some, None, Option, sym, refl, ap, ◌∙◌, inl, inr}
use mathlib.Core.Path.{fun_ext}
use Rattle.std.proofs.lemmas.Bool.{cases_eq, eq-eqb, ne_eqb}
use Rattle.jobs.specs.declared.state.TaskState.{TaskState}
use Rattle.jobs.specs.declared.state.TaskState.TheVariants.{Ready, Holding}
use Rattle.jobs.specs.Jobs.{blocked, busy}
use Rattle.board.specs.declared.board.Board.{Board}
use Rattle.board.specs.declared.record.TaskRecord.{TaskRecord}
use Rattle.board.specs.declared.record.ResourceRecord.{ResourceRecord}
use Rattle.board.specs.Boards.{blank, unheld, jobs_of, begun, asked, turned, ticked, ticked_hold, begun_hold}
use Rattle.board.specs.Calls.{row, hold, Put, PutHold, Ticked}
use Rattle.runs.specs.Histories.{put}
use Rattle.runs.specs.Steps.{Kernel, State, granted, arrive_state, request_state, release_state, tick_state}
use Rattle.kernel.specs.Views.{view, HandedOver}

-- the state s with the task t in the state p
abbrev pub turned_state : {S : Type 0} → State S → ℕ → TaskState → State S
turned_state s t p = record {
  now = s.now;
  jobs = record { state = put s.jobs.state t p; code = s.jobs.code };
  resource = s.resource;
  serial = s.serial;
  told = s.told;
  lost = s.lost;
  used = s.used;
  longest = s.longest;
  order = s.order;
}

-- the state s with no ticks used in the present hold of r
abbrev pub freed_state : {S : Type 0} → State S → ℕ → State S
freed_state s r = record {
  now = s.now;
  jobs = s.jobs;
  resource = s.resource;
  serial = s.serial;
  told = s.told;
  lost = s.lost;
  used = put s.used r 0;
  longest = s.longest;
  order = s.order;
}

-- a field of records of which one became x
module _ {X A : Type 0} (field : X → A) (f g : ℕ → X) (t : ℕ) (x : X) (same : (k : ℕ) → g k ≡ cond (eqb k t) x (f k)) where
  pub edit : (λ (k : ℕ). field (g k)) ≡ put (λ k. field (f k)) t (field x)
  edit = fun_ext (λ k. elim (cases_eq k t) [
    | inl e ↦ rw (same k, eq-eqb k t e)
    | inr e ↦ rw (same k, ne_eqb k t e)
  ])

  pub keep : field x ≡ field (f t) → ◌≡◌ {A = ℕ → A} (λ k. field (g k)) (λ k. field (f k))
  keep eq = fun_ext (λ k. elim (cases_eq k t) [
    | inl e ↦ rw (same k, eq-eqb k t e) (eq ∙ ap (λ n. field (f n)) (sym e))
    | inr e ↦ rw (same k, ne_eqb k t e)
  ])

module _ (b z : Board) (t : ℕ) (x : TaskRecord) (w : Put b t x z) where
  held_same : {A : Type 0} (field : ResourceRecord → A) → ◌≡◌ {A = ℕ → A} (λ r. field (hold z r)) (λ r. field (hold b r))
  held_same {A} field = ap {B = ℕ → A} (λ hs r. field (get_or hs r unheld)) w.holds

  -- only the state of t changed
  pub turned_view : {S : Type 0} (o : S) (s : TaskState) → x ≡ turned (row b t) s → view z o ≡ turned_state (view b o) t s
  turned_view o s e = λ i. record {
    now = w.now i;
    jobs = record {
      state = (edit (λ y. y.state) (row b) (row z) t x w.rows ∙ ap (λ y. put (jobs_of b.table.rows).state t y.state) e) i;
      code = keep (λ y. y.code) (row b) (row z) t x w.rows (ap (λ y. y.code) e) i;
    };
    resource = keep (λ y. y.resource) (row b) (row z) t x w.rows (ap (λ y. y.resource) e) i;
    serial = keep (λ y. y.serial) (row b) (row z) t x w.rows (ap (λ y. y.serial) e) i;
    told = keep (λ y. y.told) (row b) (row z) t x w.rows (ap (λ y. y.told) e) i;
    lost = keep (λ y. y.blocked) (row b) (row z) t x w.rows (ap (λ y. y.blocked) e) i;
    used = held_same (λ y. y.used) i;
    longest = held_same (λ y. y.longest) i;
    order = o;
  }

  -- a job arrived
  pub begun_view : {S D : Type 0} (k : Kernel S D) (o : S) (d : D) (c : ℕ) → x ≡ begun (row b t) c → c ≡ k.key d b.ticks → view z o ≡ arrive_state k (view b o) t d
  begun_view k o d c e q = λ i. record {
    now = w.now i;
    jobs = record {
      state = (edit (λ y. y.state) (row b) (row z) t x w.rows ∙ ap (λ y. put (jobs_of b.table.rows).state t y.state) e) i;
      code = (edit (λ y. y.code) (row b) (row z) t x w.rows ∙ ap (λ n. put (jobs_of b.table.rows).code t n) (ap (λ y. y.code) e ∙ q)) i;
    };
    resource = keep (λ y. y.resource) (row b) (row z) t x w.rows (ap (λ y. y.resource) e) i;
    serial = keep (λ y. y.serial) (row b) (row z) t x w.rows (ap (λ y. y.serial) e) i;
    told = keep (λ y. y.told) (row b) (row z) t x w.rows (ap (λ y. y.told) e) i;
    lost = keep (λ y. y.blocked) (row b) (row z) t x w.rows (ap (λ y. y.blocked) e) i;
    used = held_same (λ y. y.used) i;
    longest = held_same (λ y. y.longest) i;
    order = o;
  }

  -- a request was admitted, which left the order q
  pub asked_view : {S D : Type 0} (k : Kernel S D) (o q : S) (r n : ℕ) (s : TaskState) → x ≡ asked (row b t) s r (suc (row b t).serial) n → s ≡ granted (k.service.holder q r) t r → n ≡ k.service.count q r t → view z q ≡ request_state k (view b o) t r q
  asked_view k o q r n s e p c = λ i. record {
    now = w.now i;
    jobs = record {
      state = (edit (λ y. y.state) (row b) (row z) t x w.rows ∙ ap (put (jobs_of b.table.rows).state t) (ap (λ y. y.state) e ∙ p)) i;
      code = keep (λ y. y.code) (row b) (row z) t x w.rows (ap (λ y. y.code) e) i;
    };
    resource = (edit (λ y. y.resource) (row b) (row z) t x w.rows ∙ ap (λ y. put (view b o).resource t y.resource) e) i;
    serial = (edit (λ y. y.serial) (row b) (row z) t x w.rows ∙ ap (λ y. put (view b o).serial t y.serial) e) i;
    told = (edit (λ y. y.told) (row b) (row z) t x w.rows ∙ ap (put (view b o).told t) (ap (λ y. y.told) e ∙ c)) i;
    lost = (edit (λ y. y.blocked) (row b) (row z) t x w.rows ∙ ap (λ y. put (view b o).lost t y.blocked) e) i;
    used = held_same (λ y. y.used) i;
    longest = held_same (λ y. y.longest) i;
    order = q;
  }

-- a hold of r begins or ends: its used ticks are 0
pub free_view : {S : Type 0} (b z : Board) (r : ℕ) (x : ResourceRecord) (w : PutHold b r x z) (o : S) → x ≡ begun_hold (hold b r) → view z o ≡ freed_state (view b o) r
free_view b z r x w o e = λ i. record {
  now = w.now i;
  jobs = record { state = all (λ y. y.state) i; code = all (λ y. y.code) i };
  resource = all (λ y. y.resource) i;
  serial = all (λ y. y.serial) i;
  told = all (λ y. y.told) i;
  lost = all (λ y. y.blocked) i;
  used = (edit (λ y. y.used) (hold b) (hold z) r x w.holds ∙ ap (λ y. put (view b o).used r y.used) e) i;
  longest = keep (λ y. y.longest) (hold b) (hold z) r x w.holds (ap (λ y. y.longest) e) i;
  order = o;
}
  where
    all : {A : Type 0} (field : TaskRecord → A) → ◌≡◌ {A = ℕ → A} (λ k. field (row z k)) (λ k. field (row b k))
    all {A} field = ap {B = ℕ → A} (λ rs k. field (get_or rs k blank)) w.rows

-- a tick was counted
module _ {S D : Type 0} (k : Kernel S D) (b z : Board) (w : Ticked b z) (o : S) (e : k.facts.cores ≡ b.cores) where
  task_same : {A : Type 0} (field : TaskRecord → A) → ((x : TaskRecord) → field (ticked true x) ≡ field x) → (c : Bool) (x : TaskRecord) → field (ticked c x) ≡ field x
  task_same field same true x = same x
  task_same field same false x = refl

  rest : {A : Type 0} (field : TaskRecord → A) → ((x : TaskRecord) → field (ticked true x) ≡ field x) → ◌≡◌ {A = ℕ → A} (λ t. field (row z t)) (λ t. field (row b t))
  rest field same = fun_ext (λ t. ap field (w.rows t) ∙ task_same field same (blocked (jobs_of b.table.rows) b.cores t) (row b t))

  lost_by : (c : Bool) (x : TaskRecord) → (ticked c x).blocked ≡ cond c (suc x.blocked) x.blocked
  lost_by true x = refl
  lost_by false x = refl

  used_by : (c : Bool) (x : ResourceRecord) → (ticked_hold c x).used ≡ cond c (suc x.used) x.used
  used_by true x = refl
  used_by false x = refl

  longest_by : (c : Bool) (x : ResourceRecord) → (ticked_hold c x).longest ≡ cond c (max x.longest (suc x.used)) x.longest
  longest_by true x = refl
  longest_by false x = refl

  pub ticked_view : view z o ≡ tick_state k (view b o)
  ticked_view = λ i. record {
    now = w.now i;
    jobs = w.jobs i;
    resource = rest (λ y. y.resource) (λ x. refl) i;
    serial = rest (λ y. y.serial) (λ x. refl) i;
    told = rest (λ y. y.told) (λ x. refl) i;
    lost = fun_ext (λ t. ap (λ y. y.blocked) (w.rows t) ∙ lost_by (blocked (jobs_of b.table.rows) b.cores t) (row b t) ∙ ap (λ m. cond (blocked (jobs_of b.table.rows) m t) (suc (row b t).blocked) (row b t).blocked) (sym e)) i;
    used = fun_ext (λ r. ap (λ y. y.used) (w.holds r) ∙ used_by (busy (jobs_of b.table.rows) b.cores r) (hold b r) ∙ ap (λ m. cond (busy (jobs_of b.table.rows) m r) (suc (hold b r).used) (hold b r).used) (sym e)) i;
    longest = fun_ext (λ r. ap (λ y. y.longest) (w.holds r) ∙ longest_by (busy (jobs_of b.table.rows) b.cores r) (hold b r) ∙ ap (λ m. cond (busy (jobs_of b.table.rows) m r) (max (hold b r).longest (suc (hold b r).used)) (hold b r).longest) (sym e)) i;
    order = o;
  }

-- t laid r down, which left the order q, and the next holder, if any, took it up
pub released_view : {S : Type 0} (b one z : Board) (t r : ℕ) (n : Option ℕ) (o q : S) → Put b t (turned (row b t) Ready) one → HandedOver one n r z → view z q ≡ release_state (view b o) t r n q
released_view b one z t r None o q w h = free_view one z r _ h q refl ∙ ap (λ s. freed_state s r) (turned_view b one t _ w q Ready refl)
released_view b one z t r (Some u) o q w h =
    turned_view h.0 z u _ h.2 q (Holding r) refl ∙ ap (λ s. turned_state s u (Holding r)) (free_view one h.0 r _ h.1 q refl ∙ ap (λ s. freed_state s r) (turned_view b one t _ w q Ready refl))
