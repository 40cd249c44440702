-- What the ghost fields of a board say, where it is new and where a record changed
use Rattle.std.proofs.Common.{◌≡◌, ℕ, ◌<◌, ◌≤◌, Bool, false, List, length, get_or, set, sym, ◌∙◌, subst, inl, inr, arith}
use Rattle.std.proofs.lemmas.List.{get_or-set_same, get_or-set_other, set-set, set-get_or}
use Rattle.std.proofs.lemmas.Bool.{cases_eq}
use Rattle.orders.proofs.Counts.{tally_none}
use Rattle.jobs.specs.Jobs.{running, demand, blocked}
use Rattle.board.specs.declared.record.TaskRecord.{TaskRecord}
use Rattle.board.specs.declared.record.ResourceRecord.{ResourceRecord}
use Rattle.board.specs.Boards.{blank, unheld, Known, Counted, Run, Blocked}

-- ---- a new board

module _ (rows : List TaskRecord) (new : (k : ℕ) → get_or rows k blank ≡ blank) where
  pub new_known : Known rows
  new_known t = rw (new t)

  pub new_counted : (list : List ℕ) → ((t : ℕ) → get_or list t 0 ≡ 0) → Counted rows list
  unfolding demand
  new_counted list none t l = none t ∙ sym (tally_none _ 64 (λ k m. rw (new k)))

  pub new_runs : (m : ℕ) (list : List Bool) → ((t : ℕ) → get_or list t false ≡ false) → Run rows m list
  unfolding running
  new_runs m list none t l = none t ∙ rw (new t)

  pub new_blocks : (m : ℕ) (list : List Bool) → ((t : ℕ) → get_or list t false ≡ false) → Blocked rows m list
  unfolding blocked
  new_blocks m list none t l = none t ∙ rw (new t)

  pub new_short : (t : ℕ) → (get_or rows t blank).blocked ≤ 0
  new_short t = rw (new t) (omega arith)

pub new_brief : (holds : List ResourceRecord) → ((r : ℕ) → get_or holds r unheld ≡ unheld) → (r : ℕ) → (get_or holds r unheld).used ≤ 0
new_brief holds new r = rw (new r) (omega arith)

-- ---- an element changed

-- what holds of the new element and of each old one holds of each
pub set_all : {X : Type 0} (P : X → Type 0) (xs : List X) (t : ℕ) (x d : X) → t < length xs → P x → ((k : ℕ) → P (get_or xs k d)) → (k : ℕ) → P (get_or (set xs t x) k d)
set_all P xs t x d l p h k = elim (cases_eq k t) [
  | inl e ↦ subst P (sym (rw e (get_or-set_same xs t x d l))) p
  | inr e ↦ subst P (sym (get_or-set_other xs t k x d e)) (h k)
]

-- an element changed, and then put back
pub set_back : {X : Type 0} (xs : List X) (t : ℕ) (x d : X) → set (set xs t x) t (get_or xs t d) ≡ xs
set_back xs t x d = set-set xs t x (get_or xs t d) ∙ set-get_or xs t d
