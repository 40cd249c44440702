-- What a ticket or a hold names
use Rattle.std.specs.Prelude.{◌≡◌, ℕ, suc, true, ◌⊎◌, List, [], ◌∷◌}
use Rattle.orders.specs.declared.order.Order.{Ghosts}
use Rattle.keys.specs.declared.kind.KeyKind
use Rattle.jobs.specs.declared.state.TaskState.TheVariants.{Holding}
use Rattle.jobs.specs.Jobs.{is_holding}
use Rattle.runs.specs.Histories.{Event, serials, jobs_after}
use Rattle.runs.specs.Steps.{Facts, State, Fresh, Leads, kernel_of}
use Rattle.driver.specs.Tokens.{is_on}

-- the history gave a ticket: it has an accepted request of the task t for r, which was the task's n-th
abbrev pub Gave : {D : Type 0} → List (Event D) → ℕ → ℕ → ℕ → Type 0
Gave [] t n r = ⊥
Gave (Event.refused c e ∷ h) t n r = Gave h t n r
Gave (Event.arrived u d ∷ h) t n r = Gave h t n r
Gave (Event.requested u q c ∷ h) t n r = ((u ≡ t) × (q ≡ r) × (suc (serials h t) ≡ n)) ⊎ Gave h t n r
Gave (Event.released u i ∷ h) t n r = Gave h t n r
Gave (Event.finished u ∷ h) t n r = Gave h t n r
Gave (Event.ticked ∷ h) t n r = Gave h t n r

-- in every history that led from a checked start to the state s and gave the ticket: while that request is on, what the task holds is the ticket's resource
abbrev pub Names : {S K D Y : Type 0} → Ghosts S → KeyKind.Ghosts K D Y → Facts → State S → ℕ → ℕ → ℕ → Type 0
Names {S} {K} {D} {Y} o kind f s t n r = (start : State S) (h : List (Event D)) → Fresh (kernel_of o kind f) start → Leads (kernel_of o kind f) start h s → Gave h t n r →
    is_on f s t n ≡ true → is_holding (s.jobs.state t) ≡ true → (jobs_after (kernel_of o kind f).key h).state t ≡ Holding r
