-- What the accepted calls and their answers fix
use Rattle.std.specs.Prelude.{ℕ, suc, max, cond, not, ◌&&◌, List, [], ◌∷◌, Some, None, Option, ◌==◌}
use Rattle.jobs.specs.declared.state.TaskState.{TaskState}
use Rattle.jobs.specs.declared.state.TaskState.TheVariants.{Idle, Ready, Waiting, Holding}
use Rattle.jobs.specs.Jobs.{Jobs, holds_it, taken, busy, blocked}
use Rattle.runs.specs.declared.call.Call.{Call}
use Rattle.runs.specs.declared.refusal.Refusal.{Refusal}

-- a call with its answer; a history is a list of these, the newest first
pub data Event (D : Type 0) : Type 0 where
  refused : Call D → Refusal → Event D
  arrived : ℕ → D → Event D
  requested : ℕ → ℕ → ℕ → Event D
  released : ℕ → Option ℕ → Event D
  finished : ℕ → Event D
  ticked : Event D

-- f with a in the place of what it has at t
abbrev pub put : {A : Type 0} → (ℕ → A) → ℕ → A → ℕ → A
put f t a k = cond (k == t) a (f k)

-- f with p at the task named, if there is one
abbrev pub hand : (ℕ → TaskState) → Option ℕ → TaskState → ℕ → TaskState
hand f None p = f
hand f (Some u) p = put f u p

-- how many ticks were accepted
abbrev pub ticks : {D : Type 0} → List (Event D) → ℕ
ticks [] = 0
ticks (refused c e ∷ h) = ticks h
ticks (arrived t d ∷ h) = ticks h
ticks (requested t r c ∷ h) = ticks h
ticks (released t n ∷ h) = ticks h
ticks (finished t ∷ h) = ticks h
ticks (ticked ∷ h) = suc (ticks h)

-- the jobs after an event; a request is granted exactly when nobody holds the resource, and
-- what a job releases the next one, if any, holds
abbrev pub after : {D : Type 0} → (D → ℕ → ℕ) → ℕ → Jobs → Event D → Jobs
after key now j (refused c e) = j
after key now j (arrived t d) = record { state = put j.state t Ready; code = put j.code t (key d now) }
after key now j (requested t r c) = record { state = put j.state t (cond (taken j r) (Waiting r) (Holding r)); code = j.code }
after key now j (released t n) = record { state = hand (put j.state t Ready) n (j.state t); code = j.code }
after key now j (finished t) = record { state = put j.state t Idle; code = j.code }
after key now j ticked = j

-- the jobs that a history leaves; at the start every task is idle
abbrev pub jobs_after : {D : Type 0} → (D → ℕ → ℕ) → List (Event D) → Jobs
jobs_after key [] = record { state = λ t. Idle; code = λ t. 0 }
jobs_after key (e ∷ h) = after key (ticks h) (jobs_after key h) e

-- the count told at a task's last accepted request
abbrev pub told : {D : Type 0} → List (Event D) → ℕ → ℕ
told [] = λ t. 0
told (refused c e ∷ h) = told h
told (arrived t d ∷ h) = told h
told (requested t r c ∷ h) = put (told h) t c
told (released t n ∷ h) = told h
told (finished t ∷ h) = told h
told (ticked ∷ h) = told h

-- the resource of a task's last accepted request
abbrev pub asked : {D : Type 0} → List (Event D) → ℕ → ℕ
asked [] = λ t. 0
asked (refused c e ∷ h) = asked h
asked (arrived t d ∷ h) = asked h
asked (requested t r c ∷ h) = put (asked h) t r
asked (released t n ∷ h) = asked h
asked (finished t ∷ h) = asked h
asked (ticked ∷ h) = asked h

-- how many requests of a task were accepted
abbrev pub serials : {D : Type 0} → List (Event D) → ℕ → ℕ
serials [] = λ t. 0
serials (refused c e ∷ h) = serials h
serials (arrived t d ∷ h) = serials h
serials (requested t r c ∷ h) = put (serials h) t (suc (serials h t))
serials (released t n ∷ h) = serials h
serials (finished t ∷ h) = serials h
serials (ticked ∷ h) = serials h

-- the accepted ticks since a task's last accepted request that found its job blocked
abbrev pub blocked_ticks : {D : Type 0} → (D → ℕ → ℕ) → ℕ → List (Event D) → ℕ → ℕ
blocked_ticks key m [] = λ t. 0
blocked_ticks key m (refused c e ∷ h) = blocked_ticks key m h
blocked_ticks key m (arrived t d ∷ h) = blocked_ticks key m h
blocked_ticks key m (requested t r c ∷ h) = put (blocked_ticks key m h) t 0
blocked_ticks key m (released t n ∷ h) = blocked_ticks key m h
blocked_ticks key m (finished t ∷ h) = blocked_ticks key m h
blocked_ticks key m (ticked ∷ h) = λ t. cond (blocked (jobs_after key h) m t) (suc (blocked_ticks key m h t)) (blocked_ticks key m h t)

-- one more in the first place
abbrev pub bump : List ℕ → List ℕ
bump [] = []
bump (x ∷ xs) = suc x ∷ xs

-- the lengths of the holds of a resource, the last one first: a hold begins with a grant and
-- counts the accepted ticks that found its holder running
abbrev pub holds : {D : Type 0} → (D → ℕ → ℕ) → ℕ → List (Event D) → ℕ → List ℕ
holds key m [] r = []
holds key m (refused c e ∷ h) r = holds key m h r
holds key m (arrived t d ∷ h) r = holds key m h r
holds key m (requested t q c ∷ h) r = cond (q == r && not (taken (jobs_after key h) q)) (0 ∷ holds key m h r) (holds key m h r)
holds key m (released t None ∷ h) r = holds key m h r
holds key m (released t (Some u) ∷ h) r = cond (holds_it r ((jobs_after key h).state t)) (0 ∷ holds key m h r) (holds key m h r)
holds key m (finished t ∷ h) r = holds key m h r
holds key m (ticked ∷ h) r = cond (busy (jobs_after key h) m r) (bump (holds key m h r)) (holds key m h r)

abbrev pub newest : List ℕ → ℕ
newest [] = 0
newest (x ∷ xs) = x

abbrev pub greatest : List ℕ → ℕ
greatest [] = 0
greatest (x ∷ xs) = max x (greatest xs)

-- the length of the present hold of a resource, 0 where nobody holds it
abbrev pub present : {D : Type 0} → (D → ℕ → ℕ) → ℕ → List (Event D) → ℕ → ℕ
present key m h r = cond (taken (jobs_after key h) r) (newest (holds key m h r)) 0

-- the longest hold of a resource so far, the present one included
abbrev pub longest : {D : Type 0} → (D → ℕ → ℕ) → ℕ → List (Event D) → ℕ → ℕ
longest key m h r = greatest (holds key m h r)
