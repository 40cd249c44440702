-- every request is for resource 0, so the latest wait is told with that resource's longest hold
use Rattle.std.proofs.Common.{◌≡◌, ℕ, zero, suc, ◌-◌, ◌*◌, ◌<◌, Bool, true, false, cond, ◌&&◌, eqb, ltb, List, [], ◌∷◌, Some, None, refl, ap, ◌∙◌, arith}
use Rattle.std.proofs.lemmas.Bool.{and_from, lt-ltb}
use Rattle.board.specs.Calls.{row, hold}
use Rattle.runs.specs.declared.call.Call.{Call}
use Rattle.runs.specs.declared.call.Call.TheVariants.{Arrive, Request, Release, Finish, Tick}
use Rattle.runs.specs.Histories.{Event, asked}
use Rattle.runs.specs.Steps.{Facts}
use Rattle.longest.specs.Longest.{calls, entries, rounds, longest_calls}
use Rattle.kernel.specs.declared.kernel.Kernel.{Kernel}
use Rattle.kernel.specs.Views.{facts_of, made_of, wait_of, wait_answer}
use Rattle.longest_run.specs.Reached.{full_wait}

-- every request of the list is for resource 0
abbrev pub OfZero : {D : Type 0} → List (Call D) → Type 0
OfZero [] = Unit {0}
OfZero (Arrive t d ∷ l) = OfZero l
OfZero (Request t r ∷ l) = (r ≡ 0) × OfZero l
OfZero (Release t ∷ l) = OfZero l
OfZero (Finish t ∷ l) = OfZero l
OfZero (Tick ∷ l) = OfZero l

entries_zero : {D : Type 0} (m : ℕ) (d : D) (i : ℕ) → OfZero (entries m d i)
entries_zero m d zero = tt
entries_zero m d (suc i) = (refl, entries_zero m d i)

rounds_zero : {D : Type 0} (m : ℕ) (d : D) (j : ℕ) → OfZero (rounds m d j)
rounds_zero m d zero = entries_zero m d (2 * m)
rounds_zero m d (suc j) = rounds_zero m d j

pub longest_zero : {D : Type 0} (m : ℕ) (d : D) → OfZero (longest_calls m d)
longest_zero m d = rounds_zero m d (2 * m - 1)

either_zero : (b : Bool) (x y : ℕ) → x ≡ 0 → y ≡ 0 → cond b x y ≡ 0
either_zero true x y p q = p
either_zero false x y p q = q

-- so is whatever was asked for last
pub asked_zero : {D : Type 0} (h : List (Event D)) → OfZero (calls h) → (t : ℕ) → asked h t ≡ 0
asked_zero [] z t = refl
asked_zero (Event.refused (Arrive u d) e ∷ h) z t = asked_zero h z t
asked_zero (Event.refused (Request u r) e ∷ h) z t = asked_zero h z.1 t
asked_zero (Event.refused (Release u) e ∷ h) z t = asked_zero h z t
asked_zero (Event.refused (Finish u) e ∷ h) z t = asked_zero h z t
asked_zero (Event.refused Tick e ∷ h) z t = asked_zero h z t
asked_zero (Event.arrived u d ∷ h) z t = asked_zero h z t
asked_zero (Event.requested u r c ∷ h) z t = either_zero (eqb t u) r (asked h t) z.0 (asked_zero h z.1 t)
asked_zero (Event.released u n ∷ h) z t = asked_zero h z t
asked_zero (Event.finished u ∷ h) z t = asked_zero h z t
asked_zero (Event.ticked ∷ h) z t = asked_zero h z t

-- the answer to the question for the latest wait, by the records
pub full : {S K D Y : Type 0} (k : Kernel S K D Y) (t n w : ℕ) {m r : ℕ} → facts_of k ≡ made_of m n r → t < n → (row k.board t).resource ≡ 0 → (row k.board t).blocked ≡ w → (row k.board t).told ≡ w → (hold k.board 0).longest ≡ 1 →
    wait_answer k t ≡ Some (full_wait w)
full k t n w facts less zeroth blocked told short =
    let longest : (hold k.board (row k.board t).resource).longest ≡ 1 = ap (λ q. (hold k.board q).longest) zeroth ∙ short in
    let figure : (row k.board t).told * (hold k.board (row k.board t).resource).longest ≡ w =
    ap (λ x. x * (hold k.board (row k.board t).resource).longest) told ∙ (ap (λ x. w * x) longest ∙ omega arith) in
    let same : wait_of k.board t ≡ full_wait w = cc in
    let tasks : (facts_of k).tasks ≡ n = ap (λ (f : Facts). f.tasks) facts in
    let known : ((facts_of k).checked && ltb t (facts_of k).tasks) ≡ true = and_from _ _ (ap (λ (f : Facts). f.checked) facts) (lt-ltb t (facts_of k).tasks (omega arith)) in
    ap (λ b. cond b (Some (wait_of k.board t)) None) known ∙ ap Some same
