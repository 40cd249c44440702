-- A kernel with one core, two tasks and one resource: task 0, due at 90, holds; task 1 arrives, due sooner
use Rattle.std.proofs.Common.{◌≡◌, ℕ, ◌<◌, ◌≤◌, true, false, ltb, [], ◌∷◌, Some, None, Ok, Err, Option, Result, refl, ap, ◌∙◌, subst, zero-add, arith}
use Rattle.std.proofs.lemmas.Bool.{lt-ltb, le-leb}
use Rattle.orders.specs.declared.refusal.OrderRefusal.{OrderRefusal}
use Rattle.orders.specs.Counting.{tally}
use Rattle.orders.specs.Services.{meaning}
use Rattle.keys.specs.declared.kind.KeyKind
use Rattle.keys.specs.declared.deadline.Deadline.{Deadline}
use Rattle.keys.specs.Deadlines.{deadline_ranged, due, sooner, due_code}
use Rattle.first_come.specs.declared.first.FirstCome.{FirstCome}
use Rattle.gate.specs.declared.gate.Gate.{Gate}
use Rattle.gated_line.specs.GatedLine.{gated_order, Empty}
use Rattle.gated_line.proofs.Sim.{Sim, entry, answered, is_open, sim_below, sim_holder}
use Rattle.jobs.specs.declared.state.TaskState.TheVariants.{Idle, Ready, Holding}
use Rattle.jobs.specs.Ranks.{best}
use Rattle.jobs.specs.Jobs.{Jobs, lead, running}
use Rattle.runs.specs.declared.call.Call.{Call}
use Rattle.runs.specs.declared.call.Accepted.{Accepted}
use Rattle.runs.specs.declared.call.Call.TheVariants.{Arrive, Request, Release}
use Rattle.runs.specs.declared.refusal.Refusal.{Refusal}
use Rattle.runs.specs.declared.refusal.Refusal.TheVariants.{DoesNotRun}
use Rattle.runs.specs.Histories.{put}
use Rattle.runs.specs.Steps.{Kernel, State, Step, refusal, unfit, kernel_of, at_start, arrive_state, request_state}
use Rattle.longest.proofs.Made.{made_sim, made_fresh}
use Rattle.kernel.specs.declared.kernel.Kernel.{Kernel as Made}
use Rattle.kernel.specs.Views.{facts_of, state_of, made_of, noted, done, counted, handed}
use Rattle.kernel.specs.Promises.{Took}
use Rattle.cases.proofs.Answers.{arrives, requests, release_refused}

-- the deadline kind of key
abbrev deadline_kind : KeyKind.Ghosts Deadline ℕ ℕ
deadline_kind = record { ranged = deadline_ranged; key = due; ahead = sooner; code = due_code }

-- the kernel of the case
abbrev k : Kernel (Gate FirstCome) ℕ
k = kernel_of gated_order deadline_kind (made_of 1 2 1)

-- task 0 holds, due at 90, and task 1 is ready, due at d
abbrev both : ℕ → Jobs
both d = record { state = put (put (put (λ t. Idle) 0 Ready) 0 (Holding 0)) 1 Ready; code = put (put (λ t. 0) 0 90) 1 d }

-- task 1 has the only core
does_not_run : (d : ℕ) → ltb d 90 ≡ true → running (both d) 1 0 ≡ false
unfolding running lead best tally
does_not_run d e = rw e

module _ (g : Gate FirstCome) (new : Empty 1 g) where
  -- check accepts the facts
  pub fits : unfit 1 2 1 (meaning gated_order g) ≡ None
  fits = (made_fresh 1 g (omega arith) (omega arith) new deadline_kind 2 1 (omega arith) (omega arith) (omega arith) (omega arith)).fit

  -- task 0 has arrived
  abbrev first : State (Gate FirstCome)
  first = arrive_state k (at_start g) 0 90

  -- it runs, so it can request
  first_fine : refusal k first (Request 0 0) ≡ None
  unfolding running lead best tally
  first_fine = refl

  -- nobody is in line or in the gate
  empty : Sim g 1 [] []
  empty = made_sim 1 g (omega arith) (omega arith) new

  -- the order admits task 0
  admits : (w : OrderRefusal) (o : Gate FirstCome) → gated_order.admitted g 0 0 90 (Err w) o → ⊥
  admits w o ad = let z : Err w ≡ Ok tt = ad.told ∙ answered empty refl 0 refl refl refl in grind arith

  module _ (o : Gate FirstCome) (ad : gated_order.admitted g 0 0 90 (Ok tt) o) where
    -- task 0 is alone in line
    joined : Sim o 1 (entry 0 90 ∷ []) []
    joined = sim_below empty refl 0 90 ad refl refl refl refl

    -- it is told 0
    counts : gated_order.count o 0 0 ≡ 0
    counts = rw (is_open joined refl, joined.below.line)

    -- it holds
    holds : gated_order.holder o 0 ≡ Some 0
    holds = sim_holder joined refl {o = gated_order.holder o 0} refl

    module _ (d : ℕ) (some : 1 ≤ d) (less : d < 90) where
      -- task 1 can arrive
      second_fine : refusal k (request_state k first 0 0 o) (Arrive 1 d) ≡ None
      second_fine = rw (le-leb 1 d some, le-leb d 4294967295 (omega arith))

      -- then task 0 cannot release
      stopped : refusal k (arrive_state k (request_state k first 0 0 o) 1 d) (Release 0) ≡ Some DoesNotRun
      stopped = rw (holds, zero-add d, does_not_run d (lt-ltb d 90 less))

-- what the four calls answer
pub record Outcome (a : Result (Unit {0}) Refusal) (b : Result ℕ Refusal) (c : Result (Unit {0}) Refusal) (e : Result (Option ℕ) Refusal) : Type 0 where
  pub first_arrival : a ≡ Ok tt
  pub told : b ≡ Ok 0
  pub second_arrival : c ≡ Ok tt
  pub release : e ≡ Err DoesNotRun

module _ (g : Gate FirstCome) (new : Empty 1 g) (d : ℕ) (some : 1 ≤ d) (less : d < 90) (a : Result (Unit {0}) Refusal) (b : Result ℕ Refusal) (c : Result (Unit {0}) Refusal) (e : Result (Option ℕ) Refusal) where
  -- from the four steps
  stepped : (s1 s2 s3 s4 : State (Gate FirstCome)) →
      Step k (at_start g) (noted (Arrive 0 90) (done a)) s1 → Step k s1 (noted (Request 0 0) (counted b)) s2 →
      Step k s2 (noted (Arrive 1 d) (done c)) s3 → Step k s3 (noted (Release 0) (handed e)) s4 → Outcome a b c e
  stepped s1 s2 s3 s4 one two three four =
      let p = arrives k (at_start g) s1 0 90 a one refl in
      let q = requests k (first g new) s2 0 0 b (subst (λ s. Step k s (noted (Request 0 0) (counted b)) s2) p.1 two) (first_fine g new) (admits g new) in
      let mid = request_state k (first g new) 0 0 q.next in
      let r = arrives k mid s3 1 d c (subst (λ s. Step k s (noted (Arrive 1 d) (done c)) s3) q.state three) (second_fine g new q.next q.joins d some less) in
      let last = subst (λ s. Step k s (noted (Release 0) (handed e)) s4) r.1 four in
      record {
        first_arrival = p.0;
        told = q.answer ∙ ap Ok (counts g new q.next q.joins);
        second_arrival = r.0;
        release = release_refused k (arrive_state k mid 1 d) s4 0 DoesNotRun e last (stopped g new q.next q.joins d some less);
      }

  -- a step of a kernel whose facts are these
  at : (m z : Made (Gate FirstCome) Deadline ℕ ℕ) (call : Call ℕ) (answer : Result Accepted Refusal) → facts_of m ≡ made_of 1 2 1 →
      Took gated_order deadline_kind m call answer z → Step k (state_of m) (noted call answer) (state_of z)
  at m z call answer f t = subst (λ x. Step (kernel_of gated_order deadline_kind x) (state_of m) (noted call answer) (state_of z)) f t.step

  -- from the four calls
  pub outcome : (k0 k1 k2 k3 k4 : Made (Gate FirstCome) Deadline ℕ ℕ) → state_of k0 ≡ at_start g → facts_of k0 ≡ made_of 1 2 1 →
      Took gated_order deadline_kind k0 (Arrive 0 90) (done a) k1 → Took gated_order deadline_kind k1 (Request 0 0) (counted b) k2 →
      Took gated_order deadline_kind k2 (Arrive 1 d) (done c) k3 → Took gated_order deadline_kind k3 (Release 0) (handed e) k4 → Outcome a b c e
  outcome k0 k1 k2 k3 k4 start f0 one two three four =
      let f1 = one.facts ∙ f0 in
      let f2 = two.facts ∙ f1 in
      let f3 = three.facts ∙ f2 in
      stepped (state_of k1) (state_of k2) (state_of k3) (state_of k4)
      (subst (λ s. Step k s (noted (Arrive 0 90) (done a)) (state_of k1)) start (at k0 k1 (Arrive 0 90) (done a) f0 one))
      (at k1 k2 (Request 0 0) (counted b) f1 two) (at k2 k3 (Arrive 1 d) (done c) f2 three) (at k3 k4 (Release 0) (handed e) f3 four)
