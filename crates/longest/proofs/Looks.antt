-- How the kernel looks during the longest-wait calls
use Rattle.std.proofs.Common.{◌≡◌, ℕ, ◌+◌, ◌-◌, ◌<◌, ◌≤◌, min, true, ◌&&◌, ◌||◌, eqb, ltb, leb, ◌⊎◌, sym, ◌∙◌, arith}
use Rattle.std.proofs.lemmas.Bool.{and_parts, and_from, lt-ltb, le-leb}
use Rattle.std.proofs.lemmas.Bool.Decides.{nat_tests}
use Rattle.orders.proofs.Counts.{tally_le}
use Rattle.first_come.specs.declared.first.FirstCome.{FirstCome}
use Rattle.gate.specs.declared.gate.Gate.{Gate}
use Rattle.gated_line.proofs.Sim.{Sim}
use Rattle.jobs.specs.Ranks.{ahead}
use Rattle.jobs.specs.Jobs.{Jobs, pending, demand}
use Rattle.runs.specs.Steps.{State}
use Rattle.longest.proofs.Turns.{task_state, line, window}

-- the gate when i have entered and k have released, all with the code c: p are in line, and q in the gate
pub record Stood (m c i k : ℕ) (o : Gate FirstCome) : Type 0 where
  pub p : ℕ
  pub q : ℕ
  pub total : k + (p + q) ≡ i
  pub few : p ≤ m
  pub full : (q ≡ 0) ⊎ (p ≡ m)
  pub sim : Sim o m (line c m k p) (line c m (k + p) q)

-- the kernel then: one tick a release, and each found task m - 1 blocked
pub record Looks (m c i k : ℕ) (s : State (Gate FirstCome)) : Type 0 where
  pub stood : Stood m c i k s.order
  pub state : (t : ℕ) → s.jobs.state t ≡ task_state m i k t
  pub code : (t : ℕ) → pending (s.jobs.state t) ≡ true → s.jobs.code t ≡ c
  pub resource : (t : ℕ) → s.resource t ≡ 0
  pub serial : (t : ℕ) → s.serial t ≤ i
  pub now : s.now ≡ k
  pub lost : s.lost (m - 1) ≡ k
  pub used : s.used 0 ≡ 0
  pub longest : s.longest 0 ≡ min k 1

-- where all codes are equal, at most w jobs are ahead of t if those below t are from a to a + w - 1
pub few_ahead : (jobs : Jobs) (c t a w : ℕ) → ((j : ℕ) → pending (jobs.state j) ≡ true → jobs.code j ≡ c) → pending (jobs.state t) ≡ true →
    ((j : ℕ) → pending (jobs.state j) ≡ true → j < t → (a ≤ j) × (j < a + w)) → demand jobs t ≤ w
unfolding demand
few_ahead jobs c t a w codes mine within =
    let more = tally_le (λ j. pending (jobs.state j) && ahead jobs.code j t) (λ j. leb a j && ltb j (a + w)) 64
    (λ j l e. let x = and_parts _ _ e in let y = codes j x.0 in let z = codes t mine in
    let l : j < t = before j (jobs.code j) (jobs.code t) (y ∙ sym z) x.1 in
    let v = within j x.0 l in and_from _ _ (le-leb a j v.0) (lt-ltb j (a + w) v.1)) in
    let most = window a w 64 in omega arith
  where
    before : (j x y : ℕ) → x ≡ y → (ltb x y || (eqb x y && ltb j t)) ≡ true → j < t
    before j x y e f = grind (arith, nat_tests)
