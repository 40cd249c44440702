-- What follows from a start that check accepts
use Rattle.std.proofs.Common.{◌≡◌, ℕ, ◌≤◌, true, false, not, ◌&&◌, eqb, ltb, leb, None, arith}
use Rattle.std.proofs.lemmas.Bool.{and_parts, not-false, leb-true, ltb-false, eqb-true}
use Rattle.orders.specs.Orders.{Meaning}
use Rattle.orders.specs.Gating.{idle}
use Rattle.runs.specs.Steps.{unfit}

-- what check finds right of m cores, n tasks and r resources with an order that means v
pub record Fits (m n r : ℕ) (v : Meaning) : Type 0 where
  pub some_core : 1 ≤ m
  pub few_cores : m ≤ 16
  pub some_task : 1 ≤ n
  pub few_tasks : n ≤ 64
  pub some_resource : 1 ≤ r
  pub few_resources : r ≤ 32
  pub wide : v.width ≡ m
  pub roomy : n ≤ v.places
  pub empty : idle v ≡ true

-- check accepts only what is right in all of these
pub fit_parts : (m n r : ℕ) (v : Meaning) → unfit m n r v ≡ None → Fits m n r v
fit_parts m n r v e =
    let a : not (leb 1 m && leb m 16) ≡ false = grind arith in
    let b : not (leb 1 n && leb n 64) ≡ false = grind arith in
    let c : not (leb 1 r && leb r 32) ≡ false = grind arith in
    let w : not (eqb v.width m) ≡ false = grind arith in
    let p : ltb v.places n ≡ false = grind arith in
    let i : not (idle v) ≡ false = grind arith in
    let a' = and_parts _ _ (not-false _ a) in
    let b' = and_parts _ _ (not-false _ b) in
    let c' = and_parts _ _ (not-false _ c) in
    record {
      some_core = leb-true _ _ a'.0;
      few_cores = leb-true _ _ a'.1;
      some_task = leb-true _ _ b'.0;
      few_tasks = leb-true _ _ b'.1;
      some_resource = leb-true _ _ c'.0;
      few_resources = leb-true _ _ c'.1;
      wide = eqb-true _ _ (not-false _ w);
      roomy = ltb-false _ _ p;
      empty = not-false _ i;
    }
