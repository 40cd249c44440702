-- the numbers of the gate over first-come as it is made
use Rattle.std.proofs.Common.{◌≡◌, ℕ, ◌+◌, ◌-◌, ◌*◌, Bool, true, false, cond, not, ◌&&◌, eqb, ltb, leb, [], get_or, replicate, is_some, refl, ap, ◌∙◌, inl, inr, arith}
use Rattle.std.proofs.lemmas.Bool.{cases_Bool, and_parts, leb-true, le-leb, eq-eqb}
use Rattle.std.proofs.lemmas.Bool.Decides.{nat_tests}
use Rattle.orders.specs.Counting.{every}
use Rattle.orders.specs.Gating.{idle, fit}
use Rattle.first_come.specs.declared.first.FirstCome.{FirstCome}
use Rattle.first_come.specs.Lines.{empty, fresh_line, waiting, leader}
use Rattle.first_come.specs.First.{first_meaning}
use Rattle.gate.specs.declared.gate.Gate.{Gate}
use Rattle.gate.specs.Gates.{gate_meaning, fresh_rows}
use Rattle.gated_line.specs.GatedLine.{line_order, Empty}

-- a width from 1 to 16 is a number of places too
places_of : (m : ℕ) → cond (leb 1 m && (leb m 16 && (leb 1 m && leb m 64))) m 0 ≡ cond (leb 1 m && leb m 16) m 0
places_of m = grind (arith, nat_tests)

-- nobody is in a fresh line
idle_new : (s : FirstCome) → s.lines ≡ replicate 32 fresh_line → idle (first_meaning s) ≡ true
unfolding every
idle_new s e = ap (λ ls. every (λ r. not (is_some (leader (cond (ltb r 32) (waiting (get_or ls r empty)) [])))) 32) e

-- the gate fits exactly for 1 to 16 cores
fit_new : (s : FirstCome) (m : ℕ) → s.width ≡ m → s.places ≡ cond (leb 1 m && leb m 16) m 0 → fit (first_meaning s) ≡ (leb 1 m && leb m 16)
fit_new s m w p =
    elim (cases_Bool (leb 1 m && leb m 16)) [
      | inl y ↦
          let a = and_parts (leb 1 m) (leb m 16) y in
          let q : s.places ≡ m = p ∙ rw y in
          let b : leb (2 * (m - 1) + 1) 65535 ≡ true = le-leb (2 * (m - 1) + 1) 65535 (omega (arith, leb-true m 16 a.1)) in
          rw (w, q, a.0, a.1, eq-eqb m m refl, b)
      | inr n ↦ rw (w, p, n) (shut (leb 1 m) (leb m 16) (eqb 0 m) (leb (2 * (0 - 1) + 1) 65535) n)
    ]
  where
    shut : (a b c d : Bool) → (a && b) ≡ false → (a && (b && (c && d))) ≡ false
    shut a b c d n = grind arith

-- a gate g as it is made before a line l
module _ (g : Gate FirstCome) (l : FirstCome) (m : ℕ) (below : g.lower ≡ l) (w : l.width ≡ m) (p : l.places ≡ cond (leb 1 m && (leb m 16 && (leb 1 m && leb m 64))) m 0) (n : l.lines ≡ replicate 32 fresh_line) where
  fitted : l.places ≡ cond (leb 1 m && leb m 16) m 0
  fitted = p ∙ places_of m

  opened : (idle (first_meaning l) && fit (first_meaning l)) ≡ (leb 1 m && leb m 16)
  opened = rw (idle_new l n) (fit_new l m w fitted)

  pub made_empty : g.fresh ≡ idle (first_meaning l) → g.rows ≡ fresh_rows → Empty m g
  made_empty f r = record {
    width = ap (λ x. x.width) below ∙ w;
    places = ap (λ x. x.places) below ∙ fitted;
    lines = ap (λ x. x.lines) below ∙ n;
    fresh = f ∙ idle_new l n;
    rows = r;
  }

  pub made_places : (gate_meaning line_order g).places ≡ cond (idle (first_meaning l) && fit (first_meaning l)) 64 0 → (gate_meaning line_order g).places ≡ cond (leb 1 m && leb m 16) 64 0
  made_places e = e ∙ ap (λ b. cond b 64 0) opened

  pub made_reach : (gate_meaning line_order g).reach ≡ cond (idle (first_meaning l) && fit (first_meaning l)) (2 * (l.places - 1) + 1) 0 → (gate_meaning line_order g).reach ≡ cond (leb 1 m && leb m 16) (2 * m - 1) 0
  made_reach e =
      e ∙ ap (λ b. cond b (2 * (l.places - 1) + 1) 0) opened ∙ elim (cases_Bool (leb 1 m && leb m 16)) [
        | inl y ↦
            let a = and_parts (leb 1 m) (leb m 16) y in
            let q : l.places ≡ m = fitted ∙ rw y in
            rw y (omega (arith, leb-true 1 m a.0))
        | inr o ↦ rw o
      ]
