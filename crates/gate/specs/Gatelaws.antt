-- the gate, open or closed, is an order of service over any other
use Rattle.std.specs.Prelude.{◌≡◌, ℕ, ◌+◌, ◌*◌, ◌<◌, true, false, ◌&&◌, List, get_or, Some, None, Ok, Err, Option, Result, ◌==◌, ◌≢◌, nat_le, nat_lt, slice_index_or, refl}
use Rattle.std.proofs.Common.{arith, sym, ◌∙◌, ap, subst, inl, inr}
use Rattle.std.proofs.lemmas.Bool.{and_parts, cases_lt, cases_Bool, true≢false, eqb-true, leb-true, ltb-true, or_parts}
use Rattle.orders.specs.declared.refusal.OrderRefusal.{OrderRefusal}
use Rattle.orders.specs.declared.order.Order.{Ghosts}
use Rattle.orders.specs.Services.{meaning, Lawful}
use Rattle.gate.specs.declared.row.Row.{Row}
use Rattle.gate.specs.declared.gate.Gate.{Gate}
use Rattle.orders.specs.Orders.{Meaning, Rules, Admits, Passes, Joined, Left, Fixed, size, admit_answer}
use Rattle.orders.specs.Gating.{fit, inside, gated, shut}
use Rattle.gate.specs.Gates.{no_row, marked, noted, gate_meaning, Beside, GateAdmitted, Moved, Moves, GatePassed}
use Rattle.gate.specs.Gates.Moves.{nobody, moved}
use Rattle.orders.proofs.Counts.{tally_none}
use Rattle.orders.proofs.Answered.{admit_ok, admit_fine, pass_ok, pass_fine}
use Rattle.orders.proofs.Gated.{Fit, Bound, inside_parts, gated_rules, joined_below, joined_gate, left_size, left_nobody, left_moved}

pub fit_parts : (v : Meaning) → Rules v → fit v ≡ true → Fit v
fit_parts v rules h =
    let a = and_parts (nat_le 1 v.width) (nat_le v.width 16 && (v.places == v.width && nat_le (2 * v.reach + 1) 65535)) h in
    let b = and_parts (nat_le v.width 16) (v.places == v.width && nat_le (2 * v.reach + 1) 65535) a.1 in
    let c = and_parts (v.places == v.width) (nat_le (2 * v.reach + 1) 65535) b.1 in
    record { rules = rules; some = leb-true 1 v.width a.0; exact = eqb-true v.places v.width c.0; small = leb-true (2 * v.reach + 1) 65535 c.1 }

fit_same : (v w : Meaning) → Fixed v w → fit w ≡ fit v
fit_same v w f = rw (f.width, f.places, f.reach)

pub marked_bound : (rows : List Row) → Bound (marked rows)
marked_bound rows r t h =
    let a = and_parts (nat_lt r 32) (nat_lt t 64 && slice_index_or (get_or rows r no_row).waits t false) h in
    let b = and_parts (nat_lt t 64) (slice_index_or (get_or rows r no_row).waits t false) a.1 in
    (ltb-true r 32 a.0, ltb-true t 64 b.0)

pub none_queued : (m r : ℕ) → size (shut m) r ≡ 0
none_queued m r = tally_none (λ t. false) 64 (λ k l. refl)

pub shut_rules : (m : ℕ) → Rules (shut m)
shut_rules m = record {
  within = λ r t h. absurd (true≢false (sym h));
  room = λ r. omega (arith, none_queued m r);
  small = omega arith;
  held = λ r t h. (let z : ◌≡◌ {A = ℕ} 0 1 = cc in absurd (omega arith));
  some = λ r t h n. absurd (true≢false (sym h));
  first = λ r t h. refl;
  later = λ r t h c w. absurd (true≢false (sym h));
  cover = λ r t h c. absurd (true≢false (sym h));
  bounded = λ r t h. omega arith;
}

held_some : (o : Option ℕ) → (o ≢ None) → (t : ℕ) × (o ≡ Some t)
held_some None n = absurd (n refl)
held_some (Some t) n = (t, refl)

fixed_itself : (v w : Meaning) → w ≡ v → Fixed v w
fixed_itself v w e = record { width = ap (λ x. x.width) e; places = ap (λ x. x.places) e; reach = ap (λ x. x.reach) e }

module _ {L : Type 0} (o : Ghosts L) (laws : Lawful o) where
  abbrev mean : L → Meaning
  mean = meaning o

  pub gate_rules : (s : Gate L) → Rules (gate_meaning o s)
  gate_rules s =
      let l = s.lower in
      elim (cases_Bool (s.fresh && fit (mean l))) [
        | inl y ↦ rw y (gated_rules (mean l) (fit_parts (mean l) (laws.rules l) (and_parts s.fresh (fit (mean l)) y).1) (marked s.rows) (noted s.rows) (marked_bound s.rows))
        | inr n ↦ rw n (shut_rules (mean l).width)
      ]

  open_after : (s z : Gate L) → z.fresh ≡ s.fresh → Fixed (mean s.lower) (mean z.lower) → (s.fresh && fit (mean s.lower)) ≡ true → (z.fresh && fit (mean z.lower)) ≡ true
  open_after s z e f y = rw (e, fit_same (mean s.lower) (mean z.lower) f) y

  gated_fixed : (s z : Gate L) → Fixed (mean s.lower) (mean z.lower) → Fixed (gated (mean s.lower) (marked s.rows) (noted s.rows)) (gated (mean z.lower) (marked z.rows) (noted z.rows))
  gated_fixed s z f = record { width = f.width; places = refl; reach = ap (λ n. 2 * n + 1) f.reach }

  pub gate_admits : (s : Gate L) (r t c : ℕ) (a : Result (Unit {0}) OrderRefusal) (z : Gate L) → GateAdmitted o s r t c a z → Admits (gate_meaning o s) r t c a (gate_meaning o z)
  gate_admits s r t c (Err e) z h =
      let w : gate_meaning o z ≡ gate_meaning o s = ap (gate_meaning o) (h.refused e refl) in
      record { told = h.told; refused = λ _ _. w; fixed = fixed_itself _ _ w; joined = λ ok. (let x : ◌≡◌ {A = ℕ} 0 1 = cc in absurd (omega arith)) }
  gate_admits s r t c (Ok tt) z h =
      let v = mean s.lower in
      elim (cases_Bool (s.fresh && fit v)) [
        | inr n ↦ absurd ((admit_ok (shut v.width) r t (sym (rw n at h.told))).room (none_queued v.width r))
        | inl y ↦
            let ok = fit_parts v (laws.rules s.lower) (and_parts s.fresh (fit v) y).1 in
            let told : Ok tt ≡ admit_answer (gated v (marked s.rows) (noted s.rows)) r t = rw y at h.told in
            let out = (or_parts (v.queued r t) (inside v (marked s.rows) r t) (admit_ok (gated v (marked s.rows) (noted s.rows)) r t (sym told)).new).0 in
            elim (cases_lt (size v r) v.width) [
              | inl room ↦
                  let b = h.below refl room in
                  let A = laws.admitting s.lower r t c (Ok tt) z.lower b.0 in
                  let f = A.fixed in
                  rw (y, open_after s z h.same f y) (record {
                    told = told;
                    refused = λ e x. (let k : ◌≡◌ {A = ℕ} 0 1 = cc in absurd (omega arith));
                    fixed = gated_fixed s z f;
                    joined = λ _. joined_below v (mean z.lower) (marked s.rows) (marked z.rows) (noted s.rows) (noted z.rows) f.width f.reach r t c room (A.joined refl) b.2 b.1.marks b.1.codes;
                  })
              | inr many ↦
                  let full : size v r ≡ v.width = (let q = ok.rules.room r in let e = ok.exact in omega arith) in
                  let g = h.gate refl full in
                  let f = fixed_itself v (mean z.lower) (ap mean g.0) in
                  rw (y, open_after s z h.same f y) (subst (λ (l : L). Admits (gated v (marked s.rows) (noted s.rows)) r t c (Ok tt) (gated (mean l) (marked z.rows) (noted z.rows))) (sym g.0) (record {
                    told = told;
                    refused = λ e x. (let k : ◌≡◌ {A = ℕ} 0 1 = cc in absurd (omega arith));
                    fixed = record { width = refl; places = refl; reach = refl };
                    joined = λ _. joined_gate v (marked s.rows) (marked z.rows) (noted s.rows) (noted z.rows) r t c ok.some full out g.1.mark g.1.code g.1.marks g.1.codes;
                  }))
            ]
      ]

  -- the pass below went well
  module _ (s : Gate L) (mid : L) (r : ℕ) (b : Result (Option ℕ) OrderRefusal) (known : r < 32) (h : ℕ) (held : o.holder s.lower r ≡ Some h) (p : o.passed s.lower r b mid) (ok : Fit (mean s.lower)) where
    lower_left : Left (mean s.lower) r (mean mid)
    lower_left =
        let P = laws.passing s.lower r b mid p in
        P.left ((mean mid).holder r) (P.told ∙ pass_fine (mean s.lower) r h ((mean mid).holder r) known held)

    lower_joined : (t : ℕ) (z : Gate L) (m : Moved o s mid r t z) → Joined (mean mid) r t (noted s.rows r t) (mean z.lower) × Fixed (mean mid) (mean z.lower)
    lower_joined t z m =
        let v = mean s.lower in
        let P = laws.passing s.lower r b mid p in
        let w = inside_parts v (marked s.rows) r t m.waits in
        let n = left_size v (mean mid) (laws.rules s.lower) r h held lower_left in
        let A = laws.admitting mid r t (noted s.rows r t) m.answer z.lower m.joins in
        let new : (mean mid).queued r t ≡ false = lower_left.rest t (λ e. true≢false (sym (ok.rules.held r t e) ∙ w.out)) ∙ w.out in
        let room : size (mean mid) r ≡ (mean mid).places → ⊥ = λ e. (let x = ok.exact in let y = P.fixed.places in let u = w.full in omega arith) in
        let fine = admit_fine (mean mid) r t (record { r_known = known; t_known = (marked_bound s.rows r t w.mark).1; new = new; room = room }) in
        (A.joined (A.told ∙ fine), A.fixed)

    moves_left : (z : Gate L) → Moves o s mid r z → Beside s.rows r z.rows → Left (gated (mean s.lower) (marked s.rows) (noted s.rows)) r (gated (mean z.lower) (marked z.rows) (noted z.rows)) × Fixed (mean s.lower) (mean z.lower)
    moves_left z (nobody out e none) i =
        let P = laws.passing s.lower r b mid p in
        let f : Fixed (mean s.lower) (mean z.lower) = rw e P.fixed in
        let left : Left (mean s.lower) r (mean z.lower) = rw e lower_left in
        (left_nobody (mean s.lower) (mean z.lower) (marked s.rows) (marked z.rows) (noted s.rows) (noted z.rows) ok f.width f.reach r h held left out i.marks i.codes, f)
    moves_left z (moved {b = t} m) i =
        let P = laws.passing s.lower r b mid p in
        let w = inside_parts (mean s.lower) (marked s.rows) r t m.waits in
        let j = lower_joined t z m in
        let f : Fixed (mean s.lower) (mean z.lower) = record { width = j.1.width ∙ P.fixed.width; places = j.1.places ∙ P.fixed.places; reach = j.1.reach ∙ P.fixed.reach } in
        (left_moved (mean s.lower) (mean mid) (mean z.lower) (marked s.rows) (marked z.rows) (noted s.rows) (noted z.rows) ok (laws.rules z.lower) f.width f.reach r h t held lower_left w m.best (marked_bound s.rows r t w.mark).1 j.0 (m.left h held) m.marks (λ u _ _. m.codes u) i.marks i.codes, f)

  pub gate_passes : (s : Gate L) (r : ℕ) (a : Result (Option ℕ) OrderRefusal) (z : Gate L) → GatePassed o s r a z → Passes (gate_meaning o s) r a (gate_meaning o z)
  gate_passes s r (Err e) z h =
      let w : gate_meaning o z ≡ gate_meaning o s = ap (gate_meaning o) (h.refused e refl) in
      record { told = h.told; refused = λ _ _. w; fixed = fixed_itself _ _ w; left = λ n k. (let x : ◌≡◌ {A = ℕ} 0 1 = cc in absurd (omega arith)) }
  gate_passes s r (Ok n) z h =
      let v = mean s.lower in
      let holds = (gate_meaning o z).holder r in
      elim (cases_Bool (s.fresh && fit v)) [
        | inr closed ↦ absurd ((pass_ok (shut v.width) r holds n (sym (rw closed at h.told))).1 refl)
        | inl y ↦
            let ok = fit_parts v (laws.rules s.lower) (and_parts s.fresh (fit v) y).1 in
            let pk = pass_ok (gated v (marked s.rows) (noted s.rows)) r holds n (sym (rw y at h.told)) in
            let hh = held_some (v.holder r) pk.1 in
            let d = h.left n refl in
            let m = moves_left s d.0 r d.1 pk.0 hh.0 hh.1 d.2 ok z d.3 d.4 in
            record {
              told = h.told;
              refused = λ e x. (let k : ◌≡◌ {A = ℕ} 0 1 = cc in absurd (omega arith));
              fixed = rw (y, open_after s z h.same m.1 y) (gated_fixed s z m.1);
              left = λ k x. rw (y, open_after s z h.same m.1 y) m.0;
            }
      ]
