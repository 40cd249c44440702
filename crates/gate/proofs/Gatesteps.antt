-- what the gate's code leaves
use Rattle.std.proofs.Common.{◌≡◌, ℕ, ◌<◌, true, false, not, ◌&&◌, ltb, List, length, get_or, set, replicate, option_map, IfSome, ◌==◌, Some, None, Ok, Err, Option, Result, sym, refl, ap, ◌∙◌, subst, inl, inr, arith}
use Rattle.std.proofs.lemmas.List.{get_or-replicate, get_or_past, length-replicate, get_or-set_same, get_or-set_other, length-set}
use Rattle.std.proofs.lemmas.Bool.{and_parts, cases_lt, cases_eq, cases_Bool, true≢false, lt-ltb, or_parts}
use Rattle.orders.specs.declared.refusal.OrderRefusal.{OrderRefusal}
use Rattle.orders.specs.declared.refusal.OrderRefusal.TheVariants.{Full}
use Rattle.orders.specs.declared.rank.Rank.{Rank}
use Rattle.orders.specs.declared.order.Order.{Ghosts}
use Rattle.orders.specs.Services.{meaning, Lawful}
use Rattle.gate.specs.declared.row.Row.{Row}
use Rattle.gate.specs.declared.gate.Gate.{Gate}
use Rattle.orders.specs.Orders.{Meaning, size, admit_answer}
use Rattle.orders.specs.Gating.{idle, fit, inside, gated}
use Rattle.gate.specs.Gates.{no_row, fresh_row, fresh_rows, Put, marked, noted, gate_meaning, Entered, Beside, GateAdmitted, Moved, GatePassed, Best}
use Rattle.gate.specs.Gates.Moves.{moved}
use Rattle.orders.specs.Counting.{ahead}
use Rattle.orders.proofs.Ranks.{Leads}
use Rattle.orders.proofs.Counts.{tally_all}
use Rattle.orders.proofs.Answered.{admit_fine, pass_fine}
use Rattle.orders.proofs.Gated.{inside_parts}
use Rattle.orders.proofs.Fresh.{nobody, fresh}
use Rattle.gate.specs.Gatelaws.{fit_parts, marked_bound, none_queued}

-- ---- rows

-- the row of r is written
module _ (rows : List Row) (r : ℕ) (row : Row) (long : r < length rows) where
  other_row : (q : ℕ) → (q ≡ r → ⊥) → get_or (set rows r row) q no_row ≡ get_or rows q no_row
  other_row q ne = get_or-set_other rows r q row no_row ne

  this_row : get_or (set rows r row) r no_row ≡ row
  this_row = get_or-set_same rows r row no_row long

  pub beside_set : Beside rows r (set rows r row)
  beside_set = record { marks = λ q u ne. rw (other_row q ne); codes = λ q u ne. rw (other_row q ne) }

  mark_set : (u : ℕ) → marked (set rows r row) r u ≡ (ltb r 32 && (ltb u 64 && get_or row.waits u false))
  mark_set u = rw this_row

  code_set : (u : ℕ) → noted (set rows r row) r u ≡ get_or row.codes u 0
  code_set u = rw this_row

  pub unmarked_set : (u : ℕ) → get_or row.waits u false ≡ false → marked (set rows r row) r u ≡ false
  unmarked_set u e = mark_set u ∙ rw e (grind arith)

  module _ (t : ℕ) (o : Option ℕ) (p : Put (get_or rows r no_row) t o row) where
    put_marks : (q u : ℕ) → (q ≡ r → u ≡ t → ⊥) → marked (set rows r row) q u ≡ marked rows q u
    put_marks q u ne = elim (cases_eq q r) [
      | inl e ↦ subst (λ x. marked (set rows r row) x u ≡ marked rows x u) (sym e) (mark_set u ∙ ap (λ b. ltb r 32 && (ltb u 64 && b)) (p.marks u (ne e)))
      | inr d ↦ beside_set.marks q u d
    ]

    put_codes : (q u : ℕ) → (q ≡ r → u ≡ t → ⊥) → noted (set rows r row) q u ≡ noted rows q u
    put_codes q u ne = elim (cases_eq q r) [
      | inl e ↦ subst (λ x. noted (set rows r row) x u ≡ noted rows x u) (sym e) (code_set u ∙ p.codes u (ne e))
      | inr d ↦ beside_set.codes q u d
    ]

  pub entered_set : (t c : ℕ) → r < 32 → t < 64 → Put (get_or rows r no_row) t (Some c) row → Entered rows r t c (set rows r row)
  entered_set t c rk tk p = record {
    mark = mark_set t ∙ rw (p.mark, lt-ltb r 32 rk, lt-ltb t 64 tk);
    code = code_set t ∙ p.code;
    marks = put_marks t (Some c) p;
    codes = put_codes t (Some c) p;
  }

  -- whoever waits no more keeps the code
  kept_codes : (t : ℕ) → Put (get_or rows r no_row) t None row → (u : ℕ) → noted (set rows r row) r u ≡ noted rows r u
  kept_codes t p u = code_set u ∙ elim (cases_eq u t) [
    | inl e ↦ subst (λ x. get_or row.codes x 0 ≡ noted rows r x) (sym e) p.code
    | inr ne ↦ p.codes u ne
  ]

-- in a new gate nobody is marked
pub new_mark : (r t : ℕ) → marked fresh_rows r t ≡ false
new_mark r t =
    let blank : get_or (get_or fresh_rows r no_row).waits t false ≡ false = elim (cases_lt r 32) [
      | inl b ↦ ap (λ x. get_or x.waits t false) (get_or-replicate 32 r fresh_row no_row b) ∙ fresh 64 false false refl t
      | inr b ↦ ap (λ x. get_or x.waits t false) (get_or_past (replicate 32 fresh_row) r no_row (simp length-replicate b))
    ] in
    rw blank (grind arith)

-- ---- admit

module _ {L : Type 0} (o : Ghosts L) (laws : Lawful o) (s : Gate L) where
  abbrev low : Meaning
  low = meaning o s.lower

  -- a gate as it was but for what is below and in the rows
  abbrev pub after : L → List Row → Gate L
  after l rows = record { lower = l; fresh = s.fresh; rows = rows }

  pub closed_admit : (r t c : ℕ) → r < 32 → t < 64 → (s.fresh && fit low) ≡ false → GateAdmitted o s r t c (Err Full) s
  closed_admit r t c rk tk shut' = record {
    told = rw (shut', lt-ltb r 32 rk, lt-ltb t 64 tk, none_queued low.width r);
    refused = λ e x. refl;
    same = refl;
    below = λ x. (let z : ◌≡◌ {A = ℕ} 0 1 = cc in absurd (omega arith));
    gate = λ x. (let z : ◌≡◌ {A = ℕ} 0 1 = cc in absurd (omega arith));
  }

  -- the gate has a place for whoever is not queued
  pub open_answer : (r t : ℕ) → r < 32 → t < 64 → (s.fresh && fit low) ≡ true → (gate_meaning o s).queued r t ≡ false → admit_answer (gate_meaning o s) r t ≡ Ok tt
  open_answer r t rk tk y new =
      let v = gated low (marked s.rows) (noted s.rows) in
      let n : v.queued r t ≡ false = rw y at new in
      rw y (admit_fine v r t (record { r_known = rk; t_known = tk; new = n; room = λ e. true≢false (sym (tally_all (v.queued r) 64 e t tk) ∙ n) }))

  pub below_admit : (r t c : ℕ) (a : Result (Unit {0}) OrderRefusal) (z : L) (next : List Row) → r < 32 → t < 64 → (s.fresh && fit low) ≡ true → (gate_meaning o s).queued r t ≡ false → (size low r ≡ low.width → ⊥) → o.admitted s.lower r t c a z → Beside s.rows r next → ((u : ℕ) → marked next r u ≡ false) → GateAdmitted o s r t c a (after z next)
  below_admit r t c a z next rk tk y new free h beside clear =
      let ok = fit_parts low (laws.rules s.lower) (and_parts s.fresh (fit low) y).1 in
      let out = (or_parts (low.queued r t) (inside low (marked s.rows) r t) (rw y at new)).0 in
      let fine : a ≡ Ok tt = (laws.admitting s.lower r t c a z h).told ∙ admit_fine low r t (record { r_known = rk; t_known = tk; new = out; room = λ e. free (e ∙ ok.exact) }) in
      record {
        told = fine ∙ sym (open_answer r t rk tk y new);
        refused = λ e x. (let k : ◌≡◌ {A = ℕ} 0 1 = cc in absurd (omega arith));
        same = refl;
        below = λ x n. (h, beside, clear);
        gate = λ x n. absurd (free n);
      }

  pub gate_admit : (r t c : ℕ) (next : List Row) → r < 32 → t < 64 → (s.fresh && fit low) ≡ true → (gate_meaning o s).queued r t ≡ false → size low r ≡ low.width → Entered s.rows r t c next → GateAdmitted o s r t c (Ok tt) (after s.lower next)
  gate_admit r t c next rk tk y new full e = record {
    told = sym (open_answer r t rk tk y new);
    refused = λ e x. (let k : ◌≡◌ {A = ℕ} 0 1 = cc in absurd (omega arith));
    same = refl;
    below = λ x n. absurd (omega arith);
    gate = λ x n. (refl, e);
  }

  -- ---- pass

  -- a gate with a holder is open
  open_held : (r h : ℕ) → (gate_meaning o s).holder r ≡ Some h → ((s.fresh && fit low) ≡ true) × (low.holder r ≡ Some h)
  open_held r h e =
      elim (cases_Bool (s.fresh && fit low)) [
        | inl y ↦ (y, rw y at e)
        | inr n ↦ let x : None ≡ Some h = rw n at e in let z : ◌≡◌ {A = ℕ} 0 1 = cc in absurd (omega arith)
      ]

  pub held_known : (r h : ℕ) → (gate_meaning o s).holder r ≡ Some h → h < 64
  held_known r h e = let m = open_held r h e in ((laws.rules s.lower).within r h ((laws.rules s.lower).held r h m.1)).1

  module _ (r h : ℕ) (rk : r < 32) (held : (gate_meaning o s).holder r ≡ Some h) (b : Result (Option ℕ) OrderRefusal) (mid : L) (p : o.passed s.lower r b mid) where
    pub moved_pass : (t k : ℕ) (one two : Row) (a : Result (Unit {0}) OrderRefusal) (z : L) (n : Option ℕ) → r < length s.rows → Best low s.rows r 64 (Some t) → k ≡ noted s.rows r t
        → Put (get_or s.rows r no_row) h None one → Put (get_or (set s.rows r one) r no_row) t None two
        → o.admitted mid r t k a z → n ≡ (gate_meaning o (after z (set (set s.rows r one) r two))).holder r
        → GatePassed o s r (Ok n) (after z (set (set s.rows r one) r two))
    moved_pass t k one two a z n long best code p1 p2 joins e =
        let rows = s.rows in
        let mid-rows = set rows r one in
        let next = set mid-rows r two in
        let long2 : r < length mid-rows = simp length-set long in
        let b1 = beside_set rows r one long in
        let b2 = beside_set mid-rows r two long2 in
        let taken : get_or two.waits t false ≡ false = p2.mark in
        let gone : get_or two.waits h false ≡ false = elim (cases_eq h t) [
          | inl d ↦ subst (λ x. get_or two.waits x false ≡ false) (sym d) taken
          | inr ne ↦ p2.marks h ne ∙ ap (λ x. get_or x.waits h false) (this_row rows r one long) ∙ p1.mark
        ] in
        let who = (open_held r h held).1 in
        let same : (u : ℕ) → low.holder r ≡ Some u → h ≡ u = λ u x. (let y : Some h ≡ Some u = sym who ∙ x in cc) in
        let other : (u : ℕ) → (low.holder r ≡ Some u → ⊥) → u ≡ h → ⊥ = λ u x d. x (who ∙ ap Some (sym d)) in
        let mv : Moved o s mid r t (after z next) = record {
          waits = best.1;
          best = λ u i. best.2 u (marked_bound rows r u (inside_parts low (marked rows) r u i).mark).1 i;
          answer = a;
          joins = subst (λ x. o.admitted mid r t x a z) code joins;
          left = λ u x. unmarked_set mid-rows r two long2 u (subst (λ y. get_or two.waits y false ≡ false) (same u x) gone);
          taken = unmarked_set mid-rows r two long2 t taken;
          marks = λ u x ne. put_marks mid-rows r two long2 t None p2 r u (λ _ d. ne d) ∙ put_marks rows r one long h None p1 r u (λ _ d. other u x d);
          codes = λ u. kept_codes mid-rows r two long2 t p2 u ∙ kept_codes rows r one long h p1 u;
        } in
        record {
          told = ap Ok e ∙ sym (pass_fine (gate_meaning o s) r h ((gate_meaning o (after z next)).holder r) rk held);
          refused = λ x y. (let q : ◌≡◌ {A = ℕ} 0 1 = cc in absurd (omega arith));
          same = refl;
          left = λ k x. (mid, b, p, moved mv, record { marks = λ q u ne. b2.marks q u ne ∙ b1.marks q u ne; codes = λ q u ne. b2.codes q u ne ∙ b1.codes q u ne });
        }

-- the best rank of the row, where the order below is full
pub best_from : (v : Meaning) (rows : List Row) (r n : ℕ) (o : Option Rank) → (size v r == v.width) ≡ true → Leads (λ u. marked rows r u && not (v.queued r u)) (noted rows r) n o
    → Best v rows r n (option_map (λ k. k.task) o) × IfSome o (λ k. k.code ≡ noted rows r k.task)
best_from v rows r n None e h = (λ u l. rw e (h u l), tt)
best_from v rows r n (Some b) e h = ((h.0, rw e h.1, λ u l i. subst (λ c. ahead (noted rows r u) u c b.task ≡ false) h.2 (h.3 u l (rw e at i))), h.2)

-- a new gate has nobody
pub new_empty : {L : Type 0} (o : Ghosts L) (laws : Lawful o) (s : Gate L) → s.fresh ≡ idle (meaning o s.lower) → s.rows ≡ fresh_rows → (r t : ℕ) → (gate_meaning o s).queued r t ≡ false
new_empty o laws s e f r t =
    let v = meaning o s.lower in
    elim (cases_Bool (s.fresh && fit v)) [
      | inr n ↦ rw n
      | inl y ↦
          let all : idle v ≡ true = sym e ∙ (and_parts s.fresh (fit v) y).0 in
          let out = nobody v (laws.rules s.lower) all r t in
          let bare : marked s.rows r t ≡ false = ap (λ x. marked x r t) f ∙ new_mark r t in
          rw (y, out, bare)
    ]
