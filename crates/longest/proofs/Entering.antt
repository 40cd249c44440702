-- One more arrives and requests
use Rattle.std.proofs.Common.{◌≡◌, ℕ, suc, ◌+◌, ◌-◌, ◌*◌, ◌<◌, ◌≤◌, true, false, eqb, ltb, ◌≢◌, [], ◌∷◌, ◌++◌, Some, None, Ok, Err, sym, refl, ap, ◌∙◌, subst, inl, inr, arith}
use Rattle.std.proofs.lemmas.Bool.{cases_Bool, cases_eq, cases_lt, lt-ltb, lt-leb, eq-eqb, ne_eqb}
use Rattle.keys.specs.declared.kind.KeyKind
use Rattle.orders.specs.declared.refusal.OrderRefusal.{OrderRefusal}
use Rattle.first_come.specs.declared.first.FirstCome.{FirstCome}
use Rattle.first_come.specs.Lines.{has}
use Rattle.gate.specs.declared.gate.Gate.{Gate}
use Rattle.gate.specs.Gates.{GateAdmitted}
use Rattle.gated_line.specs.GatedLine.{line_order}
use Rattle.gated_line.proofs.Sim.{Sim, entry, proper_width, answered, sim_below, sim_gate, sim_holder}
use Rattle.jobs.specs.declared.state.TaskState.TheVariants.{Idle, Ready, Waiting, Holding}
use Rattle.jobs.specs.Jobs.{pending, demand, running, Progress}
use Rattle.runs.specs.declared.call.Call.TheVariants.{Arrive, Request}
use Rattle.runs.specs.Histories.{Event}
use Rattle.runs.specs.Steps.{Kernel, State, Step, refusal, granted, arrive_state, request_state}
use Rattle.longest.specs.Longest.{turn, call_of, accepted, gated_kernel}
use Rattle.longest.proofs.Turns.{turn_low, turn_high, turn_below, turn_one, nth_state, task_state, task_at, nth_idle, nth_holding, nth_waiting, task_pending, task_enter, line, line_long, line_push, line_lacks, line_leader}
use Rattle.longest.proofs.Made.{width_fine}
use Rattle.longest.proofs.Inversions.{arrive_inv, request_inv}
use Rattle.longest.proofs.Looks.{Looks, Stood, few_ahead}

module _ {K D Y : Type 0} (kind : KeyKind.Ghosts K D Y) (m n res : ℕ) (d : D) (low : 1 ≤ m) (high : m ≤ 16) (wide : 2 * m ≤ n) (top : n ≤ 64) (any : 1 ≤ res) (ranged : kind.ranged d ≡ true) where
  abbrev k : Kernel (Gate FirstCome) D
  k = gated_kernel kind m n res

  abbrev c : ℕ
  c = k.key d 0

  module _ (i : ℕ) (less : i < 2 * m) (s : State (Gate FirstCome)) (a : Looks m c i 0 s) where
    abbrev t : ℕ
    t = turn m i

    t_low : t < 2 * m
    t_low = turn_below m i less

    t_idle : s.jobs.state t ≡ Idle
    t_idle = a.state t ∙ (task_at m i 0 i less ∙ nth_idle i 0 i (omega arith) (omega arith))

    arrive_fine : refusal k s (Arrive t d) ≡ None
    arrive_fine = let x = t_low in rw (lt-ltb t n (omega arith), t_idle, ranged)

    abbrev mid : State (Gate FirstCome)
    mid = arrive_state k s t d

    t_ready : mid.jobs.state t ≡ Ready
    t_ready = rw (eq-eqb t t refl)

    else_same : (u : ℕ) → u ≢ t → mid.jobs.state u ≡ s.jobs.state u
    else_same u ne = rw (ne_eqb u t ne)

    t_code : mid.jobs.code t ≡ c
    t_code = rw (eq-eqb t t refl, a.now)

    codes : (u : ℕ) → pending (mid.jobs.state u) ≡ true → mid.jobs.code u ≡ c
    codes u e = elim (cases_eq u t) [
      | inl x ↦ subst (λ y. mid.jobs.code y ≡ c) (sym x) t_code
      | inr x ↦ let old : pending (s.jobs.state u) ≡ true = subst (λ y. pending y ≡ true) (else_same u x) e in rw (ne_eqb u t x) (a.code u old)
    ]

    -- those pending before t by number
    earlier : (u : ℕ) → pending (mid.jobs.state u) ≡ true → u < t → (u < 2 * m) × (turn m u < i)
    earlier u e l = task_pending m i 0 u (omega arith) (subst (λ y. pending y ≡ true) (else_same u (omega arith) ∙ a.state u) e)

    -- fewer than m are ahead of t, so it runs once it has arrived
    t_few : demand mid.jobs t < m
    t_few = elim (cases_lt i m) [
      | inl x ↦
          let f = few_ahead mid.jobs c t m i codes (ap pending t_ready) (λ u e l. let y = earlier u e l in elim (cases_lt u m) [
            | inl z ↦ absurd (let w = turn_low m u z in omega arith)
            | inr z ↦ let w = turn_high m u z in omega arith
          ]) in omega arith
      | inr x ↦
          let v = turn_high m i x in
          let f = few_ahead mid.jobs c t 0 (i - m) codes (ap pending t_ready) (λ u e l. omega arith) in omega arith
    ]

    module _ (going : (u : ℕ) → pending (mid.jobs.state u) ≡ true → demand mid.jobs u < m → Progress mid.jobs m u) where
      t_runs : running mid.jobs m t ≡ true
      t_runs = elim (going t (ap pending t_ready) t_few) [
        | inl x ↦ x
        | inr x ↦ absurd (let z : Ready ≡ Waiting x.0 = sym t_ready ∙ x.2 in grind arith)
      ]

      request_fine : refusal k mid (Request t 0) ≡ None
      request_fine = let x = t_low in let y = a.serial t in
          rw (lt-ltb t n (omega arith), lt-ltb 0 res (omega arith), t_runs, eq-eqb t t refl, lt-leb 4294967295 (s.serial t) (omega arith))

      abbrev in_line : ℕ
      in_line = a.stood.p

      abbrev in_gate : ℕ
      in_gate = a.stood.q

      w : proper_width m ≡ true
      w = width_fine m low high

      t_known : ltb t 64 ≡ true
      t_known = let x = t_low in lt-ltb t 64 (omega arith)

      out_below : has t (line c m 0 in_line) ≡ false
      out_below = let x = a.stood.total in line_lacks c m 0 in_line i less (omega arith) (inl (omega arith))

      out_gate : has t (line c m (0 + in_line) in_gate) ≡ false
      out_gate = let x = a.stood.total in line_lacks c m (0 + in_line) in_gate i less (omega arith) (inl (omega arith))

      unrefused : (r : OrderRefusal) (o : Gate FirstCome) → k.service.admitted mid.order 0 t (mid.jobs.code t) (Err r) o → ⊥
      unrefused r o ad = let z : Err r ≡ Ok tt = ad.told ∙ answered a.stood.sim w t t_known out_below out_gate in grind arith

      module _ (o : Gate FirstCome) (ad : k.service.admitted mid.order 0 t (mid.jobs.code t) (Ok tt) o) where
        ad_c : GateAdmitted line_order s.order 0 t c (Ok tt) o
        ad_c = subst (λ x. GateAdmitted line_order s.order 0 t x (Ok tt) o) t_code ad

        -- t stands at the end of what it joined
        ends : (b n : ℕ) → i ≡ b + n → line c m b n ++ (entry t c ∷ []) ≡ line c m b (suc n)
        ends b n e = ap (λ x. line c m b n ++ (entry (turn m x) c ∷ [])) e ∙ line_push c m b n

        -- t joins the line while that is short, and else the gate
        stood : Stood m c (suc i) 0 o
        stood = let x = a.stood.total in let f = a.stood.full in elim (cases_lt in_line m) [
          | inl l ↦
              let q0 : in_gate ≡ 0 = omega arith in
              record {
                p = suc in_line;
                q = 0;
                total = omega arith;
                few = omega arith;
                full = inl refl;
                sim = subst (λ xs. Sim o m xs []) (ends 0 in_line (omega arith))
                    (sim_below a.stood.sim w t c ad_c t_known out_below out_gate (lt-ltb _ m (let z = line_long c m 0 in_line in omega arith)));
              }
          | inr l ↦
              let g = a.stood.few in let pm : in_line ≡ m = omega arith in
              record {
                p = in_line;
                q = suc in_gate;
                total = omega arith;
                few = g;
                full = inr pm;
                sim = subst (λ ys. Sim o m (line c m 0 in_line) ys) (ends (0 + in_line) in_gate (omega arith))
                    (sim_gate a.stood.sim w t c ad_c t_known out_below out_gate (line_long c m 0 in_line ∙ pm));
              }
        ]

        -- the first to enter holds
        first_in : k.service.holder o 0 ≡ Some (turn m 0)
        first_in = let st = stood in let x = st.total in let f = st.full in
            sim_holder st.sim w {o = k.service.holder o 0} refl ∙ line_leader c m 0 st.p (omega arith)

        t_state : granted (k.service.holder o 0) t 0 ≡ nth_state (suc i) 0 i
        t_state = ap (λ x. granted x t 0) first_in ∙ elim (cases_eq i 0) [
          | inl e ↦ rw (eq-eqb (turn m 0) t (ap (turn m) (sym e))) (sym (subst (λ x. nth_state (suc i) 0 x ≡ Holding 0) (sym e) (nth_holding (suc i) 0 (omega arith))))
          | inr ne ↦ rw (ne_eqb (turn m 0) t (λ z. ne (sym (turn_one m 0 i (omega arith) less z)))) (sym (nth_waiting (suc i) 0 i (omega arith) (omega arith)))
        ]

        abbrev end : State (Gate FirstCome)
        end = request_state k mid t 0 o

        states : (u : ℕ) → end.jobs.state u ≡ task_state m (suc i) 0 u
        states u = elim (cases_eq u t) [
          | inl e ↦ subst (λ x. end.jobs.state x ≡ task_state m (suc i) 0 x) (sym e) (rw (eq-eqb t t refl) (t_state ∙ sym (task_at m (suc i) 0 i less)))
          | inr ne ↦ rw (ne_eqb u t ne) (a.state u ∙ sym (task_enter m i 0 u less ne))
        ]

        looks : Looks m c (suc i) 0 end
        looks = record {
          stood = stood;
          state = states;
          code = λ u e. elim (cases_eq u t) [
            | inl x ↦ subst (λ y. mid.jobs.code y ≡ c) (sym x) t_code
            | inr x ↦ codes u (rw (ne_eqb u t x) (rw (ne_eqb u t x) at e))
          ];
          resource = λ u. elim (cases_Bool (eqb u t)) [ inl e ↦ rw e | inr e ↦ rw e (a.resource u) ];
          serial = λ u. let x = a.serial t in let y = a.serial u in elim (cases_eq u t) [ inl e ↦ rw (eq-eqb u t e) (omega arith) | inr e ↦ rw (ne_eqb u t e) (omega arith) ];
          now = a.now;
          lost = elim (cases_Bool (eqb (m - 1) t)) [ inl e ↦ rw e | inr e ↦ rw e a.lost ];
          used = a.used;
          longest = a.longest;
        }

    -- the next one arrives and requests
    pub enter : (s' z : State (Gate FirstCome)) (e f : Event D) → Step k s e s' → call_of e ≡ Arrive t d → Step k s' f z → call_of f ≡ Request t 0 →
        ((u : ℕ) → pending (s'.jobs.state u) ≡ true → demand s'.jobs u < m → Progress s'.jobs m u) →
        (accepted e ≡ true) × (accepted f ≡ true) × Looks m c (suc i) 0 z
    enter s' z e f one x two y going =
        let p = arrive_inv k s s' e t d one x arrive_fine in
        let go : (u : ℕ) → pending (mid.jobs.state u) ≡ true → demand mid.jobs u < m → Progress mid.jobs m u =
        subst (λ (v : State (Gate FirstCome)). (u : ℕ) → pending (v.jobs.state u) ≡ true → demand v.jobs u < m → Progress v.jobs m u) p.1 going in
        let q = request_inv k mid z f t 0 (subst (λ v. Step k v f z) p.1 two) y (request_fine go) (unrefused go) in
        (ap accepted p.0, ap accepted q.event, subst (Looks m c (suc i) 0) (sym q.state) (looks go q.next q.joins))
