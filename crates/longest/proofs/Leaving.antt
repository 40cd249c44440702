-- One tick, and the holder releases
use Rattle.std.proofs.Common.{◌≡◌, ℕ, zero, suc, ◌+◌, ◌-◌, ◌*◌, ◌<◌, ◌≤◌, true, false, eqb, ◌≢◌, ◌⊎◌, [], ◌∷◌, ◌++◌, Some, None, Ok, Err, Option, Result, sym, refl, ap, ◌∙◌, subst, inl, inr, arith}
use Rattle.std.proofs.lemmas.Bool.{cases_eq, and_from, lt-ltb, lt-leb, both_ways, eq-eqb, ne_eqb}
use Rattle.keys.specs.declared.kind.KeyKind
use Rattle.orders.specs.declared.refusal.OrderRefusal.{OrderRefusal}
use Rattle.orders.specs.Services.{meaning}
use Rattle.orders.proofs.Answered.{pass_fine}
use Rattle.first_come.specs.declared.first.FirstCome.{FirstCome}
use Rattle.first_come.specs.Lines.{code_of}
use Rattle.gate.specs.declared.gate.Gate.{Gate}
use Rattle.gated_line.proofs.Sim.{Sim, entry, proper_width, sim_none, sim_moved, sim_holder, without, leads}
use Rattle.jobs.specs.declared.state.TaskState.TheVariants.{Waiting, Holding}
use Rattle.jobs.specs.Jobs.{Jobs, pending, demand, running, blocked, busy, holds_it, Progress}
use Rattle.jobs.proofs.Counting.{tally_some}
use Rattle.runs.specs.declared.call.Call.TheVariants.{Release, Tick}
use Rattle.runs.specs.Histories.{Event}
use Rattle.runs.specs.Steps.{Kernel, State, Step, refusal, release_state, tick_state}
use Rattle.longest.specs.Longest.{turn, call_of, accepted, gated_kernel}
use Rattle.longest.proofs.Turns.{turn_low, turn_high, turn_below, turn_one, task_state, task_at, task_low, nth_holding, nth_waiting, nth_ready, task_holder, task_leave, line, line_long, line_push, line_lacks, line_leads, line_leader, without_lacking}
use Rattle.longest.proofs.Made.{width_fine}
use Rattle.longest.proofs.Inversions.{tick_inv, release_inv}
use Rattle.longest.proofs.Looks.{Looks, Stood, few_ahead}

-- whoever waits does not run
waits_not : (jobs : Jobs) (m t r : ℕ) → jobs.state t ≡ Waiting r → running jobs m t ≡ false
unfolding running
waits_not jobs m t r e = rw e

module _ {K D Y : Type 0} (kind : KeyKind.Ghosts K D Y) (m n res c : ℕ) (low : 1 ≤ m) (high : m ≤ 16) (wide : 2 * m ≤ n) (top : n ≤ 64)
    (j : ℕ) (less : suc j < 2 * m) (s : State (Gate FirstCome)) (a : Looks m c (2 * m) j s)
    (going : (u : ℕ) → pending (s.jobs.state u) ≡ true → demand s.jobs u < m → Progress s.jobs m u) where
  abbrev k : Kernel (Gate FirstCome) D
  k = gated_kernel kind m n res

  abbrev t : ℕ
  t = turn m j

  abbrev v : ℕ
  v = turn m (suc j)

  w : proper_width m ≡ true
  w = width_fine m low high

  t_low : t < 2 * m
  t_low = turn_below m j (omega arith)

  t_holds : s.jobs.state t ≡ Holding 0
  t_holds = a.state t ∙ (task_at m (2 * m) j j (omega arith) ∙ nth_holding (2 * m) j (omega arith))

  v_waits : s.jobs.state v ≡ Waiting 0
  v_waits = a.state v ∙ (task_at m (2 * m) j (suc j) less ∙ nth_waiting (2 * m) j (suc j) (omega arith) less)

  -- task m - 1 waits until the last round
  last_waits : s.jobs.state (m - 1) ≡ Waiting 0
  last_waits = let e = turn_low m (m - 1) (omega arith) in
      a.state (m - 1) ∙ (task_low m (2 * m) j (m - 1) (omega arith) ∙ nth_waiting (2 * m) j (turn m (m - 1)) (omega arith) (omega arith))

  -- only the tasks below it are ahead of it
  last_few : demand s.jobs (m - 1) < m
  last_few = let f = few_ahead s.jobs c (m - 1) 0 (m - 1) a.code (ap pending last_waits) (λ u e l. omega arith) in omega arith

  -- so the holder runs
  t_runs : running s.jobs m t ≡ true
  t_runs = elim (going (m - 1) (ap pending last_waits) last_few) [
    | inl x ↦ absurd (both_ways _ (waits_not s.jobs m (m - 1) 0 last_waits) x)
    | inr x ↦ subst (λ u. running s.jobs m u ≡ true) (task_holder m (2 * m) j x.1 x.0 (sym (a.state x.1) ∙ x.3)) x.4
  ]

  last_blocked : blocked s.jobs m (m - 1) ≡ true
  unfolding blocked
  last_blocked = rw (ap pending last_waits, waits_not s.jobs m (m - 1) 0 last_waits, lt-ltb (demand s.jobs (m - 1)) m last_few)

  in_use : busy s.jobs m 0 ≡ true
  unfolding busy
  in_use = let x = t_low in lt-ltb 0 _ (tally_some _ 64 t (omega arith) (and_from _ _ (ap (holds_it 0) t_holds) t_runs))

  tick_fine : refusal k s Tick ≡ None
  tick_fine = let x = a.now in rw (lt-leb 4294967295 s.now (omega arith))

  abbrev mid : State (Gate FirstCome)
  mid = tick_state k s

  release_fine : refusal k mid (Release t) ≡ None
  release_fine = let x = t_low in rw (lt-ltb t n (omega arith), t_holds, t_runs)

  some_below : 1 ≤ a.stood.p
  some_below = let x = a.stood.total in let f = a.stood.full in omega arith

  t_first : k.service.holder s.order 0 ≡ Some t
  t_first = sim_holder a.stood.sim w {o = k.service.holder s.order 0} refl ∙ line_leader c m j a.stood.p some_below

  unrefused : (r : OrderRefusal) (o : Gate FirstCome) → k.service.passed mid.order 0 (Err r) o → ⊥
  unrefused r o pa = let z = pa.told ∙ pass_fine (meaning k.service s.order) 0 t (k.service.holder o 0) (omega arith) t_first in
      grind arith

  module _ (heir : Option ℕ) (o : Gate FirstCome) (pa : k.service.passed mid.order 0 (Ok heir) o) where
    -- the line moves up by one, and the best-ranked of the gate joins it
    shift : (p q : ℕ) → j + (p + q) ≡ 2 * m → p ≤ m → (q ≡ 0) ⊎ (p ≡ m) → Sim s.order m (line c m j p) (line c m (j + p) q) → Stood m c (2 * m) (suc j) o
    shift zero q x y f sim = absurd (omega arith)
    shift (suc p) zero x y f sim = record { p = p; q = 0; total = omega arith; few = omega arith; full = inl refl; sim = sim_none sim w pa refl }
    shift (suc p) (suc q) x y f sim =
        let pm : suc p ≡ m = omega arith in
        let b = turn m (j + suc p) in
        let ys = line c m (j + suc p) (suc q) in
        let bb : eqb b b ≡ true = eq-eqb b b refl in
        let h = turn_high m (j + suc p) (omega arith) in
        let cb : code_of b ys ≡ c = rw bb in
        let wb : without b ys ≡ line c m (suc (j + suc p)) q = rw bb (without_lacking b _ (line_lacks c m (suc (j + suc p)) q (j + suc p) (omega arith) (omega arith) (inr (omega arith)))) in
        let bl = turn_below m (j + suc p) (omega arith) in
        let moved = sim_moved sim w pa b (rw bb) (line_lacks c m j (suc p) (j + suc p) (omega arith) (omega arith) (inl (omega arith)))
        (line_lacks c m (j + suc p) (suc q) j (omega arith) (omega arith) (inr (omega arith)))
        (subst (λ x. leads (entry b x) ys ≡ true) (sym cb) (line_leads c m b (j + suc p) (suc q) (omega arith) (omega arith)))
        (line_long c m j (suc p) ∙ pm) (lt-ltb b 64 (omega arith)) (lt-ltb _ m (let z = line_long c m (suc j) p in omega arith)) in
        let e1 : line c m (suc j) p ++ (entry b (code_of b ys) ∷ []) ≡ line c m (suc j) (suc p) =
        ap (λ x. line c m (suc j) p ++ (entry b x ∷ [])) cb ∙ (ap (λ x. line c m (suc j) p ++ (entry (turn m x) c ∷ [])) (omega arith) ∙ line_push c m (suc j) p) in
        let e2 : without b ys ≡ line c m (suc j + suc p) q = wb ∙ ap (λ x. line c m x q) (omega arith) in
        record {
          p = suc p;
          q = q;
          total = omega arith;
          few = y;
          full = inr pm;
          sim = subst (λ zs. Sim o m (line c m (suc j) (suc p)) zs) e2 (subst (λ xs. Sim o m xs (without b ys)) e1 moved);
        }

    stood : Stood m c (2 * m) (suc j) o
    stood = let st = a.stood in shift st.p st.q st.total st.few st.full st.sim

    -- the next in turn holds now
    v_next : heir ≡ Some v
    v_next =
        let st = stood in let x = st.total in let f = st.full in
        let z = pa.told ∙ pass_fine (meaning k.service s.order) 0 t (k.service.holder o 0) (omega arith) t_first in
        let g = sim_holder st.sim w {o = k.service.holder o 0} refl ∙ line_leader c m (suc j) st.p (omega arith) in
        same heir (k.service.holder o 0) z ∙ g
      where
        same : (x y : Option ℕ) → ◌≡◌ {A = Result (Option ℕ) OrderRefusal} (Ok x) (Ok y) → x ≡ y
        same x y e = cc

    abbrev end : State (Gate FirstCome)
    end = release_state mid t 0 (Some v) o

    v_apart : v ≢ t
    v_apart e = let x = turn_one m (suc j) j less (omega arith) e in omega arith

    states : (u : ℕ) → end.jobs.state u ≡ task_state m (2 * m) (suc j) u
    states u = elim (cases_eq u v) [
      | inl e ↦ subst (λ x. end.jobs.state x ≡ task_state m (2 * m) (suc j) x) (sym e)
          (rw (eq-eqb v v refl) (sym (task_at m (2 * m) (suc j) (suc j) less ∙ nth_holding (2 * m) (suc j) less)))
      | inr ne ↦ elim (cases_eq u t) [
        | inl e ↦ subst (λ x. end.jobs.state x ≡ task_state m (2 * m) (suc j) x) (sym e)
            (rw (ne_eqb t v (λ x. v_apart (sym x)), eq-eqb t t refl) (sym (task_at m (2 * m) (suc j) j (omega arith) ∙ nth_ready (2 * m) (suc j) j (omega arith))))
        | inr nt ↦ rw (ne_eqb u v ne, ne_eqb u t nt) (a.state u ∙ sym (task_leave m (2 * m) j u nt ne))
      ]
    ]

    looks : Looks m c (2 * m) (suc j) end
    looks = record {
      stood = stood;
      state = states;
      code = λ u e. elim (cases_eq u v) [
        | inl x ↦ a.code u (subst (λ y. pending (s.jobs.state y) ≡ true) (sym x) (ap pending v_waits))
        | inr ne ↦ elim (cases_eq u t) [
          | inl x ↦ a.code u (subst (λ y. pending (s.jobs.state y) ≡ true) (sym x) (ap pending t_holds))
          | inr nt ↦ a.code u (rw (ne_eqb u v ne, ne_eqb u t nt) at e)
        ]
      ];
      resource = a.resource;
      serial = a.serial;
      now = ap suc a.now;
      lost = rw last_blocked (ap suc a.lost);
      used = refl;
      longest = let x = a.longest in let y = a.used in rw in_use (omega arith);
    }

  -- a tick, and the holder releases
  pub leave : (s' z : State (Gate FirstCome)) (e f : Event D) → Step k s e s' → call_of e ≡ Tick → Step k s' f z → call_of f ≡ Release t →
      (accepted e ≡ true) × (accepted f ≡ true) × Looks m c (2 * m) (suc j) z
  leave s' z e f one x two y =
      let p = tick_inv k s s' e one x tick_fine in
      let q = release_inv k mid z f t 0 (subst (λ u. Step k u f z) p.1 two) y release_fine t_holds unrefused in (
        ap accepted p.0,
        ap accepted q.event,
        subst (Looks m c (2 * m) (suc j)) (sym (q.state ∙ ap (λ x. release_state mid t 0 x q.next) (v_next q.heir q.next q.leaves))) (looks q.heir q.next q.leaves),
      )
