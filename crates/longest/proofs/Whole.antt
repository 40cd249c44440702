-- The longest wait, from the start to the end
use Rattle.std.proofs.Common.{◌≡◌, ℕ, zero, suc, ◌-◌, ◌*◌, ◌<◌, ◌≤◌, true, List, [], ◌∷◌, sym, refl, ap, ◌∙◌, subst, inl, inr, arith}
use Rattle.std.proofs.lemmas.Bool.{cases_lt, and_from, both_ways}
use Rattle.keys.specs.declared.kind.KeyKind
use Rattle.first_come.specs.declared.first.FirstCome.{FirstCome}
use Rattle.gate.specs.declared.gate.Gate.{Gate}
use Rattle.gated_line.specs.GatedLine.{Empty}
use Rattle.jobs.specs.declared.state.TaskState.TheVariants.{Holding}
use Rattle.jobs.specs.Jobs.{Jobs, pending, demand, Progress}
use Rattle.runs.specs.Histories.{Event, told as told_in, asked, blocked_ticks, longest as longest_in}
use Rattle.runs.specs.Steps.{Kernel, State, Leads, at_start}
use Rattle.runs.specs.Guarantee.{Guarantee}
use Rattle.longest.specs.Longest.{turn, calls, all_accepted, entries, rounds, longest_calls, gated_kernel, Outcome}
use Rattle.longest.proofs.Turns.{turn_low, nth_state, task_low, task_high, nth_idle, nth_holding}
use Rattle.longest.proofs.Made.{made_sim, made_fresh, fresh_reach}
use Rattle.longest.proofs.Looks.{Looks}
use Rattle.longest.proofs.Entering.{enter}
use Rattle.longest.proofs.Leaving.{leave}

heads : {A : Type 0} (x y : A) (xs ys : List A) → x ∷ xs ≡ y ∷ ys → (x ≡ y) × (xs ≡ ys)
heads x y xs ys e = (cc, cc)

module _ {A : Type 0} where
  abbrev some : List A → ℕ
  some [] = 0
  some (x ∷ xs) = 1

  -- an empty list is not one with a first
  uneven : (xs ys : List A) → some xs ≡ 0 → some ys ≡ 1 → xs ≡ ys → ⊥
  uneven xs ys a b e = let f = ap some e in omega arith

module _ {K D Y : Type 0} (kind : KeyKind.Ghosts K D Y) (m n res : ℕ) (d : D) (low : 1 ≤ m) (high : m ≤ 16) (wide : 2 * m ≤ n) (top : n ≤ 64) (any : 1 ≤ res) (few : res ≤ 32) (ranged : kind.ranged d ≡ true)
    (g : Gate FirstCome) (new : Empty m g)
    (kept : (h : List (Event D)) (s : State (Gate FirstCome)) → Leads (gated_kernel kind m n res) (at_start g) h s → Guarantee (gated_kernel kind m n res) (at_start g) h s) where
  abbrev k : Kernel (Gate FirstCome) D
  k = gated_kernel kind m n res

  abbrev c : ℕ
  c = k.key d 0

  -- a pending job with fewer than m pending jobs ahead gets on, in every state of the run
  going : (h : List (Event D)) (s : State (Gate FirstCome)) → Leads k (at_start g) h s → (u : ℕ) → pending (s.jobs.state u) ≡ true → demand s.jobs u < m → Progress s.jobs m u
  going h s l = let p = kept h s l in
      subst (λ (j : Jobs). (u : ℕ) → pending (j.state u) ≡ true → demand j u < m → Progress j m u) (sym p.jobs) p.progress

  -- nobody has entered
  begins : Looks m c 0 0 (at_start g)
  begins = record {
    stood = record { p = 0; q = 0; total = refl; few = omega arith; full = inl refl; sim = made_sim m g low high new };
    state = λ t. sym (elim (cases_lt t (2 * m)) [ inl x ↦ task_low m 0 0 t x ∙ nth_idle 0 0 (turn m t) (omega arith) (omega arith) | inr x ↦ task_high m 0 0 t x ]);
    code = λ t e. absurd (both_ways _ refl e);
    resource = λ t. refl;
    serial = λ t. omega arith;
    now = refl;
    lost = refl;
    used = refl;
    longest = refl;
  }

  -- i have entered
  entering : (i : ℕ) → i ≤ 2 * m → {h : List (Event D)} {s : State (Gate FirstCome)} → Leads k (at_start g) h s → calls h ≡ entries m d i → (all_accepted h ≡ true) × Looks m c i 0 s
  entering zero l Leads.none q = (refl, begins)
  entering zero l (Leads.more l' step) q = absurd (uneven _ _ refl refl (sym q))
  entering (suc i) l Leads.none q = absurd (uneven _ _ refl refl q)
  entering (suc i) l (Leads.more Leads.none two) q = absurd (uneven _ _ refl refl (heads _ _ _ _ q).1)
  entering (suc i) l (Leads.more {s = s'} {z = z} {e = f} (Leads.more {h = h} {s = s} {e = e} l' one) two) q =
      let x = heads _ _ _ _ q in let y = heads _ _ _ _ x.1 in
      let old = entering i (omega arith) l' y.1 in
      let v = enter kind m n res d low high wide top any ranged i l s old.1 s' z e f one y.0 two x.0 (going (e ∷ h) s' (Leads.more l' one)) in
      (and_from _ _ v.1 (and_from _ _ v.0 old.0), v.2)

  -- j have released
  leaving : (j : ℕ) → j < 2 * m → {h : List (Event D)} {s : State (Gate FirstCome)} → Leads k (at_start g) h s → calls h ≡ rounds m d j → (all_accepted h ≡ true) × Looks m c (2 * m) j s
  leaving zero l run q = entering (2 * m) (omega arith) run q
  leaving (suc j) l Leads.none q = absurd (uneven _ _ refl refl q)
  leaving (suc j) l (Leads.more Leads.none two) q = absurd (uneven _ _ refl refl (heads _ _ _ _ q).1)
  leaving (suc j) l (Leads.more {s = s'} {z = z} {e = f} (Leads.more {h = h} {s = s} {e = e} l' one) two) q =
      let x = heads _ _ _ _ q in let y = heads _ _ _ _ x.1 in
      let old = leaving j (omega arith) l' y.1 in
      let v = leave kind m n res c low high wide top j l s old.1 (going h s l') s' z e f one y.0 two x.0 in
      (and_from _ _ v.1 (and_from _ _ v.0 old.0), v.2)

  -- all have entered and all but one have released
  pub outcome : (h : List (Event D)) (s : State (Gate FirstCome)) → Leads k (at_start g) h s → calls h ≡ longest_calls m d → Outcome k.key m h
  outcome h s l q =
      let x = leaving (2 * m - 1) (omega arith) l q in let a = x.1 in let p = kept h s l in let e = turn_low m (m - 1) (omega arith) in
      let last : turn m (m - 1) ≡ 2 * m - 1 = omega arith in
      let lost : blocked_ticks k.key m h (m - 1) ≡ 2 * m - 1 = ap (λ (f : ℕ → ℕ). f (m - 1)) (sym p.lost) ∙ a.lost in
      let longest : longest_in k.key m h 0 ≡ 1 = sym (p.longest 0) ∙ (a.longest ∙ omega arith) in
      let zeroth : asked h (m - 1) ≡ 0 = ap (λ (f : ℕ → ℕ). f (m - 1)) (sym p.resource) ∙ a.resource (m - 1) in
      let far = fresh_reach kind k.facts (at_start g) (made_fresh m g low high new kind n res (omega arith) top any few) in
      let reached = p.reached (m - 1) in
      let bounded : blocked_ticks k.key m h (m - 1) ≤ told_in h (m - 1) * 1 = subst (λ x. blocked_ticks k.key m h (m - 1) ≤ told_in h (m - 1) * x) longest
      (subst (λ r. blocked_ticks k.key m h (m - 1) ≤ told_in h (m - 1) * longest_in k.key m h r) zeroth (p.bounded (m - 1))) in record {
        none_refused = x.0;
        holds = ap (λ (j : Jobs). j.state (m - 1)) (sym p.jobs) ∙ (a.state (m - 1) ∙ (task_low m (2 * m) (2 * m - 1) (m - 1) (omega arith) ∙
            subst (λ j. nth_state (2 * m) (2 * m - 1) j ≡ Holding 0) (sym last) (nth_holding (2 * m) (2 * m - 1) (omega arith))));
        lost = lost;
        longest = longest;
        told = omega arith;
      }
