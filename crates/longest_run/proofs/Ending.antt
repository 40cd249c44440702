-- what the whole list of calls leaves in the kernel's records
use Rattle.std.proofs.Common.{◌≡◌, ℕ, ◌-◌, ◌*◌, ◌≤◌, true, List, None, sym, ap, ◌∙◌, subst, arith}
use Rattle.keys.specs.declared.kind.KeyKind
use Rattle.first_come.specs.declared.first.FirstCome.{FirstCome}
use Rattle.gate.specs.declared.gate.Gate.{Gate}
use Rattle.gated_line.specs.GatedLine.{gated_order, Empty}
use Rattle.orders.specs.Services.{meaning}
use Rattle.jobs.specs.Jobs.{Jobs}
use Rattle.runs.specs.Histories.{Event}
use Rattle.runs.specs.Steps.{Facts, State, Fresh, Leads, kernel_of, at_start, unfit}
use Rattle.runs.specs.Guarantee.{Guarantee}
use Rattle.longest.specs.Longest.{longest_calls, gated_kernel, LongestWait, FreshGate}
use Rattle.kernel.specs.declared.kernel.Kernel.{Kernel}
use Rattle.kernel.specs.Views.{facts_of, state_of, made_of}
use Rattle.longest_run.specs.Reached.{Went, Reached}
use Rattle.longest_run.proofs.Asking.{OfZero, longest_zero, asked_zero, full}

module _ {K D Y : Type 0} (kind : KeyKind.Ghosts K D Y)
    (stands : (f : Facts) (start s : State (Gate FirstCome)) (h : List (Event D)) → Fresh (kernel_of gated_order kind f) start → Leads (kernel_of gated_order kind f) start h s → Guarantee (kernel_of gated_order kind f) start h s)
    (accepts : FreshGate kind) (waits : LongestWait kind) where
  -- a kernel started over a new gate, after the calls
  pub reached : (m n r : ℕ) (d : D) (g : Gate FirstCome) (k z : Kernel (Gate FirstCome) K D Y) → Empty m g → state_of k ≡ at_start g → (unfit m n r (meaning gated_order g) ≡ None → facts_of k ≡ made_of m n r) →
      Went kind k (longest_calls m d) z → 1 ≤ m → m ≤ 16 → 2 * m ≤ n → n ≤ 64 → 1 ≤ r → r ≤ 32 → kind.ranged d ≡ true → Reached kind m n r d z
  reached m n r d g k z new starts made w low high wide top any few ranged =
      let h = w.history in
      let fresh = accepts m n r g low high (omega arith) top any few new in
      let facts = made fresh.fit in
      let leads : Leads (gated_kernel kind m n r) (at_start g) h (state_of z) =
      subst (λ (s : State (Gate FirstCome)). Leads (gated_kernel kind m n r) s h (state_of z)) starts (subst (λ (f : Facts). Leads (kernel_of gated_order kind f) (state_of k) h (state_of z)) facts w.steps) in
      let out = waits m n r d g (state_of z) h low high wide top any few ranged new leads w.listed in
      let kept = stands (made_of m n r) (at_start g) (state_of z) h fresh leads in
      let holds = ap (λ (j : Jobs). j.state (m - 1)) kept.jobs ∙ out.holds in
      let blocked = ap (λ (f : ℕ → ℕ). f (m - 1)) kept.lost ∙ out.lost in
      let told = ap (λ (f : ℕ → ℕ). f (m - 1)) kept.told ∙ out.told in
      let longest = kept.longest 0 ∙ out.longest in
      let zeroth = ap (λ (f : ℕ → ℕ). f (m - 1)) kept.resource ∙ asked_zero h (subst OfZero (sym w.listed) (longest_zero m d)) (m - 1) in
      record {
        gate = g;
        history = h;
        new = new;
        fresh = fresh;
        facts = w.facts ∙ facts;
        leads = leads;
        listed = w.listed;
        none_refused = out.none_refused;
        holds = holds;
        blocked = blocked;
        told = told;
        longest = longest;
        waited = full z (m - 1) n (2 * m - 1) (w.facts ∙ facts) (omega arith) zeroth blocked told longest;
      }
