-- a call, or a list of calls, carries the guarantee on
use Rattle.std.proofs.Common.{◌≡◌, List, [], ◌∷◌, ◌++◌, Result, sym, subst}
use Rattle.orders.specs.declared.order.Order.{Ghosts}
use Rattle.keys.specs.declared.kind.KeyKind
use Rattle.runs.specs.declared.call.Call.{Call}
use Rattle.runs.specs.declared.call.Accepted.{Accepted}
use Rattle.runs.specs.declared.refusal.Refusal.{Refusal}
use Rattle.runs.specs.Histories.{Event}
use Rattle.runs.specs.Steps.{Facts, State, Fresh, Leads, kernel_of}
use Rattle.runs.specs.Guarantee.{Guarantee}
use Rattle.kernel.specs.declared.kernel.Kernel.{Kernel}
use Rattle.kernel.specs.Views.{facts_of, state_of, noted}
use Rattle.kernel.specs.Promises.{Took, Holds}

-- the theorem of every run, over one order and one kind of key
abbrev Stands : {S K D Y : Type 0} → Ghosts S → KeyKind.Ghosts K D Y → Type 0
Stands {S} {K} {D} {Y} o kind = (f : Facts) (start s : State S) (h : List (Event D)) → Fresh (kernel_of o kind f) start → Leads (kernel_of o kind f) start h s → Guarantee (kernel_of o kind f) start h s

-- events that lead on from wherever a history led
pub leads_on : {S D : Type 0} (k : _) (start mid z : State S) (h e : List (Event D)) → Leads k start h mid → Leads k mid e z → Leads k start (e ++ h) z
leads_on k start mid z h [] l Leads.none = l
leads_on k start mid z h (x ∷ e) l (Leads.more m step) = Leads.more (leads_on k start mid _ h e l m) step

module _ {S K D Y : Type 0} (o : Ghosts S) (kind : KeyKind.Ghosts K D Y) (stands : Stands o kind) (k : Kernel S K D Y) where
  pub holds_list : (events : List (Event D)) (z : Kernel S K D Y) → facts_of z ≡ facts_of k → Leads (kernel_of o kind (facts_of k)) (state_of k) events (state_of z) → Holds o kind k events z
  holds_list events z same steps =
      let on : (start : State S) (h : List (Event D)) → Leads (kernel_of o kind (facts_of k)) start h (state_of k) → Leads (kernel_of o kind (facts_of z)) start (events ++ h) (state_of z) =
      λ start h l. subst (λ (f : Facts). Leads (kernel_of o kind f) start (events ++ h) (state_of z)) (sym same) (leads_on (kernel_of o kind (facts_of k)) start (state_of k) (state_of z) h events l steps) in
      record {
        leads = λ start h fresh l. on start h l;
        guarantee = λ start h fresh l. stands (facts_of z) start (state_of z) (events ++ h) (subst (λ (f : Facts). Fresh (kernel_of o kind f) start) (sym same) fresh) (on start h l);
      }

  pub holds_call : (c : Call D) (a : Result Accepted Refusal) (z : Kernel S K D Y) → Took o kind k c a z → Holds o kind k (noted c a ∷ []) z
  holds_call c a z t = holds_list (noted c a ∷ []) z t.facts (Leads.more Leads.none t.step)
