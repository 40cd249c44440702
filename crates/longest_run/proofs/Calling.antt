-- a history grows call by call
use Rattle.std.proofs.Common.{◌≡◌, ℕ, ◌+◌, List, [], ◌∷◌, Result, sym, refl, ap, ◌∙◌, subst, add-one}
use Rattle.keys.specs.declared.kind.KeyKind
use Rattle.first_come.specs.declared.first.FirstCome.{FirstCome}
use Rattle.gate.specs.declared.gate.Gate.{Gate}
use Rattle.gated_line.specs.GatedLine.{gated_order}
use Rattle.runs.specs.declared.call.Call.{Call}
use Rattle.runs.specs.declared.call.Call.TheVariants.{Arrive, Request, Release, Tick}
use Rattle.runs.specs.declared.call.Accepted.{Accepted}
use Rattle.runs.specs.declared.refusal.Refusal.{Refusal}
use Rattle.runs.specs.Steps.{Facts, Step, Leads, kernel_of}
use Rattle.longest.specs.Longest.{calls, turn, entries, rounds}
use Rattle.kernel.specs.declared.kernel.Kernel.{Kernel}
use Rattle.kernel.specs.Views.{state_of, noted}
use Rattle.kernel.specs.Promises.{Took}
use Rattle.longest_run.specs.Reached.{Went}
use Rattle.kernel.proofs.Running.{noted_call}

module _ {K D Y : Type 0} (kind : KeyKind.Ghosts K D Y) (k : Kernel (Gate FirstCome) K D Y) where
  -- no call yet
  pub went_none : Went kind k [] k
  went_none = record { history = []; listed = refl; facts = refl; steps = Leads.none }

  -- one call more
  went_more : (list : List (Call D)) (mid z : Kernel (Gate FirstCome) K D Y) (c : Call D) (a : Result Accepted Refusal) → Went kind k list mid → Took gated_order kind mid c a z → Went kind k (c ∷ list) z
  went_more list mid z c a w t = record {
    history = noted c a ∷ w.history;
    listed = ap (λ y. y ∷ calls w.history) (noted_call c a) ∙ ap (λ ys. c ∷ ys) w.listed;
    facts = t.facts ∙ w.facts;
    steps = Leads.more w.steps (subst (λ (f : Facts). Step (kernel_of gated_order kind f) (state_of mid) (noted c a) (state_of z)) w.facts t.step);
  }

  -- one task more has entered
  pub entry_more : (m i t : ℕ) (d : D) (mid next z : Kernel (Gate FirstCome) K D Y) (a b : Result Accepted Refusal) → t ≡ turn m i → Went kind k (entries m d i) mid →
      Took gated_order kind mid (Arrive t d) a next → Took gated_order kind next (Request t 0) b z → Went kind k (entries m d (i + 1)) z
  entry_more m i t d mid next z a b is w one two =
      let same : Request t 0 ∷ Arrive t d ∷ entries m d i ≡ entries m d (i + 1) = ap (λ x. Request x 0 ∷ Arrive x d ∷ entries m d i) is ∙ ap (entries m d) (sym (add-one i)) in
      subst (λ (l : List (Call D)). Went kind k l z) same (went_more (Arrive t d ∷ entries m d i) next z (Request t 0) b (went_more (entries m d i) mid next (Arrive t d) a w one) two)

  -- one round more is over
  pub round_more : (m j t : ℕ) (d : D) (mid next z : Kernel (Gate FirstCome) K D Y) (a b : Result Accepted Refusal) → t ≡ turn m j → Went kind k (rounds m d j) mid →
      Took gated_order kind mid Tick a next → Took gated_order kind next (Release t) b z → Went kind k (rounds m d (j + 1)) z
  round_more m j t d mid next z a b is w one two =
      let same : Release t ∷ Tick ∷ rounds m d j ≡ rounds m d (j + 1) = ap (λ x. Release x ∷ Tick ∷ rounds m d j) is ∙ ap (rounds m d) (sym (add-one j)) in
      subst (λ (l : List (Call D)). Went kind k l z) same (went_more (Tick ∷ rounds m d j) next z (Release t) b (went_more (rounds m d j) mid next Tick a w one) two)
