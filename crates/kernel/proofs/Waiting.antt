-- the latest wait that a kernel tells is that of the history
use Rattle.std.proofs.Common.{◌≡◌, ℕ, ◌*◌, ◌≤◌, ◌&&◌, ltb, List, Some, sym, ap, ◌∙◌, subst}
use Rattle.orders.specs.declared.order.Order.{Ghosts}
use Rattle.orders.proofs.Answered.{asked_some}
use Rattle.keys.specs.declared.kind.KeyKind
use Rattle.board.specs.Calls.{row, hold}
use Rattle.runs.specs.Histories.{Event, told as told_in, asked, blocked_ticks, longest as longest_in}
use Rattle.runs.specs.Steps.{State, kernel_of}
use Rattle.runs.specs.Guarantee.{Guarantee}
use Rattle.kernel.specs.declared.kernel.Kernel.{Kernel}
use Rattle.kernel.specs.declared.wait.Wait.{Wait}
use Rattle.kernel.specs.Views.{facts_of, state_of, wait_of, wait_answer}
use Rattle.kernel.specs.Promises.{Waited}

module _ {S K D Y : Type 0} (o : Ghosts S) (kind : KeyKind.Ghosts K D Y) (k : Kernel S K D Y) (t : ℕ) (start : State S) (h : List (Event D)) (kept : Guarantee (kernel_of o kind (facts_of k)) start h (state_of k)) where
  waited_of : Waited o kind k t (wait_of k.board t) h
  waited_of =
      let key = (kernel_of o kind (facts_of k)).key in
      let m = (facts_of k).cores in
      let r = (row k.board t).resource in
      let blocked = ap (λ f. f t) kept.lost in
      let told = ap (λ f. f t) kept.told in
      let longest = kept.longest r ∙ ap (λ (f : ℕ → ℕ). longest_in key m h (f t)) kept.resource in
      let figure : (row k.board t).told * (hold k.board r).longest ≡ told_in h t * longest_in key m h (asked h t) = ap (λ x. x * (hold k.board r).longest) told ∙ ap (λ x. told_in h t * x) longest in
      record {
        blocked = blocked;
        told = told;
        longest = longest;
        within = subst (λ x. x ≤ (row k.board t).told * (hold k.board r).longest) (sym blocked) (subst (λ x. blocked_ticks key m h t ≤ x) (sym figure) (kept.bounded t));
      }

  pub waited : (w : Wait) → wait_answer k t ≡ Some w → Waited o kind k t w h
  waited w is = subst (λ (x : Wait). Waited o kind k t x h) (sym (asked_some ((facts_of k).checked && ltb t (facts_of k).tasks) (wait_of k.board t) w (sym is)).1) waited_of
