-- a line that was taken makes one entry
use Rattle.std.proofs.Common.{◌≡◌, Ok, Err, Result, sym, refl, ap, ◌∙◌}
use Rattle.orders.specs.declared.order.Order.{Ghosts}
use Rattle.keys.specs.declared.kind.KeyKind
use Rattle.runs.specs.declared.call.Call.{Call}
use Rattle.runs.specs.declared.call.Call.TheVariants.{Arrive, Request, Release, Finish, Tick}
use Rattle.runs.specs.declared.call.Accepted.{Accepted}
use Rattle.runs.specs.declared.refusal.Refusal.{Refusal}
use Rattle.runs.specs.Steps.{Leads}
use Rattle.kernel.specs.declared.kernel.Kernel.{Kernel}
use Rattle.kernel.specs.Views.{noted, Plain}
use Rattle.kernel.specs.Promises.{Took}
use Rattle.kernel.proofs.Running.{noted_call}
use Rattle.event_text.specs.declared.fault.TextFault.{TextFault}
use Rattle.event_report.specs.declared.report.Reason.TheVariants.{Text}
use Rattle.event_report.specs.declared.report.Row.{Row}
use Rattle.event_run.specs.Entries.{Entry, IsRowFor}
use Rattle.event_report.specs.Reasons.{refused_row, answered_row}
use Rattle.event_run.specs.Taking.{Taken}

-- an answer says of a line what its event says
answered_is : {D : Type 0} (c : Call D) (a : Result Accepted Refusal) → Plain c a → IsRowFor (Entry.handled (noted c a)) (answered_row a)
answered_is (Arrive t d) (Ok a) plain = (refl, ap (λ (x : Accepted). x.told) plain, refl)
answered_is (Arrive t d) (Err e) plain = (refl, refl, refl)
answered_is (Request t r) (Ok a) plain = (refl, refl, refl)
answered_is (Request t r) (Err e) plain = (refl, refl, refl)
answered_is (Release t) (Ok a) plain = (refl, plain, refl)
answered_is (Release t) (Err e) plain = (refl, refl, refl)
answered_is (Finish t) (Ok a) plain = (refl, ap (λ (x : Accepted). x.told) plain, refl)
answered_is (Finish t) (Err e) plain = (refl, refl, refl)
answered_is Tick (Ok a) plain = (refl, ap (λ (x : Accepted). x.told) plain, refl)
answered_is Tick (Err e) plain = (refl, refl, refl)

module _ {S K D Y : Type 0} (o : Ghosts S) (kind : KeyKind.Ghosts K D Y) (k : Kernel S K D Y) where
  pub taken_call : (z : Kernel S K D Y) (c : Call D) (a : Result Accepted Refusal) (row : Row) (said : Result (Call D) TextFault) → said ≡ Ok c → Took o kind k c a z → Plain c a → row ≡ answered_row a → Taken o kind k said row z
  taken_call z c a row said e took plain is = record {
    entry = Entry.handled (noted c a);
    says = ap Ok (noted_call c a) ∙ sym e;
    rows = rw is (answered_is c a plain);
    facts = took.facts;
    steps = Leads.more Leads.none took.step;
  }

  pub taken_text : (f : TextFault) (row : Row) (said : Result (Call D) TextFault) → said ≡ Err f → row ≡ refused_row (Text f) → Taken o kind k said row k
  taken_text f row said e is = record { entry = Entry.unread f; says = sym e; rows = rw is (refl, refl, refl); facts = refl; steps = Leads.none }
