-- an open is a request, and its ticket is on
use Rattle.std.proofs.Common.{◌≡◌, ℕ, suc, true, cond, ◌&&◌, ltb, List, [], ◌∷◌, Some, None, Ok, Result, sym, refl, ap, ◌∙◌, subst, inl}
use Rattle.std.proofs.lemmas.Bool.{and_from, eq-eqb}
use Rattle.orders.specs.declared.order.Order.{Ghosts}
use Rattle.keys.specs.declared.kind.KeyKind
use Rattle.board.specs.Calls.{row}
use Rattle.runs.specs.declared.call.Call.TheVariants.{Request}
use Rattle.runs.specs.declared.call.Accepted.{Accepted}
use Rattle.runs.specs.declared.refusal.Refusal.{Refusal}
use Rattle.runs.specs.Histories.{Event, serials}
use Rattle.runs.specs.Steps.{Facts, State, Fresh, Leads, kernel_of}
use Rattle.kernel.specs.declared.kernel.Kernel.{Kernel}
use Rattle.kernel.specs.Views.{facts_of, state_of, noted, Plain, task_answer}
use Rattle.kernel.specs.Promises.{Took, Holds}
use Rattle.driver.specs.declared.ticket.Ticket.{Ticket}
use Rattle.driver.specs.Tokens.{is_on, last_serial}
use Rattle.driver.specs.Naming.{Gave}
use Rattle.driver.specs.Faces.{ticket_for, Opened}
use Rattle.driver.proofs.Requesting.{Asked, asked_by, asked_on}

ok_same : (x y : Ticket) → ◌≡◌ {A = Result Ticket Refusal} (Ok x) (Ok y) → y ≡ x
ok_same x y e = cc

module _ {S K D Y : Type 0} (o : Ghosts S) (kind : KeyKind.Ghosts K D Y) (k z : Kernel S K D Y) (t r : ℕ) (a : Accepted) (x : Ticket)
    (took : Took o kind k (Request t r) (Ok a) z) (plain : Plain {D = D} (Request t r) (Ok a)) (holds : Holds o kind k (noted (Request t r) (Ok a) ∷ []) z)
    (is : x ≡ record { task = t; resource = r; serial = last_serial (task_answer z t) }) where
  asked : Asked (kernel_of o kind (facts_of k)) (state_of k) t r a.told (state_of z)
  asked = asked_by (kernel_of o kind (facts_of k)) (state_of k) (state_of z) _ t r a.told took.step refl

  answer : a ≡ record { told = (state_of z).told t; next = None }
  answer = λ i. record { told = sym asked.told i; next = plain i }

  known : ((facts_of z).checked && ltb t (facts_of z).tasks) ≡ true
  known = and_from _ _ (ap (λ (f : Facts). f.checked) took.facts ∙ asked.checked) (ap (λ (f : Facts). ltb t f.tasks) took.facts ∙ asked.known)

  serial : last_serial (task_answer z t) ≡ suc ((state_of k).serial t)
  serial = ap (λ b. last_serial (cond b (Some (row z.board t)) None)) known ∙ asked.serial

  ticket : x ≡ ticket_for (state_of k) t r
  ticket = is ∙ ap (λ n. record { task = t; resource = r; serial = n }) serial

  on : is_on (facts_of z) (state_of z) t x.serial ≡ true
  on = ap (λ (y : Ticket). is_on (facts_of z) (state_of z) t y.serial) ticket ∙ ap (λ (f : Facts). is_on f (state_of z) t (suc ((state_of k).serial t))) took.facts
      ∙ asked_on (kernel_of o kind (facts_of k)) (state_of k) (state_of z) t r a.told asked

  -- the serial is the number of the task's requests that were accepted before, and one more
  counted_serial : (start : State S) (h : List (Event D)) → Fresh (kernel_of o kind (facts_of k)) start → Leads (kernel_of o kind (facts_of k)) start h (state_of k) → suc (serials h t) ≡ x.serial
  counted_serial start h fresh l =
      let after : (state_of z).serial t ≡ serials (noted (Request t r) (Ok a) ∷ h) t = ap (λ (f : ℕ → ℕ). f t) (holds.guarantee start h fresh l).serial in
      let here : serials (noted (Request t r) (Ok a) ∷ h) t ≡ suc (serials h t) = rw (eq-eqb t t refl) in
      sym here ∙ (sym after ∙ (asked.serial ∙ sym (ap (λ (y : Ticket). y.serial) ticket)))

  gave : (start : State S) (h : List (Event D)) → Fresh (kernel_of o kind (facts_of k)) start → Leads (kernel_of o kind (facts_of k)) start h (state_of k) → Gave (Event.requested t r ((state_of z).told t) ∷ h) x.task x.serial x.resource
  gave start h fresh l =
      subst (λ (y : Ticket). Gave (Event.requested t r ((state_of z).told t) ∷ h) y.task y.serial y.resource) (sym ticket) (inl (refl, refl, counted_serial start h fresh l ∙ ap (λ (y : Ticket). y.serial) ticket))

  pub opened : Opened o kind k t r (Ok x) z
  opened = record {
    took = subst (λ (y : Accepted). Took o kind k (Request t r) (Ok y) z) answer took;
    ticket = λ y e. ok_same x y e ∙ ticket;
    on = λ y e. ap (λ (u : Ticket). is_on (facts_of z) (state_of z) t u.serial) (ok_same x y e) ∙ on;
    gave = λ y e start h fresh l. subst (λ (u : Ticket). Gave (Event.requested t r ((state_of z).told t) ∷ h) u.task u.serial u.resource) (sym (ok_same x y e)) (gave start h fresh l);
    holds = subst (λ (y : Accepted). Holds o kind k (noted (Request t r) (Ok y) ∷ []) z) answer holds;
  }
