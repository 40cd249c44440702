-- lines run one by one make one history
use Rattle.std.proofs.Common.{◌≡◌, ℕ, suc, ◌+◌, cond, List, [], ◌∷◌, ◌++◌, map, length, Result, sym, refl, ap, ◌∙◌, subst, append_assoc, append-nil, add-one}
use Rattle.orders.specs.declared.order.Order.{Ghosts}
use Rattle.keys.specs.declared.kind.KeyKind
use Rattle.jobs.specs.Jobs.{Jobs, running}
use Rattle.runs.specs.declared.call.Call.{Call}
use Rattle.runs.specs.Histories.{Event, jobs_after}
use Rattle.runs.specs.Steps.{Facts, State, Fresh, Leads, kernel_of}
use Rattle.runs.specs.Guarantee.{Guarantee}
use Rattle.kernel.specs.declared.kernel.Kernel.{Kernel}
use Rattle.kernel.specs.Views.{facts_of, state_of}
use Rattle.kernel.proofs.Holding.{leads_on}
use Rattle.fields.specs.Cutting.{lines, pieces}
use Rattle.transcript.specs.Rows.{event_row}
use Rattle.event_text.specs.declared.fault.TextFault.{TextFault}
use Rattle.event_report.specs.declared.report.Fault.{Fault}
use Rattle.event_report.specs.Reasons.{fault_at}
use Rattle.event_run.specs.Entries.{Entry, onto, history, answer_number, told_at, reason_of, faults_of}
use Rattle.event_run.specs.Outputs.{powers, event_rows}
use Rattle.event_run.specs.Taking.{Lined, Sofar}

rows_none : {D : Type 0} (key : D → ℕ → ℕ) (m : ℕ) → event_rows key m [] ≡ []
unfolding event_rows
rows_none key m = refl

rows_more : {D : Type 0} (key : D → ℕ → ℕ) (m : ℕ) (e : Entry D) (es : List (Entry D)) →
    event_rows key m (e ∷ es) ≡ event_rows key m es ++ event_row (suc (length es)) (answer_number e) (powers (running (jobs_after key (history (e ∷ es))) m) 64) (told_at e)
unfolding event_rows
rows_more key m e es = refl

-- an entry more is its history before the others'
history_more : {D : Type 0} (e : Entry D) (es : List (Entry D)) → history (e ∷ es) ≡ history (e ∷ []) ++ history es
history_more (Entry.unread f) es = refl
history_more (Entry.handled x) es = refl

module _ {S K D Y : Type 0} (o : Ghosts S) (kind : KeyKind.Ghosts K D Y) (read : List ℕ → Result (Call D) TextFault) (k : Kernel S K D Y) (all : List (List ℕ)) (text : List ℕ) (faults : List Fault)
    (fresh : Fresh (kernel_of o kind (facts_of k)) (state_of k)) (stands : (f : Facts) (start s : State S) (h : List (Event D)) → Fresh (kernel_of o kind f) start → Leads (kernel_of o kind f) start h s → Guarantee (kernel_of o kind f) start h s) where
  pub sofar_none : Sofar o kind read k all all 0 text faults k text faults
  sofar_none = record {
    entries = [];
    count = refl;
    says = refl;
    facts = refl;
    steps = Leads.none;
    adds = sym (ap (λ x. text ++ x) (rows_none (kernel_of o kind (facts_of k)).key (facts_of k).cores) ∙ append-nil text);
    notes = sym (append-nil faults);
  }

  module _ (line : List ℕ) (before rest : List (List ℕ)) (n : ℕ) (mid z : Kernel S K D Y) (text' text'' : List ℕ) (faults' faults'' : List Fault)
      (cut : before ≡ line ∷ rest) (s : Sofar o kind read k all before n text faults mid text' faults') (l : Lined o kind mid (read line) (n + 1) text' faults' z text'' faults'') where
    abbrev es : List (Entry D)
    es = s.entries

    abbrev e : Entry D
    e = l.entry

    facts : facts_of z ≡ facts_of k
    facts = l.facts ∙ s.facts

    steps : Leads (kernel_of o kind (facts_of k)) (state_of k) (history (e ∷ es)) (state_of z)
    steps = subst (λ (h : List (Event D)). Leads (kernel_of o kind (facts_of k)) (state_of k) h (state_of z)) (sym (history_more e es))
        (leads_on (kernel_of o kind (facts_of k)) (state_of k) (state_of mid) (state_of z) (history es) (history (e ∷ [])) s.steps (subst (λ (f : Facts). Leads (kernel_of o kind f) (state_of mid) (history (e ∷ [])) (state_of z)) s.facts l.steps))

    -- who runs is what the history says
    ran : cond (facts_of z).checked (powers (running (state_of z).jobs (facts_of z).cores) 64) 0 ≡ powers (running (jobs_after (kernel_of o kind (facts_of k)).key (history (e ∷ es))) (facts_of k).cores) 64
    ran = ap (λ (f : Facts). cond f.checked (powers (running (state_of z).jobs f.cores) 64) 0) facts
        ∙ ap (λ b. cond b (powers (running (state_of z).jobs (facts_of k).cores) 64) 0) fresh.checked
        ∙ ap (λ (j : Jobs). powers (running j (facts_of k).cores) 64) (stands (facts_of k) (state_of k) (state_of z) (history (e ∷ es)) fresh steps).jobs

    counts : n + 1 ≡ suc (length es)
    counts = add-one n ∙ ap suc s.count

    row : event_row (n + 1) (answer_number e) (cond (facts_of z).checked (powers (running (state_of z).jobs (facts_of z).cores) 64) 0) (told_at e)
        ≡ event_row (suc (length es)) (answer_number e) (powers (running (jobs_after (kernel_of o kind (facts_of k)).key (history (e ∷ es))) (facts_of k).cores) 64) (told_at e)
    row = ap (λ (x : ℕ). event_row x (answer_number e) (cond (facts_of z).checked (powers (running (state_of z).jobs (facts_of z).cores) 64) 0) (told_at e)) counts
        ∙ ap (λ (x : ℕ). event_row (suc (length es)) (answer_number e) x (told_at e)) ran

    pub sofar_more : Sofar o kind read k all rest (n + 1) text faults z text'' faults''
    sofar_more = record {
      entries = e ∷ es;
      count = counts;
      says = ap (λ (x : Result (Call D) TextFault). onto es (x ∷ map read rest)) l.says ∙ ap (λ (x : List (List ℕ)). onto es (map read x)) (sym cut) ∙ s.says;
      facts = facts;
      steps = steps;
      adds = l.adds ∙ ap (λ x. x ++ event_row (n + 1) (answer_number e) (cond (facts_of z).checked (powers (running (state_of z).jobs (facts_of z).cores) 64) 0) (told_at e)) s.adds
          ∙ append_assoc text (event_rows (kernel_of o kind (facts_of k)).key (facts_of k).cores es) _
          ∙ ap (λ x. text ++ (event_rows (kernel_of o kind (facts_of k)).key (facts_of k).cores es ++ x)) row
          ∙ ap (λ x. text ++ x) (sym (rows_more (kernel_of o kind (facts_of k)).key (facts_of k).cores e es));
      notes = l.notes ∙ ap (λ x. x ++ fault_at (suc (n + 1)) (reason_of e)) s.notes
          ∙ append_assoc faults (faults_of es) _
          ∙ ap (λ (x : ℕ). faults ++ (faults_of es ++ fault_at (suc x) (reason_of e))) counts;
    }

-- an empty file has no line
pub no_lines : lines [] ≡ []
unfolding pieces
no_lines = refl

-- nothing is left
pub sofar_all : {S K D Y : Type 0} (o : Ghosts S) (kind : KeyKind.Ghosts K D Y) (read : List ℕ → Result (Call D) TextFault) (k : Kernel S K D Y) (all : List (List ℕ)) (text : List ℕ) (faults : List Fault) (left : List ℕ) (n : ℕ) (z : Kernel S K D Y) (text' : List ℕ) (faults' : List Fault) →
    left ≡ [] → Sofar o kind read k all (lines left) n text faults z text' faults' → Sofar o kind read k all [] n text faults z text' faults'
sofar_all o kind read k all text faults left n z text' faults' e s = subst (λ (x : List (List ℕ)). Sofar o kind read k all x n text faults z text' faults') (ap lines e ∙ no_lines) s
