-- a whole run is the text of its history
use Rattle.std.proofs.Common.{◌≡◌, ℕ, List, [], ◌++◌, vec_items, string_bytes, Result, ap, ◌∙◌, subst}
use mathlib.Core.Path.{fun_ext}
use Rattle.orders.specs.declared.order.Order.{Ghosts}
use Rattle.keys.specs.declared.kind.KeyKind
use Rattle.jobs.specs.declared.state.TaskState.{TaskState}
use Rattle.jobs.specs.Jobs.{Jobs}
use Rattle.runs.specs.declared.call.Call.{Call}
use Rattle.runs.specs.Histories.{Event, jobs_after, blocked_ticks, longest as longest_in}
use Rattle.runs.specs.Steps.{Facts, State, Fresh, Leads, kernel_of, at_start}
use Rattle.runs.specs.Guarantee.{Guarantee}
use Rattle.kernel.specs.declared.kernel.Kernel.{Kernel}
use Rattle.kernel.specs.Views.{facts_of, state_of, made_of}
use Rattle.transcript.specs.Rows.{start_row}
use Rattle.event_text.specs.declared.fault.TextFault.{TextFault}
use Rattle.event_report.specs.declared.report.Fault.{Fault}
use Rattle.event_report.specs.declared.report.Report.{Report}
use Rattle.event_run.specs.Entries.{Entry, history, faults_of}
use Rattle.event_run.specs.Outputs.{event_rows, task_rows, resource_rows, output_of}
use Rattle.event_run.specs.Taking.{LinesRun}
use Rattle.event_run.specs.Files.{FileRan}

module _ {S K D Y : Type 0} (o : Ghosts S) (kind : KeyKind.Ghosts K D Y) (read : List ℕ → Result (Call D) TextFault) (m n r : ℕ) (order : S) (lines : List (List ℕ)) (k z : Kernel S K D Y) (rep : Report)
    (text text' text'' : List ℕ) (faults : List Fault)
    (stands : (f : Facts) (start s : State S) (h : List (Event D)) → Fresh (kernel_of o kind f) start → Leads (kernel_of o kind f) start h s → Guarantee (kernel_of o kind f) start h s)
    (makes : facts_of k ≡ made_of m n r) (starts : state_of k ≡ at_start order) (new : Fresh (kernel_of o kind (facts_of k)) (state_of k))
    (begins : text ≡ start_row 0) (none : faults ≡ []) (run : LinesRun o kind read k lines text faults z text' (vec_items rep.faults))
    (tasks : text'' ≡ text' ++ task_rows (state_of z).jobs.state (state_of z).lost n) (resources : string_bytes rep.output ≡ text'' ++ resource_rows (state_of z).jobs.state (state_of z).longest n r) where
  abbrev key : D → ℕ → ℕ
  key = (kernel_of o kind (made_of m n r)).key

  abbrev es : List (Entry D)
  es = run.1.entries

  fresh : Fresh (kernel_of o kind (made_of m n r)) (at_start order)
  fresh = subst (λ (s : State S). Fresh (kernel_of o kind (made_of m n r)) s) starts (subst (λ (f : Facts). Fresh (kernel_of o kind f) (state_of k)) makes new)

  leads : Leads (kernel_of o kind (made_of m n r)) (at_start order) (history es) (state_of z)
  leads = subst (λ (s : State S). Leads (kernel_of o kind (made_of m n r)) s (history es) (state_of z)) starts (subst (λ (f : Facts). Leads (kernel_of o kind f) (state_of k) (history es) (state_of z)) makes run.1.steps)

  kept : Guarantee (kernel_of o kind (made_of m n r)) (at_start order) (history es) (state_of z)
  kept = stands (made_of m n r) (at_start order) (state_of z) (history es) fresh leads

  states : (state_of z).jobs.state ≡ (jobs_after key (history es)).state
  states = ap (λ (j : Jobs). j.state) kept.jobs

  longests : (state_of z).longest ≡ longest_in key m (history es)
  longests = fun_ext (λ q. kept.longest q)

  rows : text' ≡ start_row 0 ++ event_rows key m es
  rows = run.1.adds ∙ ap (λ x. x ++ event_rows key (facts_of k).cores es) begins ∙ ap (λ (f : Facts). start_row 0 ++ event_rows key f.cores es) makes

  output : string_bytes rep.output ≡ output_of key m n r es
  output = resources ∙ ap (λ x. x ++ resource_rows (state_of z).jobs.state (state_of z).longest n r) (tasks ∙ ap (λ x. x ++ task_rows (state_of z).jobs.state (state_of z).lost n) rows)
      ∙ ap (λ (f : ℕ → TaskState). start_row 0 ++ event_rows key m es ++ task_rows f (state_of z).lost n ++ resource_rows f (state_of z).longest n r) states
      ∙ ap (λ (f : ℕ → ℕ). start_row 0 ++ event_rows key m es ++ task_rows (jobs_after key (history es)).state f n ++ resource_rows (jobs_after key (history es)).state (state_of z).longest n r) kept.lost
      ∙ ap (λ (f : ℕ → ℕ). start_row 0 ++ event_rows key m es ++ task_rows (jobs_after key (history es)).state (blocked_ticks key m (history es)) n ++ resource_rows (jobs_after key (history es)).state f n r) longests

  pub ran : FileRan o kind read m n r order lines rep
  ran = record { entries = es; state = state_of z; says = run.1.says; fresh = fresh; leads = leads; guarantee = kept; output = output; faults = run.1.notes ∙ ap (λ x. x ++ faults_of es) none }
