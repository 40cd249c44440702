-- what each call leaves is one step of the definition
use Rattle.std.proofs.Common.{◌≡◌, ℕ, suc, Bool, true, false, cond, not, eqb, ltb, leb, MatchOption, Some, None, Ok, Err, Option, Result, sym, refl, ap, ◌∙◌, subst, inl, inr}
use Rattle.std.proofs.lemmas.Bool.{cases_Bool}
use Rattle.std.proofs.lemmas.Result.{err_from_is_err_and}
use Rattle.std.specs.Option.{option_eq, ok_or}
use Rattle.std.specs.Result.{IsErrAnd, IsErr, IsOk}
use Rattle.orders.specs.declared.refusal.OrderRefusal.{OrderRefusal}
use Rattle.orders.specs.declared.order.Order.{Ghosts}
use Rattle.keys.specs.declared.kind.KeyKind
use Rattle.jobs.specs.declared.state.TaskState.TheVariants.{Idle, Ready, Waiting, Holding}
use Rattle.jobs.specs.Jobs.{pending, running}
use Rattle.board.specs.declared.board.Board.{Board}
use Rattle.board.specs.declared.record.TaskRecord.{TaskRecord}
use Rattle.board.specs.declared.event.TaskEvent.TheVariants.{Arrive as Arriving, Request as Requesting, Release as Releasing, Finish as Finishing}
use Rattle.jobs.specs.declared.number.Number.{Number}
use Rattle.board.specs.Boards.{jobs_of, begun, turned, asked, placed, begun_hold}
use Rattle.board.specs.Calls.{row, hold, Put, PutHold, Ticked}
use Rattle.board.specs.Events.{event_refusal, tick_refusal, verdict, Stepped}
use Rattle.runs.specs.declared.call.Call.{Call}
use Rattle.runs.specs.declared.call.Call.TheVariants.{Arrive, Request, Release, Finish, Tick}
use Rattle.runs.specs.declared.call.Accepted.{Accepted}
use Rattle.runs.specs.declared.refusal.Refusal.{Refusal}
use Rattle.runs.specs.declared.refusal.Refusal.TheVariants.{Unchecked, NoSuchTask, NoSuchResource, AlreadyPending, OutOfRange, CountSpent, Order}
use Rattle.runs.specs.Histories.{Event}
use Rattle.runs.specs.Steps.{Step, refusal, granted, kernel_of}
use Rattle.kernel.specs.declared.kernel.Kernel.{Kernel}
use Rattle.kernel.specs.declared.facts.Limits.{Limits}
use Rattle.kernel.specs.Views.{view, state_of, has_limits, facts_of, no_task, no_resource, noted, done, counted, handed, HandedOver, BelowTasks}
use Rattle.kernel.specs.Promises.{Took}
use Rattle.orders.specs.Services.{Lawful}
use Rattle.runs.proofs.Reached.{next_inside}
use Rattle.kernel.proofs.Edits.{turned_view, begun_view, asked_view, ticked_view, released_view}

-- a number of a task that is refused is refused first
front_refused : (a c : Bool) (rest : Option Refusal) (e : Refusal) → cond (not a) (Some Unchecked) (cond (not c) (Some NoSuchTask) None) ≡ Some e → cond (not a) (Some Unchecked) (cond (not c) (Some NoSuchTask) rest) ≡ Some e
front_refused true true rest e h = cc
front_refused true false rest e h = h
front_refused false c rest e h = h

-- with a number that is known the rest decides
front_known : (a c : Bool) (rest : Option Refusal) → cond (not a) (Some Unchecked) (cond (not c) (Some NoSuchTask) None) ≡ None → cond (not a) (Some Unchecked) (cond (not c) (Some NoSuchTask) rest) ≡ rest
front_known true true rest h = refl
front_known true false rest h = cc
front_known false c rest h = cc

-- with a resource that is known the rest decides
resource_known : (a d : Bool) (rest : Option Refusal) → cond (not a) (Some Unchecked) (cond (not d) (Some NoSuchResource) None) ≡ None → cond (not d) (Some NoSuchResource) rest ≡ rest
resource_known true true rest h = refl
resource_known true false rest h = cc
resource_known false d rest h = cc

-- where the task is known, a number of a resource that is refused is refused first
resource_refused : (a c d : Bool) (rest : Option Refusal) (e : Refusal) → cond (not a) (Some Unchecked) (cond (not c) (Some NoSuchTask) None) ≡ None → cond (not a) (Some Unchecked) (cond (not d) (Some NoSuchResource) None) ≡ Some e →
    cond (not a) (Some Unchecked) (cond (not c) (Some NoSuchTask) (cond (not d) (Some NoSuchResource) rest)) ≡ Some e
resource_refused true true true rest e h f = cc
resource_refused true true false rest e h f = f
resource_refused true false d rest e h f = cc
resource_refused false c d rest e h f = f

-- an arrival is refused because a job is pending, or the rest decides
pending_refused : (p : Bool) (rest : Option Refusal) (e : Refusal) → cond p (Some AlreadyPending) None ≡ Some e → cond p (Some AlreadyPending) rest ≡ Some e
pending_refused true rest e h = h
pending_refused false rest e h = cc

not_pending : (p : Bool) (rest : Option Refusal) → cond p (Some AlreadyPending) None ≡ None → cond p (Some AlreadyPending) rest ≡ rest
not_pending true rest h = cc
not_pending false rest h = refl

handed_cores : (b z : Board) (n : Option ℕ) (r : ℕ) → HandedOver b n r z → z.cores ≡ b.cores
handed_cores b z None r h = h.cores
handed_cores b z (Some u) r h = h.2.cores ∙ h.1.cores

-- what a verdict says of the refusal
pub verdict_err : (why : Option Refusal) (e : Refusal) → Err e ≡ verdict why → why ≡ Some e
verdict_err None e h = cc
verdict_err (Some w) e h = cc

pub verdict_ok : (why : Option Refusal) (u : Unit {0}) → Ok u ≡ verdict why → why ≡ None
verdict_ok None u h = refl
verdict_ok (Some w) u h = cc

-- an event that is not refused writes the record, and answers nothing
pub stepped_put : (why : Option Refusal) (b : Board) (t : ℕ) (x : TaskRecord) (z : Board) → why ≡ None → Stepped why b t x z → Put b t x z
stepped_put None b t x z e w = w
stepped_put (Some r) b t x z e w = absurd (cc)

-- limits that are missing
pub unchecked : (l : Option Limits) (e : Refusal) → Err e ≡ ok_or l Unchecked → (has_limits l ≡ false) × (e ≡ Unchecked)
unchecked None e h = (refl, cc)
unchecked (Some l) e h = absurd (cc)

-- the refusal that `?` passes on
pub passed_on : {T : Type 0} (r : Result T Refusal) (e : Refusal) → IsErrAnd r (λ y. y ≡ e) → r ≡ Err e
passed_on r e h = let p = err_from_is_err_and r h in p.1 ∙ ap Err p.2

-- a declaration without a code is out of range
pub out_of_range : (p : Bool) (c : ℕ) (x : Option ℕ) (e : Refusal) → x ≡ cond p (Some c) None → Err e ≡ ok_or x OutOfRange → (p ≡ false) × (e ≡ OutOfRange)
out_of_range true c None e q h = absurd (cc)
out_of_range false c None e q h = (refl, cc)
out_of_range p c (Some y) e q h = absurd (cc)

-- the next holder that a pass names is a task
pub next_below : {S : Type 0} (o : Ghosts S) → Lawful o → (s z : S) (r : ℕ) (n : Option ℕ) → o.passed s r (Ok n) z → BelowTasks n
next_below o laws s z r None p = tt
next_below o laws s z r (Some u) p = next_inside o laws s z r u p

-- the next holder, a task, took a resource up
pub handed_some : (b mid z : Board) (n : Option ℕ) (heir : Number 64) (r : ℕ) → MatchOption n (Some heir ≡ None) (λ u. heir.number ≡ u) → PutHold b r (begun_hold (hold b r)) mid → Put mid heir.number (turned (row mid heir.number) (Holding r)) z → HandedOver b n r z
handed_some b mid z None heir r e p w = absurd (cc)
handed_some b mid z (Some u) heir r e p w = (mid, p, subst (λ (x : ℕ). Put mid x (turned (row mid x) (Holding r)) z) e w)

granted_is : (h : Option ℕ) (t r : ℕ) → placed (option_eq eqb h (Some t)) r ≡ granted h t r
granted_is None t r = refl
granted_is (Some h) t r = elim (eqb h t) as (λ b. placed b r ≡ cond b (Holding r) (Waiting r)) [ true ↦ refl | false ↦ refl ]

noted_refused : {D : Type 0} (c : Call D) (e : Refusal) → noted c (Err e) ≡ Event.refused c e
noted_refused (Arrive t d) e = refl
noted_refused (Request t r) e = refl
noted_refused (Release t) e = refl
noted_refused (Finish t) e = refl
noted_refused Tick e = refl

accepted_not : {A : Type 0} {x : Accepted} {e : Refusal} → Ok x ≡ Err e → A
accepted_not h = absurd (cc)

module _ {S K D Y : Type 0} (o : Ghosts S) (kind : KeyKind.Ghosts K D Y) (k : Kernel S K D Y) where
  -- the kernel with another board and another order
  abbrev pub after : Board → S → Kernel S K D Y
  after z q = record { limits = k.limits; board = z; order = q; kind = k.kind }

  facts_kept : (z : Board) (q : S) → z.cores ≡ k.board.cores → facts_of (after z q) ≡ facts_of k
  facts_kept z q e = λ i. record { checked = (facts_of k).checked; cores = e i; tasks = (facts_of k).tasks; resources = (facts_of k).resources }

  -- a refusal leaves everything
  pub refused_took : (c : Call D) (e : Refusal) → refusal (kernel_of o kind (facts_of k)) (state_of k) c ≡ Some e → Took o kind k c (Err e) k
  refused_took c e h = record { step = rw (noted_refused c e) (Step.refuses h); facts = refl; kept = λ _ _. refl }

  abbrev runs : ℕ → Bool
  runs t = running (jobs_of k.board.table.rows) k.board.cores t

  -- a number of a task that is refused
  module _ (t : ℕ) (e : Refusal) (h : no_task (facts_of k) t ≡ Some e) where
    first : (rest : Option Refusal) → cond (not (facts_of k).checked) (Some Unchecked) (cond (not (ltb t (facts_of k).tasks)) (Some NoSuchTask) rest) ≡ Some e
    first rest = front_refused (facts_of k).checked (ltb t (facts_of k).tasks) rest e h

    pub arrive_unknown : (d : D) → Took o kind k (Arrive t d) (Err e) k
    arrive_unknown d = refused_took (Arrive t d) e (first (cond (pending (row k.board t).state) (Some AlreadyPending) (cond (not (kind.ranged d)) (Some OutOfRange) None)))

    pub request_nobody : (r : ℕ) → Took o kind k (Request t r) (Err e) k
    request_nobody r = refused_took (Request t r) e (first _)

    pub release_nobody : Took o kind k (Release t) (Err e) k
    release_nobody = refused_took (Release t) e (first (event_refusal (row k.board t) (runs t) Releasing))

    pub finish_nobody : Took o kind k (Finish t) (Err e) k
    finish_nobody = refused_took (Finish t) e (first (event_refusal (row k.board t) (runs t) Finishing))

  module _ (t : ℕ) (known : no_task (facts_of k) t ≡ None) where
    front : (rest : Option Refusal) → cond (not (facts_of k).checked) (Some Unchecked) (cond (not (ltb t (facts_of k).tasks)) (Some NoSuchTask) rest) ≡ rest
    front rest = front_known (facts_of k).checked (ltb t (facts_of k).tasks) rest known

    finish_either : (why : Option Refusal) (z : Board) → event_refusal (row k.board t) (runs t) Finishing ≡ why → Stepped why k.board t (turned (row k.board t) Idle) z → Took o kind k (Finish t) (done (verdict why)) (after z k.order)
    finish_either None z h w = record {
      step = subst (Step (kernel_of o kind (facts_of k)) (state_of k) (Event.finished t)) (sym (turned_view k.board z t _ w k.order Idle refl)) (Step.finishes (front _ ∙ h));
      facts = facts_kept z k.order w.cores;
      kept = λ e x. accepted_not x;
    }
    finish_either (Some e) z h w = subst (λ (x : Board). Took o kind k (Finish t) (Err e) (after x k.order)) (sym w) (refused_took (Finish t) e (front _ ∙ h))

    -- the end of a job
    pub finish_took : (a : Result (Unit {0}) Refusal) (z : Board) → a ≡ verdict (event_refusal (row k.board t) (runs t) Finishing) → Stepped (event_refusal (row k.board t) (runs t) Finishing) k.board t (turned (row k.board t) Idle) z → Took o kind k (Finish t) (done a) (after z k.order)
    finish_took a z e w = subst (λ (x : Result (Unit {0}) Refusal). Took o kind k (Finish t) (done x) (after z k.order)) (sym e) (finish_either (event_refusal (row k.board t) (runs t) Finishing) z refl w)

    -- an arrival
    pub arrive_refused : (d : D) (e : Refusal) → event_refusal (row k.board t) (runs t) (Arriving 0) ≡ Some e → Took o kind k (Arrive t d) (Err e) k
    arrive_refused d e h = refused_took (Arrive t d) e (front (cond (pending (row k.board t).state) (Some AlreadyPending) (cond (not (kind.ranged d)) (Some OutOfRange) None)) ∙ pending_refused (pending (row k.board t).state) _ e h)

    pub arrive_out : (d : D) → event_refusal (row k.board t) (runs t) (Arriving 0) ≡ None → kind.ranged d ≡ false → Took o kind k (Arrive t d) (Err OutOfRange) k
    arrive_out d h out = refused_took (Arrive t d) OutOfRange (front (cond (pending (row k.board t).state) (Some AlreadyPending) (cond (not (kind.ranged d)) (Some OutOfRange) None)) ∙ not_pending (pending (row k.board t).state) _ h ∙ rw out)

    pub arrive_took : (d : D) (c : ℕ) (z : Board) → event_refusal (row k.board t) (runs t) (Arriving 0) ≡ None → kind.ranged d ≡ true → c ≡ kind.code (kind.key d k.board.ticks) → Put k.board t (begun (row k.board t) c) z → Took o kind k (Arrive t d) (done (Ok tt)) (after z k.order)
    arrive_took d c z h fine e w = record {
      step = subst (Step (kernel_of o kind (facts_of k)) (state_of k) (Event.arrived t d)) (sym (begun_view k.board z t _ w (kernel_of o kind (facts_of k)) k.order d c refl e))
          (Step.arrives (front (cond (pending (row k.board t).state) (Some AlreadyPending) (cond (not (kind.ranged d)) (Some OutOfRange) None)) ∙ not_pending (pending (row k.board t).state) _ h ∙ rw fine));
      facts = facts_kept z k.order w.cores;
      kept = λ x y. accepted_not y;
    }

    -- a request
    pub request_unknown : (r : ℕ) (e : Refusal) → no_resource (facts_of k) r ≡ Some e → Took o kind k (Request t r) (Err e) k
    request_unknown r e h = refused_took (Request t r) e (resource_refused (facts_of k).checked (ltb t (facts_of k).tasks) (ltb r (facts_of k).resources) _ e known h)

    module _ (no : Number 32) (g : Bool) (m : ℕ) (r : ℕ) (there : no_resource (facts_of k) r ≡ None) where
      request_front : refusal (kernel_of o kind (facts_of k)) (state_of k) (Request t r) ≡ event_refusal (row k.board t) (runs t) (Requesting no g m)
      request_front = front (cond (not (ltb r (facts_of k).resources)) (Some NoSuchResource) (event_refusal (row k.board t) (runs t) (Requesting no g m))) ∙ resource_known (facts_of k).checked (ltb r (facts_of k).resources) _ there

      pub request_refused : (e : Refusal) → event_refusal (row k.board t) (runs t) (Requesting no g m) ≡ Some e → Took o kind k (Request t r) (Err e) k
      request_refused e h = refused_took (Request t r) e (request_front ∙ h)

      module _ (free : event_refusal (row k.board t) (runs t) (Requesting no g m) ≡ None) where
        pub request_kept : (word : OrderRefusal) (q : S) → o.admitted k.order r t (row k.board t).code (Err word) q → q ≡ k.order → Took o kind k (Request t r) (Err (Order word)) (after k.board q)
        request_kept word q a e = subst (λ (x : S). Took o kind k (Request t r) (Err (Order word)) (after k.board x)) (sym e) (record { step = Step.keeps_out (request_front ∙ free) a; facts = refl; kept = λ _ _. refl })

        pub request_took : (q : S) (n num : ℕ) (gr : Bool) (h : Option ℕ) (z : Board) → o.admitted k.order r t (row k.board t).code (Ok tt) q → h ≡ o.holder q r → gr ≡ option_eq eqb h (Some t) → n ≡ o.count q r t → num ≡ r → Put k.board t (asked (row k.board t) (placed gr num) num (suc (row k.board t).serial) n) z → Took o kind k (Request t r) (counted (Ok n)) (after z q)
        request_took q n num gr h z a held fits told same w =
            let record_is : asked (row k.board t) (placed gr num) num (suc (row k.board t).serial) n ≡ asked (row k.board t) (placed (option_eq eqb h (Some t)) r) r (suc (row k.board t).serial) n = rw (fits, same) in
            record {
              step = subst (λ (x : ℕ). Step (kernel_of o kind (facts_of k)) (state_of k) (Event.requested t r x) (view z q)) (sym told)
                  (subst (Step (kernel_of o kind (facts_of k)) (state_of k) (Event.requested t r (o.count q r t))) (sym (asked_view k.board z t _ w (kernel_of o kind (facts_of k)) k.order q r n (placed (option_eq eqb h (Some t)) r) record_is (granted_is h t r ∙ ap (λ x. granted x t r) held) told)) (Step.requests (request_front ∙ free) a));
              facts = facts_kept z q w.cores;
              kept = λ x y. accepted_not y;
            }

    -- a release
    release_front : refusal (kernel_of o kind (facts_of k)) (state_of k) (Release t) ≡ event_refusal (row k.board t) (runs t) Releasing
    release_front = front (event_refusal (row k.board t) (runs t) Releasing)

    pub release_refused : (e : Refusal) → event_refusal (row k.board t) (runs t) Releasing ≡ Some e → Took o kind k (Release t) (Err e) k
    release_refused e h = refused_took (Release t) e (release_front ∙ h)

    module _ (free : event_refusal (row k.board t) (runs t) Releasing ≡ None) where
      pub release_kept : (r : ℕ) (word : OrderRefusal) (q : S) → (row k.board t).state ≡ Holding r → o.passed k.order r (Err word) q → q ≡ k.order → Took o kind k (Release t) (Err (Order word)) (after k.board q)
      release_kept r word q at a e = subst (λ (x : S). Took o kind k (Release t) (Err (Order word)) (after k.board x)) (sym e) (record { step = Step.keeps_in (release_front ∙ free) at a; facts = refl; kept = λ _ _. refl })

      pub release_took : (r : ℕ) (n : Option ℕ) (q : S) (one z : Board) → (row k.board t).state ≡ Holding r → o.passed k.order r (Ok n) q → Put k.board t (turned (row k.board t) Ready) one → HandedOver one n r z → Took o kind k (Release t) (handed (Ok n)) (after z q)
      release_took r n q one z at a w h = record {
        step = subst (Step (kernel_of o kind (facts_of k)) (state_of k) (Event.released t n)) (sym (released_view k.board one z t r n k.order q w h)) (Step.releases (release_front ∙ free) at a);
        facts = facts_kept z q (handed_cores one z n r h ∙ w.cores);
        kept = λ x y. accepted_not y;
      }

  -- a tick
  pub tick_unchecked : (facts_of k).checked ≡ false → Took o kind k Tick (Err Unchecked) k
  tick_unchecked h = refused_took Tick Unchecked (rw h)

  tick_took : (z : Board) → (facts_of k).checked ≡ true → leb 4294967295 k.board.ticks ≡ false → Ticked k.board z → Took o kind k Tick (done (Ok tt)) (after z k.order)
  tick_took z h n w = record {
    step = subst (Step (kernel_of o kind (facts_of k)) (state_of k) Event.ticked) (sym (ticked_view (kernel_of o kind (facts_of k)) k.board z w k.order refl)) (Step.goes_on (rw (h, n)));
    facts = facts_kept z k.order w.cores;
    kept = λ x y. accepted_not y;
  }

  -- a tick of the board, with its answer
  pub tick_told : (a : Result (Unit {0}) Refusal) (z : Board) → (facts_of k).checked ≡ true → a ≡ verdict (tick_refusal k.board) → (IsErr a → z ≡ k.board) → (IsOk a → Ticked k.board z) → Took o kind k Tick (done a) (after z k.order)
  tick_told a z h told stays goes = elim (cases_Bool (leb 4294967295 k.board.ticks)) [
    | inl y ↦
        let spent : a ≡ Err CountSpent = told ∙ ap (λ b. verdict (cond b (Some CountSpent) None)) y in
        rw (spent, stays (rw spent refl)) (refused_took Tick CountSpent (rw (h, y)))
    | inr n ↦
        let fine : a ≡ Ok tt = told ∙ ap (λ b. verdict (cond b (Some CountSpent) None)) n in
        rw fine (tick_took z h n (goes (rw fine refl)))
  ]
