-- The kernel's state, its step, and its runs
use Rattle.std.specs.Prelude.{◌≡◌, ℕ, suc, max, Bool, true, cond, not, ◌&&◌, List, [], ◌∷◌, Some, None, Ok, Err, Option, ◌==◌, nat_le, nat_lt}
use Rattle.orders.specs.declared.refusal.OrderRefusal.{OrderRefusal}
use Rattle.orders.specs.declared.order.Order.{Ghosts}
use Rattle.orders.specs.Orders.{Meaning}
use Rattle.orders.specs.Services.{meaning}
use Rattle.orders.specs.Gating.{idle}
use Rattle.keys.specs.declared.kind.KeyKind
use Rattle.jobs.specs.declared.state.TaskState.{TaskState}
use Rattle.jobs.specs.declared.state.TaskState.TheVariants.{Idle, Ready, Waiting, Holding}
use Rattle.jobs.specs.Jobs.{Jobs, pending, is_waiting, is_holding, running, blocked, busy}
use Rattle.runs.specs.declared.call.Call.{Call}
use Rattle.runs.specs.declared.call.Call.TheVariants.{Arrive, Request, Release, Finish, Tick}
use Rattle.runs.specs.declared.refusal.Refusal.{Refusal}
use Rattle.runs.specs.declared.refusal.Refusal.TheVariants.{Unchecked, NoSuchTask, NoSuchResource, AlreadyPending, NoJobPending, Waits, DoesNotRun, HoldsResource, HoldsNothing, CountSpent, OutOfRange, Order}
use Rattle.runs.specs.declared.refusal.Unfit.{Unfit}
use Rattle.runs.specs.declared.refusal.Unfit.TheVariants.{Cores, Tasks, Resources, Width, Places, SomebodyQueued}
use Rattle.runs.specs.Histories.{Event, put, hand}

-- the facts that a kernel is made of, and whether check accepted them
pub record Facts : Type 0 where
  pub checked : Bool
  pub cores : ℕ
  pub tasks : ℕ
  pub resources : ℕ

-- a kernel's facts, its order of service, and of its kind of key which declarations are in
-- range and the code of a declaration's key at an arrival tick
pub record Kernel (S D : Type 0) : Type 1 where
  pub facts : Facts
  pub service : Ghosts S
  pub ranged : D → Bool
  pub key : D → ℕ → ℕ

-- the kernel over an order and a kind of key
abbrev pub kernel_of : {S K D Y : Type 0} → Ghosts S → KeyKind.Ghosts K D Y → Facts → Kernel S D
kernel_of o kind f = record { facts = f; service = o; ranged = kind.ranged; key = λ d n. kind.code (kind.key d n) }

-- what check answers: the first fault of the facts m, n, r with an order that means v
abbrev pub unfit : ℕ → ℕ → ℕ → Meaning → Option Unfit
unfit m n r v =
    cond (not (nat_le 1 m && nat_le m 16)) (Some Cores) (cond (not (nat_le 1 n && nat_le n 64)) (Some Tasks) (cond (not (nat_le 1 r && nat_le r 32)) (Some Resources)
    (cond (not (v.width == m)) (Some Width) (cond (nat_lt v.places n) (Some Places) (cond (not (idle v)) (Some SomebodyQueued) None)))))

-- a kernel's state: the tick count and the jobs; by task the resource, serial, count told and
-- blocked ticks of its latest wait; by resource how long the
-- present hold has run and the longest hold; and the order of service
pub record State (S : Type 0) : Type 0 where
  pub now : ℕ
  pub jobs : Jobs
  pub resource : ℕ → ℕ
  pub serial : ℕ → ℕ
  pub told : ℕ → ℕ
  pub lost : ℕ → ℕ
  pub used : ℕ → ℕ
  pub longest : ℕ → ℕ
  pub order : S

-- the first refusal of a call, before the order of service is asked
abbrev pub refusal : {S D : Type 0} → Kernel S D → State S → Call D → Option Refusal
refusal k s (Arrive t d) =
    cond (not k.facts.checked) (Some Unchecked) (cond (not (nat_lt t k.facts.tasks)) (Some NoSuchTask)
    (cond (pending (s.jobs.state t)) (Some AlreadyPending) (cond (not (k.ranged d)) (Some OutOfRange) None)))
refusal k s (Request t r) =
    cond (not k.facts.checked) (Some Unchecked) (cond (not (nat_lt t k.facts.tasks)) (Some NoSuchTask) (cond (not (nat_lt r k.facts.resources)) (Some NoSuchResource)
    (cond (not (pending (s.jobs.state t))) (Some NoJobPending) (cond (is_waiting (s.jobs.state t)) (Some Waits)
    (cond (not (running s.jobs k.facts.cores t)) (Some DoesNotRun) (cond (is_holding (s.jobs.state t)) (Some HoldsResource)
    (cond (nat_le 4294967295 (s.serial t)) (Some CountSpent) None)))))))
refusal k s (Release t) =
    cond (not k.facts.checked) (Some Unchecked) (cond (not (nat_lt t k.facts.tasks)) (Some NoSuchTask)
    (cond (not (pending (s.jobs.state t))) (Some NoJobPending) (cond (is_waiting (s.jobs.state t)) (Some Waits)
    (cond (not (is_holding (s.jobs.state t))) (Some HoldsNothing) (cond (not (running s.jobs k.facts.cores t)) (Some DoesNotRun) None)))))
refusal k s (Finish t) =
    cond (not k.facts.checked) (Some Unchecked) (cond (not (nat_lt t k.facts.tasks)) (Some NoSuchTask)
    (cond (not (pending (s.jobs.state t))) (Some NoJobPending) (cond (is_waiting (s.jobs.state t)) (Some Waits)
    (cond (not (running s.jobs k.facts.cores t)) (Some DoesNotRun) (cond (is_holding (s.jobs.state t)) (Some HoldsResource) None)))))
refusal k s Tick = cond (not k.facts.checked) (Some Unchecked) (cond (nat_le 4294967295 s.now) (Some CountSpent) None)

-- the state of t after it was admitted for r: it holds r if the order says so, else it waits
abbrev pub granted : Option ℕ → ℕ → ℕ → TaskState
granted None t r = Waiting r
granted (Some h) t r = cond (h == t) (Holding r) (Waiting r)

-- the state left by an arrival, a request, a release, the end of a job, a tick
abbrev pub arrive_state : {S D : Type 0} → Kernel S D → State S → ℕ → D → State S
arrive_state k s t d = record {
  now = s.now;
  jobs = record { state = put s.jobs.state t Ready; code = put s.jobs.code t (k.key d s.now) };
  resource = s.resource;
  serial = s.serial;
  told = s.told;
  lost = s.lost;
  used = s.used;
  longest = s.longest;
  order = s.order;
}

abbrev pub request_state : {S D : Type 0} → Kernel S D → State S → ℕ → ℕ → S → State S
request_state k s t r z = record {
  now = s.now;
  jobs = record { state = put s.jobs.state t (granted (k.service.holder z r) t r); code = s.jobs.code };
  resource = put s.resource t r;
  serial = put s.serial t (suc (s.serial t));
  told = put s.told t (k.service.count z r t);
  lost = put s.lost t 0;
  used = s.used;
  longest = s.longest;
  order = z;
}

abbrev pub release_state : {S : Type 0} → State S → ℕ → ℕ → Option ℕ → S → State S
release_state s t r n z = record {
  now = s.now;
  jobs = record { state = hand (put s.jobs.state t Ready) n (Holding r); code = s.jobs.code };
  resource = s.resource;
  serial = s.serial;
  told = s.told;
  lost = s.lost;
  used = put s.used r 0;
  longest = s.longest;
  order = z;
}

abbrev pub finish_state : {S : Type 0} → State S → ℕ → State S
finish_state s t = record {
  now = s.now;
  jobs = record { state = put s.jobs.state t Idle; code = s.jobs.code };
  resource = s.resource;
  serial = s.serial;
  told = s.told;
  lost = s.lost;
  used = s.used;
  longest = s.longest;
  order = s.order;
}

abbrev pub tick_state : {S D : Type 0} → Kernel S D → State S → State S
tick_state k s = record {
  now = suc s.now;
  jobs = s.jobs;
  resource = s.resource;
  serial = s.serial;
  told = s.told;
  lost = λ t. cond (blocked s.jobs k.facts.cores t) (suc (s.lost t)) (s.lost t);
  used = λ r. cond (busy s.jobs k.facts.cores r) (suc (s.used r)) (s.used r);
  longest = λ r. cond (busy s.jobs k.facts.cores r) (max (s.longest r) (suc (s.used r))) (s.longest r);
  order = s.order;
}

-- what one call does: from a state, by a call with its answer, to a state
pub data Step {S D : Type 0} (k : Kernel S D) : State S → Event D → State S → Type 0 where
  refuses : {s : State S} {c : Call D} {e : Refusal} → refusal k s c ≡ Some e → Step k s (Event.refused c e) s
  keeps_out : {s : State S} {t r : ℕ} {word : OrderRefusal} {z : S} → refusal k s (Request t r) ≡ None →
      k.service.admitted s.order r t (s.jobs.code t) (Err word) z → Step k s (Event.refused (Request t r) (Order word)) s
  keeps_in : {s : State S} {t r : ℕ} {word : OrderRefusal} {z : S} → refusal k s (Release t) ≡ None → s.jobs.state t ≡ Holding r →
      k.service.passed s.order r (Err word) z → Step k s (Event.refused (Release t) (Order word)) s
  arrives : {s : State S} {t : ℕ} {d : D} → refusal k s (Arrive t d) ≡ None → Step k s (Event.arrived t d) (arrive_state k s t d)
  requests : {s : State S} {t r : ℕ} {z : S} → refusal k s (Request t r) ≡ None →
      k.service.admitted s.order r t (s.jobs.code t) (Ok tt) z → Step k s (Event.requested t r (k.service.count z r t)) (request_state k s t r z)
  releases : {s : State S} {t r : ℕ} {n : Option ℕ} {z : S} → refusal k s (Release t) ≡ None → s.jobs.state t ≡ Holding r →
      k.service.passed s.order r (Ok n) z → Step k s (Event.released t n) (release_state s t r n z)
  finishes : {s : State S} {t : ℕ} → refusal k s (Finish t) ≡ None → Step k s (Event.finished t) (finish_state s t)
  goes_on : {s : State S} → refusal k s Tick ≡ None → Step k s Event.ticked (tick_state k s)

-- every task idle and every number 0
abbrev pub at_start : {S : Type 0} → S → State S
at_start o = record {
  now = 0;
  jobs = record { state = λ t. Idle; code = λ t. 0 };
  resource = λ t. 0;
  serial = λ t. 0;
  told = λ t. 0;
  lost = λ t. 0;
  used = λ r. 0;
  longest = λ r. 0;
  order = o;
}

-- a start that check accepts
pub record Fresh {S D : Type 0} (k : Kernel S D) (s : State S) : Type 0 where
  pub checked : k.facts.checked ≡ true
  pub fit : unfit k.facts.cores k.facts.tasks k.facts.resources (meaning k.service s.order) ≡ None
  pub blank : s ≡ at_start s.order

-- the history (the newest first) leads from the start to the state
pub data Leads {S D : Type 0} (k : Kernel S D) (start : State S) : List (Event D) → State S → Type 0 where
  none : Leads k start [] start
  more : {h : List (Event D)} {s z : State S} {e : Event D} → Leads k start h s → Step k s e z → Leads k start (e ∷ h) z
