-- a list of calls as one history
use Rattle.std.proofs.Common.{◌≡◌, ℕ, ◌+◌, ◌<◌, ◌≤◌, Bool, true, false, cond, List, [], ◌∷◌, ◌++◌, reverse, length, get_or, take, Ok, Err, Result, sym, refl, ap, ◌∙◌, subst, arith}
use Rattle.std.proofs.lemmas.List.{reverse-append, take_more, take_all, length_push}
use Rattle.std.specs.Result.{is_ok}
use Rattle.orders.specs.declared.order.Order.{Ghosts}
use Rattle.keys.specs.declared.kind.KeyKind
use Rattle.runs.specs.declared.call.Call.{Call}
use Rattle.runs.specs.declared.call.Call.TheVariants.{Arrive, Request, Release, Finish, Tick}
use Rattle.runs.specs.declared.call.Accepted.{Accepted}
use Rattle.runs.specs.declared.refusal.Refusal.{Refusal}
use Rattle.runs.specs.Histories.{Event}
use Rattle.runs.specs.Steps.{Facts, Step, Leads, kernel_of}
use Rattle.longest.specs.Longest.{call_of, calls, accepted}
use Rattle.kernel.specs.declared.kernel.Kernel.{Kernel}
use Rattle.kernel.specs.Views.{facts_of, state_of, noted}
use Rattle.kernel.specs.Promises.{Took, how_many_accepted, Holds, Ran}

-- the call of the event that a call and its answer make is that call
pub noted_call : {D : Type 0} (c : Call D) (a : Result Accepted Refusal) → call_of (noted c a) ≡ c
noted_call (Arrive t d) (Ok a) = refl
noted_call (Arrive t d) (Err e) = refl
noted_call (Request t r) (Ok a) = refl
noted_call (Request t r) (Err e) = refl
noted_call (Release t) (Ok a) = refl
noted_call (Release t) (Err e) = refl
noted_call (Finish t) (Ok a) = refl
noted_call (Finish t) (Err e) = refl
noted_call Tick (Ok a) = refl
noted_call Tick (Err e) = refl

noted_accepted : {D : Type 0} (c : Call D) (a : Result Accepted Refusal) → accepted (noted c a) ≡ is_ok a
noted_accepted (Arrive t d) (Ok a) = refl
noted_accepted (Arrive t d) (Err e) = refl
noted_accepted (Request t r) (Ok a) = refl
noted_accepted (Request t r) (Err e) = refl
noted_accepted (Release t) (Ok a) = refl
noted_accepted (Release t) (Err e) = refl
noted_accepted (Finish t) (Ok a) = refl
noted_accepted (Finish t) (Err e) = refl
noted_accepted Tick (Ok a) = refl
noted_accepted Tick (Err e) = refl

-- the first calls of a list took the kernel k to z, and n of them were accepted
pub record Sofar {S K D Y : Type 0} (o : Ghosts S) (kind : KeyKind.Ghosts K D Y) (k : Kernel S K D Y) (list : List (Call D)) (n : ℕ) (z : Kernel S K D Y) : Type 0 where
  pub history : List (Event D)
  pub listed : calls history ≡ reverse list
  pub counted : n ≡ how_many_accepted history
  pub facts : facts_of z ≡ facts_of k
  pub steps : Leads (kernel_of o kind (facts_of k)) (state_of k) history (state_of z)
  pub few : n ≤ length list

module _ {S K D Y : Type 0} (o : Ghosts S) (kind : KeyKind.Ghosts K D Y) (k : Kernel S K D Y) where
  pub sofar_none : (list : List (Call D)) → Sofar o kind k (take 0 list) 0 k
  sofar_none list = record { history = []; listed = refl; counted = refl; facts = refl; steps = Leads.none; few = omega arith }

  one_most : (b : Bool) → cond b 1 0 ≤ 1
  one_most true = omega arith
  one_most false = omega arith

  -- one call more
  pub sofar_more : (list : List (Call D)) (i n x : ℕ) (mid z : Kernel S K D Y) (c : Call D) (a : Result Accepted Refusal) → i < length list → c ≡ get_or list i c → Sofar o kind k (take i list) n mid → Took o kind mid c a z → x ≡ n + cond (is_ok a) 1 0 → Sofar o kind k (take (i + 1) list) x z
  sofar_more list i n x mid z c a l is s t count =
      let last : take (i + 1) list ≡ take i list ++ (c ∷ []) = take_more list i c l ∙ ap (λ y. take i list ++ (y ∷ [])) (sym is) in
      let long : length (take (i + 1) list) ≡ length (take i list) + 1 = ap length last ∙ length_push (take i list) c in
      record {
        history = noted c a ∷ s.history;
        listed = ap (λ y. y ∷ calls s.history) (noted_call c a) ∙ ap (λ ys. c ∷ ys) s.listed ∙ sym (ap reverse last ∙ reverse-append (take i list) (c ∷ []));
        counted = omega (arith, count, s.counted, ap {B = ℕ} (λ b. cond b 1 0) (noted_accepted c a));
        facts = t.facts ∙ s.facts;
        steps = Leads.more s.steps (subst (λ (f : Facts). Step (kernel_of o kind f) (state_of mid) (noted c a) (state_of z)) s.facts t.step);
        few = omega (arith, count, s.few, long, one_most (is_ok a));
      }

  -- the whole list
  pub sofar_all : (list : List (Call D)) (i n : ℕ) (z : Kernel S K D Y) → ((events : List (Event D)) (y : Kernel S K D Y) → facts_of y ≡ facts_of k → Leads (kernel_of o kind (facts_of k)) (state_of k) events (state_of y) → Holds o kind k events y) → length list ≤ i → Sofar o kind k (take i list) n z → Ran o kind k list n z
  sofar_all list i n z holds l s = record {
    history = s.history;
    listed = s.listed ∙ ap reverse (take_all i list l);
    counted = s.counted;
    facts = s.facts;
    steps = s.steps;
    holds = holds s.history z s.facts s.steps;
  }
