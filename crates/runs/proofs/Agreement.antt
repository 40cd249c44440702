-- The order queues exactly the jobs that wait or hold
use Rattle.std.proofs.Common.{◌≡◌, ℕ, ◌<◌, Bool, true, false, ◌||◌, ◌≢◌, ◌⊎◌, Some, None, Option, sym, refl, ◌∙◌, inl, inr, arith}
use Rattle.std.proofs.lemmas.Bool.{cases_eq, both_ways}
use Rattle.std.proofs.lemmas.Bool.Decides.{nat_tests}
use Rattle.jobs.specs.declared.state.TaskState.{TaskState}
use Rattle.jobs.specs.declared.state.TaskState.TheVariants.{Idle, Ready, Waiting, Holding}
use Rattle.jobs.specs.Jobs.{Jobs, pending, waits_for, holds_it, Formed}
use Rattle.orders.specs.Orders.{Meaning, Rules}
use Rattle.runs.proofs.Served.{Entered, Passed, some_holder}
use Rattle.runs.specs.Histories.{put, hand}
use Rattle.runs.specs.Steps.{granted}

-- a job waits for r or holds it
abbrev pub uses : ℕ → TaskState → Bool
uses r p = waits_for r p || holds_it r p

-- the order means v: queued are the jobs that wait or hold, each resource is held by the same job, and codes are those of the jobs
pub record Agrees (j : Jobs) (v : Meaning) : Type 0 where
  pub inside : (t : ℕ) → pending (j.state t) ≡ true → t < 64
  pub queues : (r t : ℕ) → v.queued r t ≡ uses r (j.state t)
  pub holds : (r t : ℕ) → v.holder r ≡ Some t → j.state t ≡ Holding r
  pub held : (r t : ℕ) → j.state t ≡ Holding r → v.holder r ≡ Some t
  pub codes : (r t : ℕ) → v.queued r t ≡ true → v.code r t ≡ j.code t

-- then each resource waited for has one holder
pub formed : (j : Jobs) (v : Meaning) → Agrees j v → Rules v → Formed j
formed j v a rules = record {
  inside = a.inside;
  held = λ k r e. let q : v.queued r k ≡ true = a.queues r k ∙ (rw e (grind (arith, nat_tests))) in let h = some_holder v rules r k q in (h.0, a.holds r h.0 h.1);
  single = λ h k r p q. let x = a.held r h p in let y = a.held r k q in cc;
}

-- a job that uses nothing goes on using nothing
pub quiet : (j : Jobs) (v : Meaning) (t : ℕ) (p : TaskState) (code : ℕ → ℕ) → Agrees j v → ((r : ℕ) → uses r (j.state t) ≡ false) → ((r : ℕ) → uses r p ≡ false) →
    t < 64 → ((k : ℕ) → k ≢ t → code k ≡ j.code k) → Agrees (record { state = put j.state t p; code = code }) v
quiet j v t p code a was is lt same = record {
  inside = λ k e. elim (cases_eq k t) [ inl q ↦ omega arith | inr q ↦ a.inside k (grind (arith, nat_tests)) ];
  queues = λ r k. let x = a.queues r k in let y = was r in let z = is r in grind (arith, nat_tests);
  holds = λ r k e. let x = a.holds r k e in let y = was r in grind (arith, nat_tests);
  held = λ r k e. let y = is r in elim (cases_eq k t) [ inl q ↦ absurd (grind (arith, nat_tests)) | inr q ↦ a.held r k (grind (arith, nat_tests)) ];
  codes = λ r k e. let x = a.queues r k in let y = was r in let d : k ≢ t = λ q. grind (arith, nat_tests) in let c = same k d in let z = a.codes r k e in cc;
}

-- an admission: the job holds if the order says so, else it waits
pub admits : (j : Jobs) (v w : Meaning) (t r : ℕ) → Agrees j v → ((q : ℕ) → uses q (j.state t) ≡ false) → t < 64 → Entered v r t (j.code t) w →
    Agrees (record { state = put j.state t (granted (w.holder r) t r); code = j.code }) w
admits j v w t r a was lt en = record {
  inside = λ k e. elim (cases_eq k t) [ inl q ↦ omega arith | inr q ↦ a.inside k (grind (arith, nat_tests)) ];
  queues = λ p k. queues p k (cases_eq p r) (cases_eq k t);
  holds = λ p k e. holds p k e (cases_eq p r) (v.holder r) refl;
  held = λ p k e. held p k e (cases_eq k t) (cases_eq p r);
  codes = λ p k e. codes p k e (cases_eq p r) (cases_eq k t);
}
  where
    queues : (p k : ℕ) → (p ≡ r) ⊎ (p ≡ r → ⊥) → (k ≡ t) ⊎ (k ≡ t → ⊥) → w.queued p k ≡ uses p (put j.state t (granted (w.holder r) t r) k)
    queues p k (inl x) (inl y) = let z = en.enters in grind (arith, nat_tests)
    queues p k (inl x) (inr y) = let z = en.others p k (λ _ f. y f) in let b = a.queues p k in grind (arith, nat_tests)
    queues p k (inr x) (inl y) = let z = en.others p k (λ f _. x f) in let b = a.queues p k in let c = was p in grind (arith, nat_tests)
    queues p k (inr x) (inr y) = let z = en.others p k (λ f _. x f) in let b = a.queues p k in grind (arith, nat_tests)

    holds : (p k : ℕ) → w.holder p ≡ Some k → (p ≡ r) ⊎ (p ≡ r → ⊥) → (o : Option ℕ) → v.holder r ≡ o → put j.state t (granted (w.holder r) t r) k ≡ Holding p
    holds p k e (inl x) None f = let z = en.alone f in grind (arith, nat_tests)
    holds p k e (inl x) (Some h) f = let z = en.behind h f in let b = a.holds r h f in let c = was r in grind (arith, nat_tests)
    holds p k e (inr x) o f = let z = en.elsewhere p x in let g : v.holder p ≡ Some k = cc in let b = a.holds p k g in let c = was p in grind (arith, nat_tests)

    held : (p k : ℕ) → put j.state t (granted (w.holder r) t r) k ≡ Holding p → (k ≡ t) ⊎ (k ≡ t → ⊥) → (p ≡ r) ⊎ (p ≡ r → ⊥) → w.holder p ≡ Some k
    held p k e (inl x) y = grind (arith, nat_tests)
    held p k e (inr x) (inl y) = let g : j.state k ≡ Holding r = grind (arith, nat_tests) in let z = en.behind k (a.held r k g) in cc
    held p k e (inr x) (inr y) = let g : j.state k ≡ Holding p = grind (arith, nat_tests) in let z = en.elsewhere p y in let b = a.held p k g in cc

    codes : (p k : ℕ) → w.queued p k ≡ true → (p ≡ r) ⊎ (p ≡ r → ⊥) → (k ≡ t) ⊎ (k ≡ t → ⊥) → w.code p k ≡ j.code k
    codes p k e (inl x) (inl y) = let z = en.bears in cc
    codes p k e (inl x) (inr y) = let z = en.others p k (λ _ f. y f) in let q : v.queued p k ≡ true = cc in let c = z.code q in let d = a.codes p k q in cc
    codes p k e (inr x) y = let z = en.others p k (λ f _. x f) in let q : v.queued p k ≡ true = cc in let c = z.code q in let d = a.codes p k q in cc

-- a pass: the next holder holds what the job released
pub passes : (j : Jobs) (v w : Meaning) (t r : ℕ) (n : Option ℕ) → Agrees j v → Rules w → j.state t ≡ Holding r → Passed v r n w →
    Agrees (record { state = hand (put j.state t Ready) n (Holding r); code = j.code }) w
passes j v w t r n a rules at pa = record {
  inside = λ k e. inside n k pa.then e;
  queues = λ p k. queues n p k pa.then (cases_eq p r) (cases_eq k t);
  holds = λ p k e. holds n p k pa.then e (cases_eq p r);
  held = λ p k e. held n p k pa.then e (cases_eq k t);
  codes = λ p k e. codes p k e (cases_eq p r);
}
  where
    mine : v.holder r ≡ Some t
    mine = a.held r t at

    gone : w.queued r t ≡ false
    gone = let h = pa.held in let e : h.0 ≡ t = cc mine in rw e at h.2

    stays : (k : ℕ) → k ≢ t → w.queued r k ≡ v.queued r k
    stays k d = pa.rest k (λ e. d (cc mine))

    -- the next holder used the resource
    heir : (u : ℕ) → w.holder r ≡ Some u → (u ≢ t) × (w.queued r u ≡ true) × (uses r (j.state u) ≡ true)
    heir u e = let q = rules.held r u e in
        let d : u ≢ t = λ f. both_ways (w.queued r t) gone (rw f at q) in
        (d, q, sym (a.queues r u) ∙ (sym (stays u d) ∙ q))

    one_use : (p : ℕ) (x : TaskState) → uses r x ≡ true → p ≢ r → uses p x ≡ false
    one_use p Idle e d = refl
    one_use p Ready e d = refl
    one_use p (Waiting q) e d = grind (arith, nat_tests)
    one_use p (Holding q) e d = grind (arith, nat_tests)

    inside : (n : Option ℕ) (k : ℕ) → w.holder r ≡ n → pending (hand (put j.state t Ready) n (Holding r) k) ≡ true → k < 64
    inside None k f e = elim (cases_eq k t) [ inl q ↦ a.inside k (rw (q, at)) | inr q ↦ a.inside k (grind (arith, nat_tests)) ]
    inside (Some u) k f e = elim (cases_eq k u) [ inl q ↦ rw q (rules.within r u (heir u f).1).1 | inr d ↦ elim (cases_eq k t) [ inl q ↦ a.inside k (rw (q, at)) | inr q ↦ a.inside k (grind (arith, nat_tests)) ] ]

    queues : (n : Option ℕ) (p k : ℕ) → w.holder r ≡ n → (p ≡ r) ⊎ (p ≡ r → ⊥) → (k ≡ t) ⊎ (k ≡ t → ⊥) → w.queued p k ≡ uses p (hand (put j.state t Ready) n (Holding r) k)
    queues None p k f (inl x) (inl y) = let z = gone in grind (arith, nat_tests)
    queues None p k f (inl x) (inr y) = let z = stays k y in let b = a.queues p k in grind (arith, nat_tests)
    queues None p k f (inr x) y = let z = pa.others p k x in let b = a.queues p k in grind (arith, nat_tests)
    queues (Some u) p k f (inl x) (inl y) = let z = gone in let i = heir u f in grind (arith, nat_tests)
    queues (Some u) p k f (inl x) (inr y) = let z = stays k y in let b = a.queues p k in let i = heir u f in grind (arith, nat_tests)
    queues (Some u) p k f (inr x) y = let z = pa.others p k x in let b = a.queues p k in let i = one_use p _ (heir u f).2 x in grind (arith, nat_tests)

    holds : (n : Option ℕ) (p k : ℕ) → w.holder r ≡ n → w.holder p ≡ Some k → (p ≡ r) ⊎ (p ≡ r → ⊥) → hand (put j.state t Ready) n (Holding r) k ≡ Holding p
    holds None p k f e (inl x) = absurd (let z : None ≡ Some k = cc in grind arith)
    holds None p k f e (inr x) = let g : v.holder p ≡ Some k = cc (pa.elsewhere p x) in let b = a.holds p k g in grind (arith, nat_tests)
    holds (Some u) p k f e (inl x) = let y : u ≡ k = cc in grind (arith, nat_tests)
    holds (Some u) p k f e (inr x) = let g : v.holder p ≡ Some k = cc (pa.elsewhere p x) in let b = a.holds p k g in let i = one_use p _ (heir u f).2 x in grind (arith, nat_tests)

    still : (p k : ℕ) → j.state k ≡ Holding p → k ≢ t → w.holder p ≡ Some k
    still p k e d = let b = a.held p k e in let ne : p ≢ r = λ x. d (let m = mine in cc) in pa.elsewhere p ne ∙ b

    held : (n : Option ℕ) (p k : ℕ) → w.holder r ≡ n → hand (put j.state t Ready) n (Holding r) k ≡ Holding p → (k ≡ t) ⊎ (k ≡ t → ⊥) → w.holder p ≡ Some k
    held None p k f e (inl x) = absurd (grind (arith, nat_tests))
    held None p k f e (inr x) = still p k (grind (arith, nat_tests)) x
    held (Some u) p k f e (inl x) = let i = heir u f in absurd (grind (arith, nat_tests))
    held (Some u) p k f e (inr x) = elim (cases_eq k u) [ inl q ↦ let y : r ≡ p = grind (arith, nat_tests) in cc | inr q ↦ still p k (grind (arith, nat_tests)) x ]

    codes : (p k : ℕ) → w.queued p k ≡ true → (p ≡ r) ⊎ (p ≡ r → ⊥) → w.code p k ≡ j.code k
    codes p k e (inl x) = let e' : w.queued r k ≡ true = cc in let d : k ≢ t = λ q. both_ways (w.queued r t) gone (rw q at e') in
        let c = pa.code k e' in let b = a.codes r k (sym (stays k d) ∙ e') in cc
    codes p k e (inr x) = let z = pa.others p k x in let q : v.queued p k ≡ true = cc in let c = z.code q in let d = a.codes p k q in cc
