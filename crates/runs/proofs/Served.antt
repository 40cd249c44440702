-- What an accepted admission and an accepted pass come to
use Rattle.std.proofs.Common.{◌≡◌, ℕ, ◌<◌, ◌≤◌, true, false, Some, None, Ok, Option, sym, refl, ◌∙◌, inl, inr}
use Rattle.std.proofs.lemmas.Bool.{cases_Bool, cases_eq, both_ways}
use Rattle.orders.specs.Orders.{Meaning, Rules, Kept, Fixed, Admits, Passes}
use Rattle.orders.proofs.Counts.{tally_none, tally_zero}
use Rattle.orders.proofs.Answered.{pass_ok}

-- a resource that somebody is queued for has a holder
pub some_holder : (v : Meaning) → Rules v → (r t : ℕ) → v.queued r t ≡ true → (h : ℕ) × (v.holder r ≡ Some h)
some_holder v rules r t q = go (v.holder r) refl
  where
    go : (o : Option ℕ) → v.holder r ≡ o → (h : ℕ) × (v.holder r ≡ Some h)
    go None e = absurd (rules.some r t q e)
    go (Some h) e = (h, e)

-- t joined the queue for r with the code c: it holds r if nobody did, and nobody else moved
pub record Entered (v : Meaning) (r t c : ℕ) (w : Meaning) : Type 0 where
  pub fixed : Fixed v w
  pub enters : w.queued r t ≡ true
  pub bears : w.code r t ≡ c
  pub alone : v.holder r ≡ None → w.holder r ≡ Some t
  pub behind : (h : ℕ) → v.holder r ≡ Some h → w.holder r ≡ Some h
  pub others : (p k : ℕ) → (p ≡ r → k ≡ t → ⊥) → Kept v w p k
  pub elsewhere : (p : ℕ) → (p ≡ r → ⊥) → w.holder p ≡ v.holder p

-- the holder of r left its queue, and n holds it now; of the others no count rose, and that of each uncovered one fell
pub record Passed (v : Meaning) (r : ℕ) (n : Option ℕ) (w : Meaning) : Type 0 where
  pub held : (h : ℕ) × (v.holder r ≡ Some h) × (w.queued r h ≡ false)
  pub fixed : Fixed v w
  pub then : w.holder r ≡ n
  pub rest : (k : ℕ) → (v.holder r ≡ Some k → ⊥) → w.queued r k ≡ v.queued r k
  pub code : (k : ℕ) → w.queued r k ≡ true → w.code r k ≡ v.code r k
  pub falls : (k : ℕ) → w.queued r k ≡ true → w.count r k ≤ v.count r k
  pub moves : (k : ℕ) → w.queued r k ≡ true → v.covered r k ≡ false → w.count r k < v.count r k
  pub others : (p k : ℕ) → (p ≡ r → ⊥) → Kept v w p k
  pub elsewhere : (p : ℕ) → (p ≡ r → ⊥) → w.holder p ≡ v.holder p

-- an accepted admission comes to that
pub entered : (v w : Meaning) (r t c : ℕ) → Rules v → Admits v r t c (Ok tt) w → Entered v r t c w
entered v w r t c rules a = let j = a.joined refl in record {
  fixed = a.fixed;
  enters = j.queued;
  bears = j.code;
  alone = λ e. j.alone (tally_none (v.queued r) 64 (λ k l. elim (cases_Bool (v.queued r k)) [ inl q ↦ absurd (rules.some r k q e) | inr q ↦ q ]));
  behind = λ h e. j.behind (λ z. let q = rules.held r h e in both_ways _ (tally_zero (v.queued r) 64 z h (rules.within r h q).1) q) ∙ e;
  others = λ p k ne. elim (cases_eq p r) [ inl x ↦ rw x (j.beside k (ne x)) | inr x ↦ (j.apart p x).1 k ];
  elsewhere = λ p ne. (j.apart p ne).0;
}

-- an accepted pass comes to that
pub passed : (v w : Meaning) (r : ℕ) (n : Option ℕ) → Passes v r (Ok n) w → Passed v r n w
passed v w r n a = let l = a.left n refl in let o = pass_ok v r (w.holder r) n (sym a.told) in record {
  held = go (v.holder r) refl;
  fixed = a.fixed;
  then = o.2;
  rest = l.rest;
  code = l.codes;
  falls = l.falls;
  moves = l.nears;
  others = λ p k ne. (l.apart p ne).1 k;
  elsewhere = λ p ne. (l.apart p ne).0;
}
  where
    go : (h : Option ℕ) → v.holder r ≡ h → (h : ℕ) × (v.holder r ≡ Some h) × (w.queued r h ≡ false)
    go None e = absurd ((pass_ok v r (w.holder r) n (sym a.told)).1 e)
    go (Some h) e = (h, e, (a.left n refl).gone h e)
