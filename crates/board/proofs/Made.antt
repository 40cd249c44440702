-- An array made by from_fn, of a closure that changes nothing: that it may be called, and what the array has at each place
use Rattle.std.proofs.Common.{◌≡◌, ℕ, zero, suc, ◌+◌, ◌<◌, List, get_or, sym, refl, subst, inl, inr, arith}
use Rattle.std.proofs.lemmas.Bool.{cases_eq}
use Rattle.std.proofs.lemmas.Fn.{serves_by}
use Rattle.std.specs.Array.{index_steps, IsFromFnResultFrom, IsFromFnResult}
use Rattle.std.specs.Fn.{Takes}
use Rattle.std.specs.Iterator.{CallableAtEachTurn}
use denote.Param.Members.{Mut, Called}

module _ {F B : Type 0} {g : Mut F (ℕ × Unit {0}) B} {f : F} {n : ℕ} where
  -- it may be called at each number below n
  pub callable : ((k : ℕ) → k < n → Takes g f (k, tt)) → ((k : ℕ) (y : B) (q : F) → Called g f (k, tt) y q → q ≡ f) → CallableAtEachTurn (index_steps n) (λ p x q. (y : B) × Called g p (x, tt) y q) (λ p x. Takes g p (x, tt)) 0 f
  callable may same =
      serves_by (λ p x q. (y : _) × Called g p (x, tt) y q) (λ xs q. q ≡ f) (λ xs q x v e h. same x h.0 v (subst (λ p. Called g p (x, tt) h.0 v) e h.1)) (index_steps n) (λ p x. Takes g p (x, tt)) 0 f refl
      (λ xs t q x u y s e. subst (λ p. Takes g p (x, tt)) (sym e) (may x (rw s.1 s.0)))

  made_from : (ys : List B) (P : ℕ → B → Type 0) → ((k : ℕ) (y : B) (q : F) → k < n → Called g f (k, tt) y q → (q ≡ f) × P k y) → (d : B) (i m : ℕ) → i + m ≡ n → IsFromFnResultFrom g f ys i m → (k : ℕ) → k < n → i < suc k → P k (get_or ys k d)
  made_from ys P step d i zero e h k l b = absurd (omega arith)
  made_from ys P step d i (suc m) e h k l b =
      let s = step i h.1 h.0 (omega arith) h.3 in
      elim (cases_eq k i) [
        | inl q ↦ subst (λ j. P j (get_or ys j d)) (sym q) (subst (P i) (sym (h.2.1 d)) s.1)
        | inr ne ↦ made_from ys P step d (i + 1) m (omega arith) (subst (λ p. IsFromFnResultFrom g p ys (i + 1) m) s.0 h.4) k l (omega arith)
      ]

  -- what its call at each number below n gives, the array has there
  pub made : {ys : List B} → IsFromFnResult g f ys n → (P : ℕ → B → Type 0) → ((k : ℕ) (y : B) (q : F) → k < n → Called g f (k, tt) y q → (q ≡ f) × P k y) → (d : B) (k : ℕ) → k < n → P k (get_or ys k d)
  made {ys} h P step d k l = made_from ys P step d 0 n (omega arith) h.each k l (omega arith)
