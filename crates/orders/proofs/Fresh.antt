-- what is new: an order where nobody is, and a list of equal elements
use Rattle.std.proofs.Common.{◌≡◌, ℕ, zero, suc, true, false, not, get_or, replicate, is_some, Some, None, Option, refl, inl, inr}
use Rattle.std.proofs.lemmas.Bool.{cases_Bool, not-true, true≢false}
use Rattle.orders.specs.Orders.{Meaning, Rules}
use Rattle.orders.specs.Gating.{idle}
use Rattle.orders.proofs.Counts.{every_at}

-- nobody is queued in an idle order
pub nobody : (v : Meaning) → Rules v → idle v ≡ true → (r t : ℕ) → v.queued r t ≡ false
nobody v rules e r t = elim (cases_Bool (v.queued r t)) [
  | inl q ↦ absurd (rules.some r t q (held_none (v.holder r) (not-true _ (every_at (λ p. not (is_some (v.holder p))) 32 e r (rules.within r t q).0))))
  | inr q ↦ q
]
  where
    held_none : (o : Option ℕ) → is_some o ≡ false → o ≡ None
    held_none None e = refl
    held_none (Some t) e = absurd (true≢false e)

-- a list of equal elements, read with such an element as the default
pub fresh : {X : Type 0} (n : ℕ) (x d : X) → x ≡ d → (k : ℕ) → get_or (replicate n x) k d ≡ d
fresh zero x d e k = refl
fresh (suc n) x d e zero = e
fresh (suc n) x d e (suc k) = fresh n x d e k
