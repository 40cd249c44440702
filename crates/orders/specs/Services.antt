-- An order of service as a whole: the ghost members of an implementation, and its laws
use Rattle.std.specs.Prelude.{◌≡◌, ℕ, Err, Option, Result}
use Rattle.orders.specs.declared.refusal.OrderRefusal.{OrderRefusal}
use Rattle.orders.specs.declared.order.Order.{Ghosts}
use Rattle.orders.specs.Orders.{Meaning, means, Rules, Admits, Passes}

-- what a value of an order means
abbrev pub meaning : {S : Type 0} → Ghosts S → S → Meaning
meaning o s = means (o.width s) (o.places s) (o.reach s) (o.queue s) (o.holder s) (o.code s) (o.count s) (o.covered s)

-- what the laws of an order come to
pub record Lawful {S : Type 0} (o : Ghosts S) : Type 0 where
  pub rules : (s : S) → Rules (meaning o s)
  pub admitting : (s : S) (r t c : ℕ) (a : Result (Unit {0}) OrderRefusal) (z : S) → o.admitted s r t c a z → Admits (meaning o s) r t c a (meaning o z)
  pub passing : (s : S) (r : ℕ) (a : Result (Option ℕ) OrderRefusal) (z : S) → o.passed s r a z → Passes (meaning o s) r a (meaning o z)
  pub unadmitted : (s : S) (r t c : ℕ) (e : OrderRefusal) (z : S) → o.admitted s r t c (Err e) z → z ≡ s
  pub unpassed : (s : S) (r : ℕ) (e : OrderRefusal) (z : S) → o.passed s r (Err e) z → z ≡ s
