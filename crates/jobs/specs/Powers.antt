-- Sums of powers of two
use Rattle.std.specs.Prelude.{ℕ, zero, suc, ◌+◌, ◌^◌, Bool, cond}

-- the sum of 2^t over the t below n that pass
unfoldable pub powers : (ℕ → Bool) → ℕ → ℕ
powers p zero = 0
powers p (suc n) = powers p n + cond (p n) (2 ^ n) 0
