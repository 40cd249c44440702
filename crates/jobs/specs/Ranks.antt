-- Ranks over a code function, and the best of a set
use Rattle.std.specs.Prelude.{ℕ, zero, suc, ◌+◌, Bool, cond, ◌&&◌}
use Rattle.orders.specs.Counting.{ahead as rank_ahead}

-- job a is ahead of job b: its code is smaller, or the codes are equal and its task number is smaller
abbrev pub ahead : (ℕ → ℕ) → ℕ → ℕ → Bool
ahead code a b = rank_ahead (code a) a (code b) b

-- the best-ranked of `first` and of all below n that pass the test
unfoldable pub best : (ℕ → ℕ) → (ℕ → Bool) → ℕ → ℕ → ℕ
best code pass first zero = first
best code pass first (suc n) = cond (pass n && ahead code n (best code pass first n)) n (best code pass first n)

-- the sum of g over the numbers below n
unfoldable pub total : (ℕ → ℕ) → ℕ → ℕ
total g zero = 0
total g (suc n) = g n + total g n
