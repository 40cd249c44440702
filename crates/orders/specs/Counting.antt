-- Counting over the numbers below n, and rank
use Rattle.std.specs.Prelude.{ℕ, zero, suc, ◌+◌, max, Bool, true, cond, ◌&&◌, ◌||◌, ◌==◌, nat_lt}

-- how many numbers below n pass the test
unfoldable pub tally : (ℕ → Bool) → ℕ → ℕ
tally f zero = 0
tally f (suc n) = cond (f n) 1 0 + tally f n

-- the largest g + 1 among the numbers below n that pass the test, or 0
unfoldable pub most : (ℕ → Bool) → (ℕ → ℕ) → ℕ → ℕ
most f g zero = 0
most f g (suc n) = max (cond (f n) (g n + 1) 0) (most f g n)

-- whether every number below n passes the test
unfoldable pub every : (ℕ → Bool) → ℕ → Bool
every f zero = true
every f (suc n) = f n && every f n

-- rank: the task t with the code c is ahead of the task u with the code d
abbrev pub ahead : ℕ → ℕ → ℕ → ℕ → Bool
ahead c t d u = nat_lt c d || (c == d && nat_lt t u)
