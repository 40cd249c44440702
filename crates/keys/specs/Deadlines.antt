-- The deadline kind
use Rattle.std.specs.Prelude.{ℕ, ◌+◌, ◌<◌, Bool, ◌&&◌, nat_le}

-- a relative deadline is 1 to 4,294,967,295 ticks
abbrev pub deadline_ranged : ℕ → Bool
deadline_ranged d = nat_le 1 d && nat_le d 4294967295

-- the tick at which a job with the relative deadline d is due, if it arrives at the tick n
abbrev pub due : ℕ → ℕ → ℕ
due d n = n + d

-- a job that is due sooner is ahead
abbrev pub sooner : ℕ → ℕ → Type 0
sooner a b = a < b

-- the code is the due tick itself
abbrev pub due_code : ℕ → ℕ
due_code a = a
