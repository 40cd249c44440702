-- What a pattern of bytes and a rest takes, place by place
use Rattle.std.specs.Prelude.{ℕ, ◌+◌, ◌-◌, Bool, true, cond, ◌&&◌, List, [], ◌∷◌, length, take, drop, Some, None, Option, ◌==◌, nat_le, slice_index}

-- the bytes ps stand in l from the place i on
abbrev pub stand_at : ℕ → List ℕ → List ℕ → Bool
stand_at i [] l = true
stand_at i (p ∷ ps) l = slice_index l i == p && stand_at (i + 1) ps l

-- what follows ps in l, where l begins with ps
abbrev pub after_at : List ℕ → List ℕ → Option (List ℕ)
after_at ps l = cond (nat_le (length ps) (length l) && stand_at 0 ps l) (Some (take (length l - length ps) (drop (length ps) l))) None
