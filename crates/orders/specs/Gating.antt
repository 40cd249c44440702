-- What a gate before an order of service means, by what the order below means
use Rattle.std.specs.Prelude.{ℕ, ◌+◌, ◌*◌, Bool, false, cond, not, ◌&&◌, ◌||◌, is_some, None, ◌==◌, nat_le}
use Rattle.orders.specs.Counting.{most, every, ahead}
use Rattle.orders.specs.Orders.{Meaning, size}

-- the order below is one that a gate can stand before: 1 to 16 cores, exactly as many places, a reach that fits
abbrev pub fit : Meaning → Bool
fit v = nat_le 1 v.width && (nat_le v.width 16 && (v.places == v.width && nat_le (2 * v.reach + 1) 65535))

-- nobody is queued for any resource
abbrev pub idle : Meaning → Bool
idle v = every (λ r. not (is_some (v.holder r))) 32

-- t waits in the gate for r: it is marked, as many as the width are queued below, and t is not among them
abbrev pub inside : Meaning → (ℕ → ℕ → Bool) → ℕ → ℕ → Bool
inside v f r t = f r t && (size v r == v.width && not (v.queued r t))

-- u is queued below, and not ahead of t with the code c
abbrev pub against : Meaning → ℕ → ℕ → ℕ → ℕ → Bool
against v r c t u = v.queued r u && not (ahead (v.code r u) u c t)

-- each task below is ahead of t with the code c
abbrev pub behind : Meaning → ℕ → ℕ → ℕ → Bool
behind v r c t = every (λ u. not (v.queued r u) || ahead (v.code r u) u c t) 64

-- of those below who are not ahead of t with the code c, the greatest count and 1 more; 0 if there are none
abbrev pub delay : Meaning → ℕ → ℕ → ℕ → ℕ
delay v r c t = most (against v r c t) (v.count r) 64

-- an open gate over an order that means v, with the marks f and the codes k
abbrev pub gated : Meaning → (ℕ → ℕ → Bool) → (ℕ → ℕ → ℕ) → Meaning
gated v f k = record {
  width = v.width;
  places = 64;
  reach = 2 * v.reach + 1;
  queued = λ r t. v.queued r t || inside v f r t;
  holder = v.holder;
  code = λ r t. cond (v.queued r t) (v.code r t) (k r t);
  count = λ r t. cond (v.queued r t) (v.count r t) (delay v r (k r t) t + v.reach);
  covered = λ r t. not (v.queued r t) && behind v r (k r t) t;
}

-- a closed gate: nobody is queued, and nobody can be
abbrev pub shut : ℕ → Meaning
shut m = record {
  width = m;
  places = 0;
  reach = 0;
  queued = λ r t. false;
  holder = λ r. None;
  code = λ r t. 0;
  count = λ r t. 0;
  covered = λ r t. false;
}
