-- The gate before an order of service
use Rattle.std.specs.Prelude.{◌≡◌, ℕ, ◌<◌, Bool, true, false, cond, ◌&&◌, List, [], get_or, replicate, is_some, unwrap_or, Some, None, Ok, Err, Option, Result, ◌≢◌, nat_lt, slice_index, slice_index_or}
use Rattle.orders.specs.declared.rank.Rank.{Rank}
use Rattle.orders.specs.declared.refusal.OrderRefusal.{OrderRefusal}
use Rattle.orders.specs.declared.order.Order.{Ghosts}
use Rattle.orders.specs.Counting.{ahead}
use Rattle.orders.specs.Orders.{Meaning, size, admit_answer, pass_answer}
use Rattle.orders.specs.Services.{meaning}
use Rattle.orders.specs.Gating.{fit, inside, gated, shut}
use Rattle.gate.specs.declared.row.Row.{Row}
use Rattle.gate.specs.declared.gate.Gate.{Gate}

-- the row of a resource that the gate does not have
abbrev pub no_row : Row
no_row = record { waits = []; codes = [] }

-- the row of a new gate: nobody waits
abbrev pub fresh_row : Row
fresh_row = record { waits = replicate 64 false; codes = replicate 64 0 }

-- the rows of a new gate
abbrev pub fresh_rows : List Row
fresh_rows = replicate 32 fresh_row

-- the row next is row, but that t waits with the code o or, where that is none, waits no
-- more and keeps its code
pub record Put (row : Row) (t : ℕ) (o : Option ℕ) (next : Row) : Type 0 where
  pub mark : slice_index_or next.waits t false ≡ is_some o
  pub code : slice_index next.codes t ≡ unwrap_or o (slice_index row.codes t)
  pub marks : (u : ℕ) → (u ≢ t) → slice_index_or next.waits u false ≡ slice_index_or row.waits u false
  pub codes : (u : ℕ) → (u ≢ t) → slice_index next.codes u ≡ slice_index row.codes u

-- t is marked in the row of r
abbrev pub marked : List Row → ℕ → ℕ → Bool
marked rows r t = nat_lt r 32 && (nat_lt t 64 && slice_index_or (get_or rows r no_row).waits t false)

-- the code that the row of r has for t
abbrev pub noted : List Row → ℕ → ℕ → ℕ
noted rows r t = slice_index (get_or rows r no_row).codes t

-- the rank of a task t with the code c
abbrev pub ranked : ℕ → ℕ → Rank
ranked c t = record { code = c; task = t }

-- what a gate means, open or closed
abbrev pub gate_meaning : {L : Type 0} → Ghosts L → Gate L → Meaning
gate_meaning o s = cond (s.fresh && fit (meaning o s.lower)) (gated (meaning o s.lower) (marked s.rows) (noted s.rows)) (shut (meaning o s.lower).width)

-- t waits in the gate for r, and not below
abbrev pub in_gate : {L : Type 0} → Ghosts L → Gate L → ℕ → ℕ → Bool
in_gate o s r t = (s.fresh && fit (meaning o s.lower)) && inside (meaning o s.lower) (marked s.rows) r t

-- t entered the row of r with the code c
pub record Entered (rows : List Row) (r t c : ℕ) (next : List Row) : Type 0 where
  pub mark : marked next r t ≡ true
  pub code : noted next r t ≡ c
  pub marks : (q u : ℕ) → (q ≡ r → u ≢ t) → marked next q u ≡ marked rows q u
  pub codes : (q u : ℕ) → (q ≡ r → u ≢ t) → noted next q u ≡ noted rows q u

-- the rows but that of r stay
pub record Beside (rows : List Row) (r : ℕ) (next : List Row) : Type 0 where
  pub marks : (q u : ℕ) → (q ≢ r) → marked next q u ≡ marked rows q u
  pub codes : (q u : ℕ) → (q ≢ r) → noted next q u ≡ noted rows q u

-- b is the best-ranked among the tasks below n that wait in the gate for r; none where nobody waits
abbrev pub Best : Meaning → List Row → ℕ → ℕ → Option ℕ → Type 0
Best v rows r n None = (u : ℕ) → u < n → inside v (marked rows) r u ≡ false
Best v rows r n (Some b) = (b < n) × (inside v (marked rows) r b ≡ true) × ((u : ℕ) → u < n → inside v (marked rows) r u ≡ true → ahead (noted rows r u) u (noted rows r b) b ≡ false)

module _ {L : Type 0} (o : Ghosts L) where
  -- an admission: a task goes below while fewer than the width are queued there, else into the gate
  pub record GateAdmitted (s : Gate L) (r t c : ℕ) (a : Result (Unit {0}) OrderRefusal) (z : Gate L) : Type 0 where
    pub told : a ≡ admit_answer (gate_meaning o s) r t
    pub refused : (e : OrderRefusal) → a ≡ Err e → z ≡ s
    pub same : z.fresh ≡ s.fresh
    pub below : a ≡ Ok tt → size (meaning o s.lower) r < o.width s.lower → o.admitted s.lower r t c a z.lower × Beside s.rows r z.rows × ((u : ℕ) → marked z.rows r u ≡ false)
    pub gate : a ≡ Ok tt → size (meaning o s.lower) r ≡ o.width s.lower → (z.lower ≡ s.lower) × Entered s.rows r t c z.rows

  -- the best-ranked task b of the row of r is admitted below, where the pass left mid; the old holder's mark goes too
  pub record Moved (s : Gate L) (mid : L) (r b : ℕ) (z : Gate L) : Type 0 where
    pub waits : inside (meaning o s.lower) (marked s.rows) r b ≡ true
    pub best : (u : ℕ) → inside (meaning o s.lower) (marked s.rows) r u ≡ true → ahead (noted s.rows r u) u (noted s.rows r b) b ≡ false
    pub answer : Result (Unit {0}) OrderRefusal
    pub joins : o.admitted mid r b (noted s.rows r b) answer z.lower
    pub left : (u : ℕ) → o.holder s.lower r ≡ Some u → marked z.rows r u ≡ false
    pub taken : marked z.rows r b ≡ false
    pub marks : (u : ℕ) → (o.holder s.lower r ≢ Some u) → (u ≢ b) → marked z.rows r u ≡ marked s.rows r u
    pub codes : (u : ℕ) → noted z.rows r u ≡ noted s.rows r u

  -- after the pass below left mid: nobody waited in the gate, or the best-ranked task moved
  pub data Moves (s : Gate L) (mid : L) (r : ℕ) (z : Gate L) : Type 0 where
    nobody : ((u : ℕ) → inside (meaning o s.lower) (marked s.rows) r u ≡ false) → z.lower ≡ mid → ((u : ℕ) → marked z.rows r u ≡ true → marked s.rows r u ≡ true) → Moves s mid r z
    moved : {b : ℕ} → Moved s mid r b z → Moves s mid r z

  -- a pass: first the order below passes, then the best-ranked task of the row goes below
  pub record GatePassed (s : Gate L) (r : ℕ) (a : Result (Option ℕ) OrderRefusal) (z : Gate L) : Type 0 where
    pub told : a ≡ pass_answer (gate_meaning o s) r ((gate_meaning o z).holder r)
    pub refused : (e : OrderRefusal) → a ≡ Err e → z ≡ s
    pub same : z.fresh ≡ s.fresh
    pub left : (n : Option ℕ) → a ≡ Ok n → (mid : L) × (b : Result (Option ℕ) OrderRefusal) × o.passed s.lower r b mid × Moves s mid r z × Beside s.rows r z.rows
