-- The gate over first-come
use Rattle.std.specs.Prelude.{◌≡◌, ℕ, true, cond, ◌&&◌, replicate, nat_le}
use Rattle.orders.specs.declared.order.Order.{Ghosts}
use Rattle.first_come.specs.declared.first.FirstCome.{FirstCome}
use Rattle.first_come.specs.Lines.{fresh_line}
use Rattle.first_come.specs.First.{first_meaning, FirstAdmitted, FirstPassed}
use Rattle.gate.specs.declared.gate.Gate.{Gate}
use Rattle.gate.specs.Gates.{gate_meaning, fresh_rows, GateAdmitted, GatePassed}

-- first-come, as an order of service
abbrev pub line_order : Ghosts FirstCome
line_order = record {
  width = λ s. (first_meaning s).width;
  places = λ s. (first_meaning s).places;
  reach = λ s. (first_meaning s).reach;
  queue = λ s. (first_meaning s).queued;
  holder = λ s. (first_meaning s).holder;
  code = λ s. (first_meaning s).code;
  count = λ s. (first_meaning s).count;
  covered = λ s. (first_meaning s).covered;
  admitted = FirstAdmitted;
  passed = FirstPassed;
}

-- the gate over first-come, as an order of service
abbrev pub gated_order : Ghosts (Gate FirstCome)
gated_order = record {
  width = λ s. (gate_meaning line_order s).width;
  places = λ s. (gate_meaning line_order s).places;
  reach = λ s. (gate_meaning line_order s).reach;
  queue = λ s. (gate_meaning line_order s).queued;
  holder = λ s. (gate_meaning line_order s).holder;
  code = λ s. (gate_meaning line_order s).code;
  count = λ s. (gate_meaning line_order s).count;
  covered = λ s. (gate_meaning line_order s).covered;
  admitted = GateAdmitted line_order;
  passed = GatePassed line_order;
}

-- a gate over first-come for m cores with m places, as it is made: nobody is in line or in the gate
pub record Empty (m : ℕ) (g : Gate FirstCome) : Type 0 where
  pub width : g.lower.width ≡ m
  pub places : g.lower.places ≡ cond (nat_le 1 m && nat_le m 16) m 0
  pub lines : g.lower.lines ≡ replicate 32 fresh_line
  pub fresh : g.fresh ≡ true
  pub rows : g.rows ≡ fresh_rows
