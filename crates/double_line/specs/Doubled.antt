-- A line that tells twice the place as the count
use Rattle.std.specs.Prelude.{ℕ, ◌*◌, Option, Result}
use Rattle.orders.specs.declared.refusal.OrderRefusal.{OrderRefusal}
use Rattle.orders.specs.Orders.{Meaning}
use Rattle.first_come.specs.First.{first_meaning, FirstAdmitted, FirstPassed}
use Rattle.double_line.specs.declared.double.DoubleLine.{DoubleLine}

-- an order with every count and the reach doubled
abbrev pub doubled : Meaning → Meaning
doubled v = record {
  width = v.width;
  places = v.places;
  reach = 2 * v.reach;
  queued = v.queued;
  holder = v.holder;
  code = v.code;
  count = λ r t. 2 * v.count r t;
  covered = v.covered;
}

-- what a value means
abbrev pub double_meaning : DoubleLine → Meaning
double_meaning s = doubled (first_meaning s.line)

-- its calls are those of the line
abbrev pub DoubleAdmitted : DoubleLine → ℕ → ℕ → ℕ → Result (Unit {0}) OrderRefusal → DoubleLine → Type 0
DoubleAdmitted s r t c a z = FirstAdmitted s.line r t c a z.line

abbrev pub DoublePassed : DoubleLine → ℕ → Result (Option ℕ) OrderRefusal → DoubleLine → Type 0
DoublePassed s r a z = FirstPassed s.line r a z.line
