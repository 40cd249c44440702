-- First come, first served is an order of service
use Rattle.std.specs.Prelude.{◌≡◌, ℕ, ◌-◌, Option, Result, slice_index_or}
use Rattle.std.proofs.Common.{arith, sym, ◌∙◌, ap}
use Rattle.std.proofs.lemmas.Bool.Decides.{nat_tests}
use Rattle.orders.specs.declared.refusal.OrderRefusal.{OrderRefusal}
use Rattle.orders.specs.Orders.{Admits, Passes, Fixed}
use Rattle.orders.proofs.Answered.{admit_ok}
use Rattle.first_come.specs.declared.first.FirstCome.{FirstCome}
use Rattle.first_come.specs.Lines.{empty}
use Rattle.first_come.specs.First.{line_of, first_meaning, FirstAdmitted, FirstPassed}
use Rattle.first_come.specs.Lined.{Neat, lined_joined, lined_left}

-- ---- the laws

pub neat_of : (s : FirstCome) → Neat s.places (line_of s)
neat_of s = record {
  few = s.few;
  fits = λ r. grind (arith, s.fits r);
  neat = λ r. grind (arith, (slice_index_or s.lines r empty).neat);
  known = λ r t h. grind (arith, nat_tests);
}

fixed : (s z : FirstCome) → z.width ≡ s.width → z.places ≡ s.places → Fixed (first_meaning s) (first_meaning z)
fixed s z w p = record { width = w; places = p; reach = ap (λ n. n - 1) p }

pub first_admits : (s : FirstCome) (r t c : ℕ) (a : Result (Unit {0}) OrderRefusal) (z : FirstCome) → FirstAdmitted s r t c a z → Admits (first_meaning s) r t c a (first_meaning z)
first_admits s r t c a z h = record {
  told = h.told;
  refused = λ e x. ap first_meaning (h.refused e x);
  fixed = fixed s z h.width h.places;
  joined = λ ok. lined_joined s.width s.places z.width z.places (line_of s) (line_of z) r t c ((neat_of s).neat r) (admit_ok (first_meaning s) r t (sym h.told ∙ ok)).new (h.line ok) h.apart;
}

pub first_passes : (s : FirstCome) (r : ℕ) (a : Result (Option ℕ) OrderRefusal) (z : FirstCome) → FirstPassed s r a z → Passes (first_meaning s) r a (first_meaning z)
first_passes s r a z h = record {
  told = h.told;
  refused = λ e x. ap first_meaning (h.refused e x);
  fixed = fixed s z h.width h.places;
  left = λ next ok. lined_left s.width s.places z.width z.places (line_of s) (line_of z) r ((neat_of s).neat r) (h.line next ok) h.apart;
}
