-- What first come, first served means, and what its two calls do
use Rattle.std.specs.Prelude.{◌≡◌, ℕ, ◌-◌, false, cond, List, [], ◌∷◌, ◌++◌, drop, Ok, Err, Option, Result, ◌≢◌, nat_lt, slice_index_or}
use Rattle.orders.specs.declared.refusal.OrderRefusal.{OrderRefusal}
use Rattle.orders.specs.Orders.{Meaning, admit_answer, pass_answer}
use Rattle.first_come.specs.declared.line.Entry.{Entry}
use Rattle.first_come.specs.declared.first.FirstCome.{FirstCome}
use Rattle.first_come.specs.Entries.{has, place, code_of, leader}
use Rattle.first_come.specs.Lines.{empty, waiting}

-- what lines for m cores with p places mean: the first in line holds, a count is a place in line, nobody is covered
abbrev pub lined : ℕ → ℕ → (ℕ → List Entry) → Meaning
lined m p q = record {
  width = m;
  places = p;
  reach = p - 1;
  queued = λ r t. has t (q r);
  holder = λ r. leader (q r);
  code = λ r t. code_of t (q r);
  count = λ r t. place t (q r);
  covered = λ r t. false;
}

-- the entries in line for the resource r, none for a resource above 31
abbrev pub line_of : FirstCome → ℕ → List Entry
line_of s r = cond (nat_lt r 32) (waiting (slice_index_or s.lines r empty)) []

-- what a value of the order means
abbrev pub first_meaning : FirstCome → Meaning
first_meaning s = lined s.width s.places (line_of s)

-- an admission: refused, it leaves the same value; else the newcomer goes to the end of the line; no other line changes
pub record FirstAdmitted (s : FirstCome) (r t c : ℕ) (a : Result (Unit {0}) OrderRefusal) (z : FirstCome) : Type 0 where
  pub told : a ≡ admit_answer (first_meaning s) r t
  pub refused : (e : OrderRefusal) → a ≡ Err e → z ≡ s
  pub width : z.width ≡ s.width
  pub places : z.places ≡ s.places
  pub line : a ≡ Ok tt → line_of z r ≡ line_of s r ++ (record { task = t; code = c } ∷ [])
  pub apart : (q : ℕ) → (q ≢ r) → line_of z q ≡ line_of s q

-- a pass: refused, it leaves the same value; else the first leaves the line; no other line changes
pub record FirstPassed (s : FirstCome) (r : ℕ) (a : Result (Option ℕ) OrderRefusal) (z : FirstCome) : Type 0 where
  pub told : a ≡ pass_answer (first_meaning s) r (leader (line_of z r))
  pub refused : (e : OrderRefusal) → a ≡ Err e → z ≡ s
  pub width : z.width ≡ s.width
  pub places : z.places ≡ s.places
  pub line : (next : Option ℕ) → a ≡ Ok next → line_of z r ≡ drop 1 (line_of s r)
  pub apart : (q : ℕ) → (q ≢ r) → line_of z q ≡ line_of s q
