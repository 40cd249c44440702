-- an order stays one when its counts and its reach are doubled
use Rattle.std.specs.Prelude.{◌≡◌, ℕ, ◌*◌, ◌≤◌, Option, Result}
use Rattle.std.proofs.Common.{arith, ap}
use Rattle.orders.specs.declared.refusal.OrderRefusal.{OrderRefusal}
use Rattle.orders.specs.Orders.{Meaning, Rules, Kept, Fixed, Admits, Passes}
use Rattle.double_line.specs.declared.double.DoubleLine.{DoubleLine}
use Rattle.double_line.specs.Doubled.{doubled}

pub doubled_rules : (v : Meaning) → Rules v → 2 * v.reach ≤ 65535 → Rules (doubled v)
doubled_rules v rules small = record {
  within = rules.within;
  room = rules.room;
  small = small;
  held = rules.held;
  some = rules.some;
  first = λ r t h. let e = rules.first r t h in omega arith;
  later = λ r t h c w. let e = rules.later r t h c w in omega arith;
  cover = rules.cover;
  bounded = λ r t h. let e = rules.bounded r t h in omega arith;
}

kept : (v w : Meaning) (r t : ℕ) → Kept v w r t → Kept (doubled v) (doubled w) r t
kept v w r t k = record { queued = k.queued; code = k.code; count = λ h. ap (λ n. 2 * n) (k.count h); covered = k.covered }

fixed : (v w : Meaning) → Fixed v w → Fixed (doubled v) (doubled w)
fixed v w f = record { width = f.width; places = f.places; reach = ap (λ n. 2 * n) f.reach }

pub doubled_admits : (v : Meaning) (r t c : ℕ) (a : Result (Unit {0}) OrderRefusal) (w : Meaning) → Admits v r t c a w → Admits (doubled v) r t c a (doubled w)
doubled_admits v r t c a w h = record {
  told = h.told;
  refused = λ e x. ap doubled (h.refused e x);
  fixed = fixed v w h.fixed;
  joined = λ x. let j = h.joined x in record {
    queued = j.queued;
    code = j.code;
    alone = j.alone;
    behind = j.behind;
    beside = λ u ne. kept v w r u (j.beside u ne);
    apart = λ q ne. ((j.apart q ne).0, λ u. kept v w q u ((j.apart q ne).1 u));
  };
}

pub doubled_passes : (v : Meaning) (r : ℕ) (a : Result (Option ℕ) OrderRefusal) (w : Meaning) → Passes v r a w → Passes (doubled v) r a (doubled w)
doubled_passes v r a w h = record {
  told = h.told;
  refused = λ e x. ap doubled (h.refused e x);
  fixed = fixed v w h.fixed;
  left = λ n x. let l = h.left n x in record {
    gone = l.gone;
    rest = l.rest;
    codes = l.codes;
    falls = λ t q. let e = l.falls t q in omega arith;
    nears = λ t q c. let e = l.nears t q c in omega arith;
    apart = λ q ne. ((l.apart q ne).0, λ u. kept v w q u ((l.apart q ne).1 u));
  };
}

-- the same line makes the same value
pub same : (s z : DoubleLine) → z.line ≡ s.line → z ≡ s
same s z e = λ i. record { line = e i }
