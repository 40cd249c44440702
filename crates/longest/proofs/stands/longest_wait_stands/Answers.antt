use Rattle.std.proofs.Common.{true, arith}
use Rattle.longest.proofs.Made.{made_fresh, fresh_reach}
use Rattle.longest.proofs.Whole.{outcome}
use Rattle.longest.proofs.stands.longest_wait_stands.Goals as goal

pub returns : goal.returns
returns g c =
    let kind = g.K.KeyKind in
    record {
      longest = λ m n r d o s h low high wide top any few ranged new leads listed.
          outcome kind m n r d low high wide top any few ranged o new
          (λ h s l. c.guarantee_stands.ensures (record { checked = true; cores = m; tasks = n; resources = r }) _ s h (made_fresh m o low high new kind n r (omega arith) top any few) l)
          h s leads listed;
      fresh = λ m n r o low high one top any few new. made_fresh m o low high new kind n r one top any few;
      reach = fresh_reach kind;
      told = λ f start s h new leads t. omega (arith, (c.guarantee_stands.ensures f start s h new leads).reached t, fresh_reach kind f start new);
    }
