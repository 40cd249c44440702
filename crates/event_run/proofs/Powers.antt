-- sums of powers
use Rattle.std.specs.Option.{MatchOption}
use Rattle.std.proofs.Common.{◌≡◌, ℕ, zero, suc, ◌<◌, Bool, false, cond, List, get_or, Option, Some, None, sym, refl, ap, ◌∙◌, arith}
use Rattle.jobs.specs.Jobs.{running}
use Rattle.jobs.specs.Powers.{powers}
use Rattle.kernel.specs.declared.kernel.Kernel.{Kernel}
use Rattle.kernel.specs.Views.{facts_of, state_of, RunningNow}

-- sets that agree below n have the same sum
powers_same : (p q : ℕ → Bool) (n : ℕ) → ((t : ℕ) → t < n → p t ≡ q t) → powers p n ≡ powers q n
unfolding powers
powers_same p q zero same = refl
powers_same p q (suc n) same = let l = powers_same p q n (λ t lt. same t (omega arith)) in rw (l, same n (omega arith))

-- the sum of a kernel's running set, or 0 where it has none
pub running_or : {S K D Y : Type 0} (k : Kernel S K D Y) (set : Option (List Bool)) (s : ℕ) → RunningNow k set → MatchOption set (s ≡ 0) (λ x. s ≡ powers (λ t. get_or x t false) 64) →
    s ≡ cond (facts_of k).checked (powers (running (state_of k).jobs (facts_of k).cores) 64) 0
running_or k None s now e = e ∙ sym (ap (λ b. cond b (powers (running (state_of k).jobs (facts_of k).cores) 64) 0) now)
running_or k (Some set) s now e =
    let p = running (state_of k).jobs (facts_of k).cores in
    e ∙ powers_same (λ t. get_or set t false) p 64 now.1 ∙ sym (ap (λ b. cond b (powers p 64) 0) now.0)
