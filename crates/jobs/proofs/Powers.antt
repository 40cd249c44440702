-- Sums of powers of two
use Rattle.std.proofs.Common.{◌≡◌, ℕ, zero, suc, ◌+◌, ◌*◌, ◌%◌, ◌^◌, ◌<◌, ◌≤◌, Bool, true, false, cond, sym, refl, ap, ◌∙◌, add-zero, mod-eq_of_lt, one-mul, pow-suc, add-one, arith, pow_mono}
use lib.Pow.{pow-lt}
use Rattle.jobs.specs.Powers.{powers}

pub powers_none : (p : ℕ → Bool) → powers p 0 ≡ 0
unfolding powers
powers_none p = refl

pub powers_more : (p : ℕ → Bool) (n : ℕ) → powers p (n + 1) ≡ powers p n + cond (p n) (2 ^ n) 0
unfolding powers
powers_more p n = rw add-one

-- the sum of the powers below n is below the n-th
powers_below : (p : ℕ → Bool) (n : ℕ) → powers p n < 2 ^ n
unfolding powers
powers_below p zero = omega arith
powers_below p (suc n) =
    let l = powers_below p n in
    let e : 2 ^ suc n ≡ 2 ^ n * 2 = pow-suc 2 n in
    let c : cond (p n) (2 ^ n) 0 ≤ 2 ^ n = elim (p n) as (λ b. cond b (2 ^ n) 0 ≤ 2 ^ n) [ true ↦ omega arith | false ↦ omega arith ] in
    omega (arith, l, e, c)

-- a shifted bit is a power
pub shifted : (n : ℕ) → n < 64 → (1 * 2 ^ n) % 18446744073709551616 ≡ 2 ^ n
shifted n l = ap (λ x. x % 18446744073709551616) (one-mul (2 ^ n)) ∙ mod-eq_of_lt (pow-lt {i = n} {j = 64} l)

-- one power more fits 64 bits
pub sum_fits : (p : ℕ → Bool) (n s : ℕ) → n < 64 → s ≡ powers p n → s + (1 * 2 ^ n) % 18446744073709551616 < 2 ^ 64
sum_fits p n s l is =
    let one = shifted n l in
    let b = powers_below p n in
    let e : 2 ^ suc n ≡ 2 ^ n * 2 = pow-suc 2 n in
    let m : 2 ^ suc n ≤ 2 ^ 64 = pow_mono {i = suc n} {j = 64} l in
    omega (arith, one, is, b, e, m)

-- the loop's step, with the bit or without
pub powers_with : (p : ℕ → Bool) (n s : ℕ) → n < 64 → s ≡ powers p n → p n ≡ true → s + (1 * 2 ^ n) % 18446744073709551616 ≡ powers p (n + 1)
powers_with p n s l e b = sym (powers_more p n ∙ ap (λ c. powers p n + cond c (2 ^ n) 0) b ∙ ap (λ x. x + 2 ^ n) (sym e) ∙ ap (λ x. s + x) (sym (shifted n l)))

pub powers_without : (p : ℕ → Bool) (n s : ℕ) → s ≡ powers p n → p n ≡ false → s ≡ powers p (n + 1)
powers_without p n s e b = e ∙ sym (powers_more p n ∙ ap (λ c. powers p n + cond c (2 ^ n) 0) b ∙ add-zero (powers p n))
