-- what an answer tells
use Rattle.std.proofs.Common.{◌≡◌, ℕ, ◌<◌, Bool, true, false, ◌&&◌, eqb, ltb, Some, None, Ok, Err, Option, refl, inl, inr, arith}
use Rattle.std.proofs.lemmas.Bool.{and_parts, cases_Bool, ltb-true, eqb-false, lt-ltb, ne_eqb}
use Rattle.orders.specs.declared.refusal.OrderRefusal.TheVariants.{Unknown, Queued, Full, Empty}
use Rattle.orders.specs.Orders.{Meaning, size, asked, admit_answer, pass_answer, held_answer}

pub asked_some : {A : Type 0} (b : Bool) (x y : A) → Some y ≡ asked b x → (b ≡ true) × (y ≡ x)
asked_some true x y h = (refl, cc)
asked_some false x y h = let z : ◌≡◌ {A = ℕ} 0 1 = cc in absurd (omega arith)

pub record Admitted (v : Meaning) (r t : ℕ) : Type 0 where
  pub r_known : r < 32
  pub t_known : t < 64
  pub new : v.queued r t ≡ false
  pub room : size v r ≡ v.places → ⊥

pub admit_ok : (v : Meaning) (r t : ℕ) → admit_answer v r t ≡ Ok tt → Admitted v r t
admit_ok v r t h =
    elim (cases_Bool (ltb r 32 && ltb t 64)) [
      | inl k ↦ elim (cases_Bool (v.queued r t)) [
        | inl q ↦ let e : Err Queued ≡ Ok tt = rw (k, q) at h in let z : ◌≡◌ {A = ℕ} 0 1 = cc in absurd (omega arith)
        | inr q ↦ elim (cases_Bool (eqb (size v r) v.places)) [
          | inl f ↦ let e : Err Full ≡ Ok tt = rw (k, q, f) at h in let z : ◌≡◌ {A = ℕ} 0 1 = cc in absurd (omega arith)
          | inr f ↦ let p = and_parts (ltb r 32) (ltb t 64) k in record { r_known = ltb-true r 32 p.0; t_known = ltb-true t 64 p.1; new = q; room = eqb-false (size v r) v.places f }
        ]
      ]
      | inr k ↦ let e : Err Unknown ≡ Ok tt = rw k at h in let z : ◌≡◌ {A = ℕ} 0 1 = cc in absurd (omega arith)
    ]

pub admit_fine : (v : Meaning) (r t : ℕ) → Admitted v r t → admit_answer v r t ≡ Ok tt
admit_fine v r t a = rw (lt-ltb r 32 a.r_known, lt-ltb t 64 a.t_known, a.new, ne_eqb (size v r) v.places a.room)

held_ok : (o n next : Option ℕ) → held_answer o n ≡ Ok next → n ≡ next
held_ok None n next h = let z : ◌≡◌ {A = ℕ} 0 1 = cc in absurd (omega arith)
held_ok (Some t) n next h = cc

pub pass_ok : (v : Meaning) (r : ℕ) (n next : Option ℕ) → pass_answer v r n ≡ Ok next → (r < 32) × (v.holder r ≡ None → ⊥) × (n ≡ next)
pass_ok v r n next h =
    elim (cases_Bool (ltb r 32)) [
      | inl k ↦ (
        ltb-true r 32 k,
        (λ none. let e : Err Empty ≡ Ok next = rw (k, none) at h in let z : ◌≡◌ {A = ℕ} 0 1 = cc in omega arith),
        held_ok (v.holder r) n next (rw k at h),
      )
      | inr k ↦ let e : Err Unknown ≡ Ok next = rw k at h in let z : ◌≡◌ {A = ℕ} 0 1 = cc in absurd (omega arith)
    ]

pub pass_fine : (v : Meaning) (r t : ℕ) (n : Option ℕ) → r < 32 → v.holder r ≡ Some t → pass_answer v r n ≡ Ok n
pass_fine v r t n k h = rw (lt-ltb r 32 k, h)
