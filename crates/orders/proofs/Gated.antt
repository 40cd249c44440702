-- an open gate keeps the rules of an order of service
use Rattle.std.proofs.Common.{◌≡◌, ℕ, ◌+◌, ◌-◌, ◌*◌, ◌<◌, ◌≤◌, Bool, true, false, cond, not, ◌&&◌, ◌||◌, eqb, Some, None, sym, refl, ap, ◌∙◌, subst, inl, inr, arith}
use Rattle.std.proofs.lemmas.Bool.{and_parts, or_cases, or_parts, or_left, or_right, cases_eq, cases_Bool, true≢false, eq-eqb, ne_eqb, eqb-true, not-true, not-false, both_ways}
use Rattle.orders.specs.Counting.{tally, ahead}
use Rattle.orders.specs.Orders.{Meaning, Rules, Kept, Joined, Left, size, before}
use Rattle.orders.specs.Gating.{inside, against, behind, delay, gated}
use Rattle.orders.proofs.Counts.{tally_same, tally_le, tally_top, tally_more, tally_less, tally_none, most_at, most_le, most_same, every_same, every_at, every_not, ahead_total, ahead_self}

-- an order below that a gate can stand before
pub record Fit (v : Meaning) : Type 0 where
  pub rules : Rules v
  pub some : 1 ≤ v.width
  pub exact : v.places ≡ v.width
  pub small : 2 * v.reach + 1 ≤ 65535

-- marks stand within the table
abbrev pub Bound : (ℕ → ℕ → Bool) → Type 0
Bound f = (r t : ℕ) → f r t ≡ true → (r < 32) × (t < 64)

pub record Inside (v : Meaning) (f : ℕ → ℕ → Bool) (r t : ℕ) : Type 0 where
  pub mark : f r t ≡ true
  pub full : size v r ≡ v.width
  pub out : v.queued r t ≡ false

pub inside_parts : (v : Meaning) (f : ℕ → ℕ → Bool) (r t : ℕ) → inside v f r t ≡ true → Inside v f r t
inside_parts v f r t h =
    let a = and_parts (f r t) (eqb (size v r) v.width && not (v.queued r t)) h in
    let b = and_parts (eqb (size v r) v.width) (not (v.queued r t)) a.1 in
    record { mark = a.0; full = eqb-true (size v r) v.width b.0; out = not-true (v.queued r t) b.1 }

pub inside_from : (v : Meaning) (f : ℕ → ℕ → Bool) (r t : ℕ) → Inside v f r t → inside v f r t ≡ true
inside_from v f r t i = rw (i.mark, eq-eqb (size v r) v.width i.full, i.out)

pub inside_none : (v : Meaning) (f : ℕ → ℕ → Bool) (r t : ℕ) → size v r < v.width → inside v f r t ≡ false
inside_none v f r t l = rw (ne_eqb (size v r) v.width (λ e. omega arith)) (grind arith)

pub or_never : (b : Bool) → (b || false) ≡ b
or_never b = grind arith

or_second : (a b : Bool) → a ≡ false → (a || b) ≡ true → b ≡ true
or_second true b e h = absurd (true≢false e)
or_second false b e h = h

-- a test whose second part matters only where the first holds
and_same : (a a' b b' : Bool) → a' ≡ a → (a ≡ true → b' ≡ b) → (a' && b') ≡ (a && b)
and_same true a' b b' e h = rw (e, h refl)
and_same false a' b b' e h = rw e

either_same : (a a' b b' : Bool) → a' ≡ a → (a ≡ true → b' ≡ b) → (not a' || b') ≡ (not a || b)
either_same true a' b b' e h = rw (e, h refl)
either_same false a' b b' e h = rw e

cond_same : (a a' : Bool) (x x' y y' : ℕ) → a' ≡ a → (a ≡ true → x' ≡ x) → (a ≡ false → y' ≡ y) → cond a' x' y' ≡ cond a x y
cond_same true a' x x' y y' e h k = rw (e, h refl)
cond_same false a' x x' y y' e h k = rw (e, k refl)

pub delay_most : (v : Meaning) → Rules v → (r c t : ℕ) → delay v r c t ≤ v.reach + 1
delay_most v rules r c t = most_le (against v r c t) (v.count r) 64 (v.reach + 1) (λ u l a. omega (arith, rules.bounded r u (and_parts (v.queued r u) (not (ahead (v.code r u) u c t)) a).0))

module _ (v : Meaning) (ok : Fit v) where
  -- with m places nobody below is covered
  pub bare : (r t : ℕ) → v.queued r t ≡ true → v.covered r t ≡ false
  bare r t q =
      elim (cases_Bool (v.covered r t)) [
        | inr n ↦ n
        | inl y ↦
            let c = v.code r t in
            let self : before v r c t t ≡ false = rw (q, ahead_self c t) in
            let less = tally_less (before v r c t) (v.queued r) t 64 (ok.rules.within r t q).1 self q (λ k l h. (and_parts (v.queued r k) (ahead (v.code r k) k c t) h).0) in
            let cover = ok.rules.cover r t q y in
            let room = ok.rules.room r in
            let e = ok.exact in
            absurd (omega arith)
      ]

  pub full_held : (r : ℕ) → size v r ≡ v.width → v.holder r ≡ None → ⊥
  full_held r e n =
      let z : size v r ≡ 0 = tally_none (v.queued r) 64 (λ k l. elim (cases_Bool (v.queued r k)) [ inr o ↦ o | inl y ↦ absurd (ok.rules.some r k y n) ]) in
      let s = ok.some in
      omega arith

  -- a task in the gate that is not covered has somebody below that is not ahead of it
  pub delayed : (r c t : ℕ) → behind v r c t ≡ false → 1 ≤ delay v r c t
  delayed r c t h =
      let w = every_not (λ u. not (v.queued r u) || ahead (v.code r u) u c t) 64 h in
      let u = w.0 in
      let p = or_parts (not (v.queued r u)) (ahead (v.code r u) u c t) w.2 in
      let g : against v r c t u ≡ true = rw (not-false (v.queued r u) p.0, p.1) in
      let m = most_at (against v r c t) (v.count r) 64 u w.1 g in
      omega arith

  pub gated_rules : (f : ℕ → ℕ → Bool) (k : ℕ → ℕ → ℕ) → Bound f → Rules (gated v f k)
  gated_rules f k bound = record {
    within = λ r t h. elim (or_cases (v.queued r t) (inside v f r t) h) [ inl q ↦ ok.rules.within r t q | inr i ↦ bound r t (inside_parts v f r t i).mark ];
    room = λ r. tally_top ((gated v f k).queued r) 64;
    small = ok.small;
    held = λ r t h. or_left (v.queued r t) (inside v f r t) (ok.rules.held r t h);
    some = λ r t h n. elim (or_cases (v.queued r t) (inside v f r t) h) [ inl q ↦ ok.rules.some r t q n | inr i ↦ full_held r (inside_parts v f r t i).full n ];
    first = λ r t h. rw (ok.rules.held r t h) (ok.rules.first r t h);
    later = λ r t h c w. elim (cases_Bool (v.queued r t)) [
      | inl q ↦ rw q (ok.rules.later r t q (bare r t q) w)
      | inr o ↦ let b : behind v r (k r t) t ≡ false = rw o at c in let d = delayed r (k r t) t b in rw o (omega arith)
    ];
    cover = λ r t h c.
        let p = and_parts (not (v.queued r t)) (behind v r (k r t) t) c in
        let o = not-true (v.queued r t) p.0 in
        let i = inside_parts v f r t (or_second (v.queued r t) (inside v f r t) o h) in
        let m : size v r ≤ tally (before (gated v f k) r (k r t) t) 64 = tally_le (v.queued r) (before (gated v f k) r (k r t) t) 64 (λ u l q.
        let a = every_at (λ u. not (v.queued r u) || ahead (v.code r u) u (k r t) t) 64 p.1 u l in
        let b : ahead (v.code r u) u (k r t) t ≡ true = rw q at a in
        rw (q, b)) in
        rw o (omega (arith, i.full));
    bounded = λ r t h. elim (cases_Bool (v.queued r t)) [
      | inl q ↦ rw q (omega (arith, ok.rules.bounded r t q))
      | inr o ↦
          rw o (omega (arith, delay_most v ok.rules r (k r t) t))
    ];
  }

-- ---- what a step below leaves of the gate

abbrev pub KeptAll : Meaning → Meaning → ℕ → Type 0
KeptAll v w q = (u : ℕ) → Kept v w q u

pub kept_itself : (v : Meaning) (q u : ℕ) → Kept v v q u
kept_itself v q u = record { queued = refl; code = λ h. refl; count = λ h. refl; covered = λ h. refl }

pub kept_size : (v w : Meaning) (q : ℕ) → KeptAll v w q → size w q ≡ size v q
kept_size v w q k = tally_same (v.queued q) (w.queued q) 64 (λ u l. (k u).queued)

module _ (v w : Meaning) (f f' : ℕ → ℕ → Bool) (k k' : ℕ → ℕ → ℕ) (wide : w.width ≡ v.width) (far : w.reach ≡ v.reach) where
  pub kept_gated : (q : ℕ) → KeptAll v w q → (u : ℕ) → f' q u ≡ f q u → k' q u ≡ k q u → Kept (gated v f k) (gated w f' k') q u
  kept_gated q all u m c =
      let e = (all u).queued in
      let same : (x : ℕ) → against w q (k' q u) u x ≡ against v q (k q u) u x = λ x. rw c (and_same (v.queued q x) (w.queued q x) _ _ (all x).queued (λ y. rw ((all x).code y))) in
      record {
        queued = rw (e, kept_size v w q all, wide, m);
        code = λ h. cond_same (v.queued q u) (w.queued q u) (v.code q u) (w.code q u) (k q u) (k' q u) e (all u).code (λ o. c);
        count = λ h. cond_same (v.queued q u) (w.queued q u) (v.count q u) (w.count q u) _ _ e (all u).count
            (λ o. rw (far, most_same (against v q (k q u) u) (against w q (k' q u) u) (v.count q) (w.count q) 64 (λ x l. same x) (λ x l y. (all x).count (and_parts (v.queued q x) _ y).0)));
        covered = λ h. rw (e, c) (ap (λ b. not (v.queued q u) && b) (every_same (λ x. not (v.queued q x) || ahead (v.code q x) x (k q u) u) (λ x. not (w.queued q x) || ahead (w.code q x) x (k q u) u) 64
            (λ x l. either_same (v.queued q x) (w.queued q x) _ _ (all x).queued (λ y. rw ((all x).code y)))));
      }

  -- a task joined below, where there was room
  pub joined_below : (r t c : ℕ) → size v r < v.width → Joined v r t c w → ((u : ℕ) → f' r u ≡ false) → ((q u : ℕ) → (q ≡ r → ⊥) → f' q u ≡ f q u) → ((q u : ℕ) → (q ≡ r → ⊥) → k' q u ≡ k q u) → Joined (gated v f k) r t c (gated w f' k')
  joined_below r t c room j clear marks codes =
      let out : (u : ℕ) → inside v f r u ≡ false = λ u. inside_none v f r u room in
      let s : size (gated v f k) r ≡ size v r = tally_same (v.queued r) ((gated v f k).queued r) 64 (λ u l. rw (out u) (or_never (v.queued r u))) in
      record {
        queued = or_left (w.queued r t) (inside w f' r t) j.queued;
        code = rw j.queued j.code;
        alone = λ z. j.alone (sym s ∙ z);
        behind = λ n. j.behind (λ z. n (s ∙ z));
        beside = λ u ne.
            let b = j.beside u ne in
            let in-v : (gated v f k).queued r u ≡ true → v.queued r u ≡ true = λ h. sym (or_never (v.queued r u)) ∙ (rw (out u) at h) in
            record {
              queued = rw (clear u, out u, b.queued);
              code = λ h. let y = in-v h in rw (b.queued, y) (b.code y);
              count = λ h. let y = in-v h in rw (b.queued, y) (b.count y);
              covered = λ h. let y = in-v h in rw (b.queued, y);
            };
        apart = λ q ne. ((j.apart q ne).0, λ u. kept_gated q (j.apart q ne).1 u (marks q u ne) (codes q u ne));
      }

-- a task entered the gate
pub joined_gate : (v : Meaning) (f f' : ℕ → ℕ → Bool) (k k' : ℕ → ℕ → ℕ) (r t c : ℕ) → 1 ≤ v.width → size v r ≡ v.width → v.queued r t ≡ false → f' r t ≡ true → k' r t ≡ c → ((q u : ℕ) → (q ≡ r → u ≡ t → ⊥) → f' q u ≡ f q u) → ((q u : ℕ) → (q ≡ r → u ≡ t → ⊥) → k' q u ≡ k q u) → Joined (gated v f k) r t c (gated v f' k')
joined_gate v f f' k k' r t c some full out mark code marks codes =
    let in' = inside_from v f' r t (record { mark = mark; full = full; out = out }) in
    let more : size v r ≤ size (gated v f k) r = tally_le (v.queued r) ((gated v f k).queued r) 64 (λ u l q. or_left (v.queued r u) (inside v f r u) q) in
    record {
      queued = or_right (v.queued r t) (inside v f' r t) in';
      code = rw out code;
      alone = λ z. absurd (omega arith);
      behind = λ n. refl;
      beside = λ u ne. kept_gated v v f f' k k' refl refl r (kept_itself v r) u (marks r u (λ _ e. ne e)) (codes r u (λ _ e. ne e));
      apart = λ q ne. (refl, λ u. kept_gated v v f f' k k' refl refl q (kept_itself v q) u (marks q u (λ e _. ne e)) (codes q u (λ e _. ne e)));
    }

-- ---- a pass

pub some_same : (a b : ℕ) → Some a ≡ Some b → a ≡ b
some_same a b e = cc

pub left_size : (v m : Meaning) → Rules v → (r h : ℕ) → v.holder r ≡ Some h → Left v r m → size v r ≡ size m r + 1
left_size v m rules r h held l =
    let q = rules.held r h held in
    tally_more (m.queued r) (v.queued r) h 64 (rules.within r h q).1 (l.gone h held) q (λ u ne. sym (l.rest u (λ e. ne (some_same u h (sym e ∙ held)))))

-- who is queued after was queued before
stayed : (v m : Meaning) (r : ℕ) → Left v r m → (t : ℕ) → m.queued r t ≡ true → v.queued r t ≡ true
stayed v m r l t q = sym (l.rest t (λ e. both_ways (m.queued r t) (l.gone t e) q)) ∙ q

-- nobody waited in the gate
pub left_nobody : (v w : Meaning) (f f' : ℕ → ℕ → Bool) (k k' : ℕ → ℕ → ℕ) → Fit v → w.width ≡ v.width → w.reach ≡ v.reach → (r h : ℕ) → v.holder r ≡ Some h → Left v r w → ((u : ℕ) → inside v f r u ≡ false) → ((q u : ℕ) → (q ≡ r → ⊥) → f' q u ≡ f q u) → ((q u : ℕ) → (q ≡ r → ⊥) → k' q u ≡ k q u) → Left (gated v f k) r (gated w f' k')
left_nobody v w f f' k k' ok wide far r h held l out marks codes =
    let s = left_size v w ok.rules r h held l in
    let room : size w r < w.width = (let a = ok.rules.room r in let b = ok.exact in omega arith) in
    let out' : (u : ℕ) → inside w f' r u ≡ false = λ u. inside_none w f' r u room in
    let in-w : (t : ℕ) → (gated w f' k').queued r t ≡ true → w.queued r t ≡ true = λ t q. sym (or_never (w.queued r t)) ∙ (rw (out' t) at q) in
    record {
      gone = λ t e. rw (out' t, l.gone t e);
      rest = λ t e. rw (out' t, out t, l.rest t e);
      codes = λ t q. let y = in-w t q in rw (y, stayed v w r l t y) (l.codes t y);
      falls = λ t q. let y = in-w t q in rw (y, stayed v w r l t y) (l.falls t y);
      nears = λ t q c. let y = in-w t q in let b = stayed v w r l t y in rw (y, b) (l.nears t y (bare v ok r t b));
      apart = λ q ne. ((l.apart q ne).0, λ u. kept_gated v w f f' k k' wide far q (l.apart q ne).1 u (marks q u ne) (codes q u ne));
    }

kept_chain : (v m w : Meaning) (q u : ℕ) → Kept v m q u → Kept m w q u → Kept v w q u
kept_chain v m w q u a b = record {
  queued = b.queued ∙ a.queued;
  code = λ h. b.code (a.queued ∙ h) ∙ a.code h;
  count = λ h. b.count (a.queued ∙ h) ∙ a.count h;
  covered = λ h. b.covered (a.queued ∙ h) ∙ a.covered h;
}

-- the best of the gate, b, went below: v before, m after the pass below, w at the end
module _ (v m w : Meaning) (f f' : ℕ → ℕ → Bool) (k k' : ℕ → ℕ → ℕ) (ok : Fit v) (rules : Rules w) (wide : w.width ≡ v.width) (far : w.reach ≡ v.reach)
    (r h b : ℕ) (held : v.holder r ≡ Some h) (l : Left v r m) (waits : Inside v f r b) (best : (u : ℕ) → inside v f r u ≡ true → ahead (k r u) u (k r b) b ≡ false)
    (bk : b < 64) (j : Joined m r b (k r b) w) (left : f' r h ≡ false) (marks : (u : ℕ) → (v.holder r ≡ Some u → ⊥) → (u ≡ b → ⊥) → f' r u ≡ f r u) (codes : (u : ℕ) → (v.holder r ≡ Some u → ⊥) → (u ≡ b → ⊥) → k' r u ≡ k r u) where
  fresh : m.queued r b ≡ false
  fresh = l.rest b (λ e. both_ways (v.queued r b) waits.out (ok.rules.held r b e)) ∙ waits.out

  full : size w r ≡ w.width
  full =
      let a = left_size v m ok.rules r h held l in
      let c : size w r ≡ size m r + 1 = tally_more (m.queued r) (w.queued r) b 64 bk fresh j.queued (λ u ne. (j.beside u ne).queued) in
      c ∙ sym a ∙ waits.full ∙ sym wide

  -- below, but for b
  below : (u : ℕ) → (u ≡ b → ⊥) → w.queued r u ≡ true → (m.queued r u ≡ true) × (v.queued r u ≡ true) × (w.code r u ≡ v.code r u) × (w.count r u < v.count r u)
  below u ne q =
      let n = j.beside u ne in
      let y : m.queued r u ≡ true = sym n.queued ∙ q in
      let z = stayed v m r l u y in
      let d = l.nears u y (bare v ok r u z) in
      (y, z, n.code y ∙ l.codes u y, rw (n.count y) d)

  -- who stays outside
  outside : (u : ℕ) → (v.holder r ≡ Some u → ⊥) → (u ≡ b → ⊥) → w.queued r u ≡ v.queued r u
  outside u n ne = (j.beside u ne).queued ∙ l.rest u n

  stays : (u : ℕ) → (v.holder r ≡ Some u → ⊥) → (u ≡ b → ⊥) → inside w f' r u ≡ inside v f r u
  stays u n ne = rw (outside u n ne, marks u n ne, full, eq-eqb w.width w.width refl, waits.full, eq-eqb v.width v.width refl)

  gone_mark : (u : ℕ) → v.holder r ≡ Some u → f' r u ≡ false
  gone_mark u e = subst (λ x. f' r x ≡ false) (some_same h u (sym held ∙ e)) left

  -- a task that waits in the gate after waited there before with its code, and is not b
  pub waited : (t : ℕ) → (w.queued r t ≡ false) → inside w f' r t ≡ true → (t ≡ b → ⊥) × (inside v f r t ≡ true) × (k' r t ≡ k r t)
  waited t o i =
      let ne : t ≡ b → ⊥ = λ e. both_ways (w.queued r t) o (subst (λ x. w.queued r x ≡ true) (sym e) j.queued) in
      let n : v.holder r ≡ Some t → ⊥ = λ e. both_ways (f' r t) (gone_mark t e) (inside_parts w f' r t i).mark in
      (ne, sym (stays t n ne) ∙ i, codes t n ne)

  -- its delay falls
  shorter : (t : ℕ) → (t ≡ b → ⊥) → inside v f r t ≡ true → delay w r (k r t) t ≤ delay v r (k r t) t - 1
  shorter t ne i = most_le (against w r (k r t) t) (w.count r) 64 (delay v r (k r t) t - 1) (λ u lt a.
      let p = and_parts (w.queued r u) (not (ahead (w.code r u) u (k r t) t)) a in
      let un : u ≡ b → ⊥ = λ e.
      (let up : ahead (k r b) b (k r t) t ≡ true = ahead_total (k r t) t (k r b) b ne (best t i) in
      let c : w.code r u ≡ k r b = ap (w.code r) e ∙ j.code in
      let x : ahead (w.code r u) u (k r t) t ≡ true = rw (c, e) up in
      both_ways (ahead (w.code r u) u (k r t) t) (not-true _ p.1) x) in
      let y = below u un p.0 in
      let g : against v r (k r t) t u ≡ true = rw y.1 (rw y.2 at p.1) in
      let s = most_at (against v r (k r t) t) (v.count r) 64 u lt g in
      omega (arith, y.3))

  abbrev Nearer : ℕ → Type 0
  Nearer t = ((gated w f' k').count r t ≤ (gated v f k).count r t) × ((gated v f k).covered r t ≡ false → (gated w f' k').count r t < (gated v f k).count r t)

  nearer_b : Nearer b
  nearer_b =
      let u = rules.bounded r b j.queued in
      let o = waits.out in
      (rw (j.queued, o) (omega arith), λ c. let d = delayed v ok r (k r b) b (rw o at c) in rw (j.queued, o) (omega arith))

  nearer : (t : ℕ) → (gated w f' k').queued r t ≡ true → Nearer t
  nearer t q =
      elim (cases_eq t b) [
        | inl e ↦ subst Nearer (sym e) nearer_b
        | inr ne ↦ elim (cases_Bool (w.queued r t)) [
          | inl y ↦ let d = below t ne y in (rw (y, d.1) (omega (arith, d.3)), λ c. rw (y, d.1) d.3)
          | inr o ↦
              let i = waited t o (or_second (w.queued r t) (inside w f' r t) o q) in
              let v-out = (inside_parts v f r t i.1).out in
              let s = shorter t ne i.1 in
              (rw (o, v-out, i.2, far) (omega arith), λ c. let d = delayed v ok r (k r t) t (rw v-out at c) in rw (o, v-out, i.2, far) (omega arith))
        ]
      ]

  rested : (t : ℕ) → (v.holder r ≡ Some t → ⊥) → (gated w f' k').queued r t ≡ (gated v f k).queued r t
  rested t n =
      elim (cases_eq t b) [
        | inl e ↦ subst (λ x. (gated w f' k').queued r x ≡ (gated v f k).queued r x) (sym e) (or_left (w.queued r b) (inside w f' r b) j.queued ∙ sym (or_right (v.queued r b) (inside v f r b) (inside_from v f r b waits)))
        | inr ne ↦ ap (λ x. x || inside w f' r t) (outside t n ne) ∙ ap (λ x. v.queued r t || x) (stays t n ne)
      ]

  coded : (t : ℕ) → (gated w f' k').queued r t ≡ true → (gated w f' k').code r t ≡ (gated v f k).code r t
  coded t q =
      elim (cases_eq t b) [
        | inl e ↦ subst (λ x. (gated w f' k').code r x ≡ (gated v f k).code r x) (sym e) (rw (j.queued, waits.out) j.code)
        | inr ne ↦ elim (cases_Bool (w.queued r t)) [
          | inl y ↦ let d = below t ne y in rw (y, d.1) d.2
          | inr o ↦
              let i = waited t o (or_second (w.queued r t) (inside w f' r t) o q) in
              rw (o, (inside_parts v f r t i.1).out) i.2
        ]
      ]

  pub left_moved : ((q u : ℕ) → (q ≡ r → ⊥) → f' q u ≡ f q u) → ((q u : ℕ) → (q ≡ r → ⊥) → k' q u ≡ k q u) → Left (gated v f k) r (gated w f' k')
  left_moved others notes = record {
    gone = λ t e.
        (let ne : t ≡ b → ⊥ = λ s. both_ways (v.queued r b) waits.out (subst (λ x. v.queued r x ≡ true) s (ok.rules.held r t e)) in
        let o : w.queued r t ≡ false = (j.beside t ne).queued ∙ l.gone t e in
        rw (o, gone_mark t e));
    rest = rested;
    codes = coded;
    falls = λ t q. (nearer t q).0;
    nears = λ t q c. (nearer t q).1 c;
    apart = λ q ne. ((j.apart q ne).0 ∙ (l.apart q ne).0, λ u. kept_gated v w f f' k k' wide far q (λ x. kept_chain v m w q x ((l.apart q ne).1 x) ((j.apart q ne).1 x)) u (others q u ne) (notes q u ne));
  }
