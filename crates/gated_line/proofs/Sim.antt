-- the gate over first-come at resource 0, as two lists
use Rattle.std.proofs.Common.{◌≡◌, ℕ, ◌+◌, ◌-◌, ◌*◌, ◌<◌, Bool, true, false, cond, not, ◌&&◌, ◌||◌, eqb, ltb, leb, List, [], ◌∷◌, ◌++◌, length, drop, Some, Ok, Option, Result, sym, refl, ap, ◌∙◌, subst, inl, inr, arith}
use Rattle.std.proofs.lemmas.Bool.{and_parts, or_cases, or_parts, cases_eq, cases_Bool, ltb-true, eqb-true, eq-eqb, ne_eqb, true≢false}
use Rattle.orders.specs.declared.refusal.OrderRefusal.{OrderRefusal}
use Rattle.first_come.specs.declared.line.Entry.{Entry}
use Rattle.first_come.specs.declared.first.FirstCome.{FirstCome}
use Rattle.orders.specs.Counting.{ahead, most, every}
use Rattle.orders.specs.Orders.{Meaning, size, asked, admit_answer}
use Rattle.first_come.specs.Lines.{has, place, code_of, leader}
use Rattle.first_come.specs.First.{line_of, first_meaning, FirstAdmitted, FirstPassed}
use Rattle.orders.specs.Services.{Lawful}
use Rattle.orders.specs.Gating.{fit, inside}
use Rattle.gate.specs.declared.gate.Gate.{Gate}
use Rattle.gate.specs.Gates.{marked, noted, gate_meaning, in_gate, GateAdmitted, GatePassed, Moves}
use Rattle.gate.specs.Gates.Moves.{nobody, moved}
use Rattle.orders.proofs.Answered.{pass_fine}
use Rattle.first_come.specs.Lined.{has_push, code_push, code_last, lined_rules}
use Rattle.first_come.specs.Firsts.{neat_of, first_admits, first_passes}
use Rattle.orders.proofs.Gated.{or_never, inside_parts, inside_from, some_same}
use Rattle.gate.proofs.Gatesteps.{open_answer, new_mark}
use Rattle.gated_line.specs.GatedLine.{line_order, Empty}
use Rattle.gated_line.proofs.Lines.{Lined, line_size, line_admit, line_new}

abbrev pub entry : ℕ → ℕ → Entry
entry t c = record { task = t; code = c }

abbrev pub without : ℕ → List Entry → List Entry
without b [] = []
without b (e ∷ es) = cond (eqb e.task b) (without b es) (e ∷ without b es)

-- b is ahead of each other entry
abbrev pub leads : Entry → List Entry → Bool
leads b [] = true
leads b (e ∷ es) = (eqb e.task b.task || ahead b.code b.task e.code e.task) && leads b es

has_without : (u b : ℕ) (ys : List Entry) → (u ≡ b → ⊥) → has u (without b ys) ≡ has u ys
has_without u b [] ne = refl
has_without u b (e ∷ es) ne =
    elim (cases_Bool (eqb e.task b)) [
      | inl y ↦ let n : eqb e.task u ≡ false = ne_eqb e.task u (λ d. ne (sym d ∙ eqb-true e.task b y)) in rw (y, n) (has_without u b es ne)
      | inr n ↦ rw (n, has_without u b es ne)
    ]

lacks_without : (b : ℕ) (ys : List Entry) → has b (without b ys) ≡ false
lacks_without b [] = refl
lacks_without b (e ∷ es) =
    elim (cases_Bool (eqb e.task b)) [
      | inl y ↦ rw y (lacks_without b es)
      | inr n ↦ rw (n, lacks_without b es) (rw n)
    ]

code_without : (u b : ℕ) (ys : List Entry) → (u ≡ b → ⊥) → code_of u (without b ys) ≡ code_of u ys
code_without u b [] ne = refl
code_without u b (e ∷ es) ne =
    elim (cases_Bool (eqb e.task b)) [
      | inl y ↦ let n : eqb e.task u ≡ false = ne_eqb e.task u (λ d. ne (sym d ∙ eqb-true e.task b y)) in rw (y, n) (code_without u b es ne)
      | inr n ↦ rw n (elim (cases_Bool (eqb e.task u)) [ inl v ↦ rw v | inr v ↦ rw v (code_without u b es ne) ])
    ]

leads_ahead : (b : Entry) (t : ℕ) (ys : List Entry) → leads b ys ≡ true → has t ys ≡ true → (t ≡ b.task → ⊥) → ahead b.code b.task (code_of t ys) t ≡ true
leads_ahead b t [] l h ne = absurd (true≢false (sym h))
leads_ahead b t (e ∷ es) l h ne =
    let p = and_parts (eqb e.task b.task || ahead b.code b.task e.code e.task) (leads b es) l in
    elim (cases_Bool (eqb e.task t)) [
      | inl y ↦
          let d = eqb-true e.task t y in
          elim (or_cases (eqb e.task b.task) (ahead b.code b.task e.code e.task) p.0) [
            | inl x ↦ absurd (ne (sym d ∙ eqb-true e.task b.task x))
            | inr x ↦ rw y (subst (λ z. ahead b.code b.task e.code z ≡ true) d x)
          ]
      | inr n ↦ rw n (leads_ahead b t es p.1 (rw n at h) ne)
    ]

-- an open gate over first-come for m cores: xs stand in line below for resource 0, and ys in the gate
pub record Sim (g : Gate FirstCome) (m : ℕ) (xs ys : List Entry) : Type 0 where
  pub fresh : g.fresh ≡ true
  pub below : Lined g.lower m m xs
  pub marks : (u : ℕ) → marked g.rows 0 u ≡ has u ys
  pub codes : (u : ℕ) → has u ys ≡ true → noted g.rows 0 u ≡ code_of u ys

-- a width that the gate can have
abbrev pub proper_width : ℕ → Bool
proper_width m = leb 1 m && (leb m 16 && (eqb m m && leb (2 * (m - 1) + 1) 65535))

pub line_laws : Lawful line_order
line_laws = record {
  rules = λ s. lined_rules s.width s.places (line_of s) (neat_of s);
  admitting = first_admits;
  passing = first_passes;
  unadmitted = λ s r t c e z h. h.refused e refl;
  unpassed = λ s r e z h. h.refused e refl;
}

module _ {g : Gate FirstCome} {m : ℕ} {xs ys : List Entry} (s : Sim g m xs ys) (w : proper_width m ≡ true) where
  pub is_open : (g.fresh && fit (first_meaning g.lower)) ≡ true
  is_open = rw (s.fresh, s.below.width, s.below.places) w

  sized : size (first_meaning g.lower) 0 ≡ length xs
  sized = line_size g.lower m m xs s.below

  apart : (t : ℕ) → has t xs ≡ false → has t ys ≡ false → (gate_meaning line_order g).queued 0 t ≡ false
  apart t a b = rw (is_open, s.below.line, a, s.marks t, b)

  pub answered : (t : ℕ) → ltb t 64 ≡ true → has t xs ≡ false → has t ys ≡ false → admit_answer (gate_meaning line_order g) 0 t ≡ Ok tt
  answered t k a b = open_answer line_order line_laws g 0 t (omega arith) (ltb-true t 64 k) is_open (apart t a b)

  -- a task goes below
  pub sim_below : {a : Result (Unit {0}) OrderRefusal} {z : Gate FirstCome} (t c : ℕ) → GateAdmitted line_order g 0 t c a z → ltb t 64 ≡ true → has t xs ≡ false → has t ys ≡ false → ltb (length xs) m ≡ true → Sim z m (xs ++ (entry t c ∷ [])) []
  sim_below {a} {z} t c h k p q room =
      let room' : size (first_meaning g.lower) 0 < g.lower.width = omega (arith, sized, s.below.width, ltb-true (length xs) m room) in
      let b = h.below (h.told ∙ answered t k p q) room' in
      record {
        fresh = h.same ∙ s.fresh;
        below = line_admit t c s.below b.0 k p room;
        marks = λ u. b.2 u;
        codes = λ u e. absurd (true≢false (sym e));
      }

  -- a task goes into the gate
  pub sim_gate : {a : Result (Unit {0}) OrderRefusal} {z : Gate FirstCome} (t c : ℕ) → GateAdmitted line_order g 0 t c a z → ltb t 64 ≡ true → has t xs ≡ false → has t ys ≡ false → length xs ≡ m → Sim z m xs (ys ++ (entry t c ∷ []))
  sim_gate {a} {z} t c h k p q full =
      let i = h.gate (h.told ∙ answered t k p q) (sized ∙ full ∙ sym s.below.width) in
      let e = i.1 in
      record {
        fresh = h.same ∙ s.fresh;
        below = rw i.0 s.below;
        marks = λ u. elim (cases_eq u t) [
          | inl d ↦ subst (λ x. marked z.rows 0 x ≡ has x (ys ++ (entry t c ∷ []))) (sym d) (e.mark ∙ sym (rw (has_push t ys (entry t c), q, eq-eqb t t refl)))
          | inr ne ↦ e.marks 0 u (λ _ d. ne d) ∙ s.marks u ∙ sym (has_push u ys (entry t c) ∙ rw (ne_eqb t u (λ d. ne (sym d))) (or_never (has u ys)))
        ];
        codes = λ u y. elim (cases_eq u t) [
          | inl d ↦ subst (λ x. noted z.rows 0 x ≡ code_of x (ys ++ (entry t c ∷ []))) (sym d) (e.code ∙ sym (code_last ys (entry t c) q))
          | inr ne ↦
              let old : has u ys ≡ true = sym (or_never (has u ys)) ∙ (rw (has_push u ys (entry t c), ne_eqb t u (λ d. ne (sym d))) at y) in
              e.codes 0 u (λ _ d. ne d) ∙ s.codes u old ∙ sym (code_push u ys (entry t c) old)
        ];
      }

module _ {g : Gate FirstCome} {m : ℕ} {x : Entry} {xs ys : List Entry} (s : Sim g m (x ∷ xs) ys) (w : proper_width m ≡ true) {a : Result (Option ℕ) OrderRefusal} {z : Gate FirstCome} (h : GatePassed line_order g 0 a z) where
  first_held : (first_meaning g.lower).holder 0 ≡ Some x.task
  first_held = ap leader s.below.line

  parts : (mid : FirstCome) × (b : Result (Option ℕ) OrderRefusal) × FirstPassed g.lower 0 b mid × Moves line_order g mid 0 z
  parts =
      let holds = (gate_meaning line_order z).holder 0 in
      let held : (gate_meaning line_order g).holder 0 ≡ Some x.task = rw (is_open s w) first_held in
      let d = h.left holds (h.told ∙ pass_fine (gate_meaning line_order g) 0 x.task holds (omega arith) held) in
      (d.0, d.1, d.2, d.3)

  tail : (mid : FirstCome) (b : Result (Option ℕ) OrderRefusal) → FirstPassed g.lower 0 b mid → Lined mid m m xs
  tail mid b p = record {
    width = p.width ∙ s.below.width;
    places = p.places ∙ s.below.places;
    line = p.line ((first_meaning mid).holder 0) (p.told ∙ pass_fine (first_meaning g.lower) 0 x.task ((first_meaning mid).holder 0) (omega arith) first_held) ∙ ap (drop 1) s.below.line;
  }

  none_moves : ys ≡ [] → (mid : FirstCome) → Lined mid m m xs → Moves line_order g mid 0 z → Sim z m xs []
  none_moves e mid k (nobody out d marks) = record {
    fresh = h.same ∙ s.fresh;
    below = rw d k;
    marks = λ u. elim (cases_Bool (marked z.rows 0 u)) [ inr n ↦ n | inl y ↦ absurd (true≢false (sym (marks u y) ∙ s.marks u ∙ ap (has u) e)) ];
    codes = λ u y. absurd (true≢false (sym y));
  }
  none_moves e mid k (moved {b = t} mv) = absurd (true≢false (sym (inside_parts (first_meaning g.lower) (marked g.rows) 0 t mv.waits).mark ∙ s.marks t ∙ ap (has t) e))

  -- nobody waited in the gate
  pub sim_none : ys ≡ [] → Sim z m xs []
  sim_none e = let d = parts in none_moves e d.0 (tail d.0 d.1 d.2) d.3

  module _ (b : ℕ) (waits : has b ys ≡ true) (out : has b (x ∷ xs) ≡ false) (gone : has x.task ys ≡ false) (best : leads (entry b (code_of b ys)) ys ≡ true) (full : length (x ∷ xs) ≡ m) (bk : ltb b 64 ≡ true) (room : ltb (length xs) m ≡ true) where
    waits_b : inside (first_meaning g.lower) (marked g.rows) 0 b ≡ true
    waits_b = inside_from (first_meaning g.lower) (marked g.rows) 0 b (record { mark = s.marks b ∙ waits; full = sized s w ∙ full ∙ sym s.below.width; out = ap (has b) s.below.line ∙ out })

    best_moves : (mid : FirstCome) → Lined mid m m xs → Moves line_order g mid 0 z → Sim z m (xs ++ (entry b (code_of b ys) ∷ [])) (without b ys)
    best_moves mid k (nobody none d marks) = absurd (true≢false (sym waits_b ∙ none b))
    best_moves mid k (moved {b = t} mv) =
        let i = inside_parts (first_meaning g.lower) (marked g.rows) 0 t mv.waits in
        let in-t : has t ys ≡ true = sym (s.marks t) ∙ i.mark in
        let same : t ≡ b = elim (cases_eq t b) [
          | inl e ↦ e
          | inr ne ↦
              let up = leads_ahead (entry b (code_of b ys)) t ys best in-t ne in
              let down : ahead (code_of b ys) b (code_of t ys) t ≡ false = rw (s.codes b waits, s.codes t in-t) at (mv.best b waits_b) in
              absurd (true≢false (sym up ∙ down))
        ] in
        let joins : FirstAdmitted mid 0 b (code_of b ys) mv.answer z.lower = subst (λ u. FirstAdmitted mid 0 u (code_of u ys) mv.answer z.lower) same (subst (λ c. FirstAdmitted mid 0 t c mv.answer z.lower) (s.codes t in-t) mv.joins) in
        let taken : marked z.rows 0 b ≡ false = subst (λ u. marked z.rows 0 u ≡ false) same mv.taken in
        let out-tail : has b xs ≡ false = (or_parts (eqb x.task b) (has b xs) out).1 in
        record {
          fresh = h.same ∙ s.fresh;
          below = line_admit b (code_of b ys) k joins bk out-tail room;
          marks = λ u. elim (cases_eq u b) [
            | inl e ↦ subst (λ v. marked z.rows 0 v ≡ has v (without b ys)) (sym e) (taken ∙ sym (lacks_without b ys))
            | inr ne ↦ elim (cases_eq u x.task) [
              | inl e ↦ subst (λ v. marked z.rows 0 v ≡ has v ys) (sym e) (mv.left x.task first_held ∙ sym gone) ∙ sym (has_without u b ys ne)
              | inr d ↦ mv.marks u (λ e. d (some_same u x.task (sym e ∙ first_held))) (λ e. ne (e ∙ same)) ∙ s.marks u ∙ sym (has_without u b ys ne)
            ]
          ];
          codes = λ u y. elim (cases_eq u b) [
            | inl e ↦ absurd (true≢false (sym y ∙ subst (λ v. has v (without b ys) ≡ false) (sym e) (lacks_without b ys)))
            | inr ne ↦ mv.codes u ∙ s.codes u (sym (has_without u b ys ne) ∙ y) ∙ sym (code_without u b ys ne)
          ];
        }

    -- the best-ranked of the gate went below
    pub sim_moved : Sim z m (xs ++ (entry b (code_of b ys) ∷ [])) (without b ys)
    sim_moved = let d = parts in best_moves d.0 (tail d.0 d.1 d.2) d.3

-- ---- questions

-- the largest place + 1 among those in line that are not ahead of t with the code c
abbrev pub list_delay : List Entry → ℕ → ℕ → ℕ
list_delay q c t = most (λ u. has u q && not (ahead (code_of u q) u c t)) (λ u. place u q) 64

-- each task in line is ahead of t with the code c
abbrev pub list_behind : List Entry → ℕ → ℕ → Bool
list_behind q c t = every (λ u. not (has u q) || ahead (code_of u q) u c t) 64

module _ {g : Gate FirstCome} {m : ℕ} {xs ys : List Entry} (s : Sim g m xs ys) (w : proper_width m ≡ true) where
  abbrev shown : Meaning
  shown = gate_meaning line_order g

  pub sim_holder : {o : Option ℕ} → o ≡ shown.holder 0 → o ≡ leader xs
  sim_holder e = e ∙ rw (is_open s w) (ap leader s.below.line)

  pub sim_count_below : {o : Option ℕ} (t : ℕ) → has t xs ≡ true → o ≡ asked (shown.queued 0 t) (shown.count 0 t) → o ≡ Some (place t xs)
  sim_count_below t y e = e ∙ rw (is_open s w, s.below.line, y)

  pub sim_count_gate : {o : Option ℕ} (t : ℕ) → has t xs ≡ false → has t ys ≡ true → length xs ≡ m → o ≡ asked (shown.queued 0 t) (shown.count 0 t) → o ≡ Some (list_delay xs (code_of t ys) t + (m - 1))
  sim_count_gate t n y full e =
      let q : has t (line_of g.lower 0) ≡ false = ap (has t) s.below.line ∙ n in
      let f : size (first_meaning g.lower) 0 ≡ g.lower.width = sized s w ∙ full ∙ sym s.below.width in
      e ∙ rw (is_open s w, q, s.marks t, y, eq-eqb (size (first_meaning g.lower) 0) g.lower.width f, s.codes t y) (ap (λ k. Some (list_delay k (code_of t ys) t + (g.lower.places - 1))) s.below.line ∙ ap (λ p. Some (list_delay xs (code_of t ys) t + (p - 1))) s.below.places)

  pub sim_covered : {o : Bool} (t : ℕ) → has t xs ≡ false → has t ys ≡ true → length xs ≡ m → o ≡ (shown.queued 0 t && shown.covered 0 t) → o ≡ list_behind xs (code_of t ys) t
  sim_covered t n y full e =
      let q : has t (line_of g.lower 0) ≡ false = ap (has t) s.below.line ∙ n in
      let f : size (first_meaning g.lower) 0 ≡ g.lower.width = sized s w ∙ full ∙ sym s.below.width in
      e ∙ rw (is_open s w, q, s.marks t, y, eq-eqb (size (first_meaning g.lower) 0) g.lower.width f, s.codes t y) (ap (λ k. list_behind k (code_of t ys) t) s.below.line)

  -- a task in line below is not in the gate
  pub sim_out : {o : Bool} (t : ℕ) → has t xs ≡ true → o ≡ in_gate line_order g 0 t → o ≡ false
  sim_out t y e = e ∙ rw (is_open s w, s.below.line, y) (grind arith)

-- a new gate
pub sim_new : {g : Gate FirstCome} {m : ℕ} → Empty m g → (leb 1 m && leb m 16) ≡ true → Sim g m [] []
sim_new e w = record {
  fresh = e.fresh;
  below = line_new e.width (e.places ∙ rw w) e.lines;
  marks = λ u. ap (λ rows. marked rows 0 u) e.rows ∙ new_mark 0 u;
  codes = λ u y. absurd (true≢false (sym y));
}
