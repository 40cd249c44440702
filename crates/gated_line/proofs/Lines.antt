-- first-come at resource 0, as a list
use Rattle.std.proofs.Common.{◌≡◌, ℕ, true, false, ltb, List, [], ◌∷◌, ◌++◌, length, get_or, replicate, Option, Result, ap, ◌∙◌, arith}
use Rattle.std.proofs.lemmas.Bool.{ltb-true}
use Rattle.orders.specs.declared.refusal.OrderRefusal.{OrderRefusal}
use Rattle.first_come.specs.declared.line.Entry.{Entry}
use Rattle.first_come.specs.declared.first.FirstCome.{FirstCome}
use Rattle.orders.specs.Orders.{size, asked}
use Rattle.first_come.specs.Lines.{empty, fresh_line, waiting, has, place}
use Rattle.first_come.specs.First.{line_of, first_meaning, FirstAdmitted}
use Rattle.orders.proofs.Answered.{admit_fine}
use Rattle.first_come.specs.Lined.{tally_line}
use Rattle.first_come.specs.Firsts.{neat_of}

-- s has m and p, and xs in the line of resource 0
pub record Lined (s : FirstCome) (m p : ℕ) (xs : List Entry) : Type 0 where
  pub width : s.width ≡ m
  pub places : s.places ≡ p
  pub line : line_of s 0 ≡ xs

pub line_size : (s : FirstCome) (m p : ℕ) (xs : List Entry) → Lined s m p xs → size (first_meaning s) 0 ≡ length xs
line_size s m p xs l = tally_line (line_of s 0) ((neat_of s).neat 0) ∙ ap length l.line

pub line_admit : {s z : FirstCome} {m p : ℕ} {xs : List Entry} {a : Result (Unit {0}) OrderRefusal} (t c : ℕ) → Lined s m p xs → FirstAdmitted s 0 t c a z → ltb t 64 ≡ true → has t xs ≡ false → ltb (length xs) p ≡ true → Lined z m p (xs ++ (record { task = t; code = c } ∷ []))
line_admit {s} {z} {m} {p} {xs} {a} t c l h tk new room =
    let fine = admit_fine (first_meaning s) 0 t (record {
      r_known = omega arith;
      t_known = ltb-true t 64 tk;
      new = ap (has t) l.line ∙ new;
      room = λ e. omega (arith, line_size s m p xs l, l.places, ltb-true (length xs) p room);
    }) in
    record {
      width = h.width ∙ l.width;
      places = h.places ∙ l.places;
      line = h.line (h.told ∙ fine) ∙ ap (λ ys. ys ++ (record { task = t; code = c } ∷ [])) l.line;
    }

pub line_count : {s : FirstCome} {m p : ℕ} {xs : List Entry} {o : Option ℕ} (t : ℕ) → Lined s m p xs → o ≡ asked ((first_meaning s).queued 0 t) ((first_meaning s).count 0 t) → o ≡ asked (has t xs) (place t xs)
line_count t l e = e ∙ ap (λ ys. asked (has t ys) (place t ys)) l.line

pub line_new : {s : FirstCome} {m p : ℕ} → s.width ≡ m → s.places ≡ p → s.lines ≡ replicate 32 fresh_line → Lined s m p []
line_new w p e = record { width = w; places = p; line = ap (λ ls. waiting (get_or ls 0 empty)) e }
