-- The first line of a file
use Rattle.std.proofs.Common.{◌≡◌, ℕ, ◌+◌, ◌<◌, List, [], length, take, drop, ⊎_elim, arith}
use Rattle.std.proofs.lemmas.List.{length-drop, drop_all, take_all}
use Rattle.std.proofs.lemmas.Bool.{cases_lt}
use Rattle.fields.specs.Cutting.{before, pieces}
use Rattle.fields.proofs.Counts.{piece_ends, last_line, before_take}
use Rattle.event_text.specs.Files.{FirstLine}

-- it ends at the first byte 10 or with the file, and what follows begins past that byte
pub first_line : (l : List ℕ) (k : ℕ) → k ≡ before 10 l → 0 < length l → FirstLine l (take k l) (drop (k + 1) l)
unfolding pieces
first_line l k e some =
    ⊎_elim
    (λ more. record {
      cut = rw e (piece_ends 10 [] l more);
      shorter = omega (arith, length-drop (k + 1) l);
      whole = rw e (before_take 10 l);
    })
    (λ last. record {
      cut = rw e (rw (take_all (before 10 l) l last, drop_all (before 10 l + 1) l (omega arith)) (last_line 10 l last some));
      shorter = omega (arith, length-drop (k + 1) l);
      whole = rw e (before_take 10 l);
    })
    (cases_lt (before 10 l) (length l))
