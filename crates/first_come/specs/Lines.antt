-- Lines of tasks
use Rattle.std.specs.Prelude.{ℕ, ◌&&◌, List, [], replicate, if◌then◌else◌, nat_le, refl}
use Rattle.std.proofs.Common.{arith}
use Rattle.first_come.specs.declared.line.Entry.{Entry}
use Rattle.first_come.specs.declared.line.Line.{Line}
pub use Rattle.first_come.specs.Entries.{has, place, code_of, leader}

-- the places of lines for m cores that are to have p: none where m is not from 1 to 16, or p not from 1 to 64
abbrev pub fitting_places : ℕ → ℕ → ℕ
fitting_places m p = if nat_le 1 m && (nat_le m 16 && (nat_le 1 p && nat_le p 64)) then p else 0

-- the entries in line, the first in line first
abbrev pub waiting : Line → List Entry
waiting l = l.entries.items

-- what is read past the end of a list of lines
abbrev pub empty : Line
empty = record { entries = record { items = [] }; seats = []; neat = refl; seated = λ i b. absurd (omega arith) }

-- a line as it is made, with nobody in it
abbrev pub fresh_line : Line
fresh_line = record { entries = record { items = [] }; seats = replicate 64 0; neat = refl; seated = λ i b. absurd (omega arith) }
