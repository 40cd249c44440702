-- The two kinds of key, as kinds
use Rattle.std.specs.Prelude.{ℕ}
use Rattle.keys.specs.declared.kind.KeyKind
use Rattle.keys.specs.declared.deadline.Deadline.{Deadline}
use Rattle.keys.specs.declared.fixed.Fixed.{Fixed}
use Rattle.keys.specs.declared.fixed.BandLevel.{BandLevel}
use Rattle.keys.specs.Deadlines.{deadline_ranged, due, sooner, due_code}
use Rattle.keys.specs.Bands.{fixed_ranged, as_declared, more_urgent, band_code}

abbrev pub deadline_kind : KeyKind.Ghosts Deadline ℕ ℕ
deadline_kind = record { ranged = deadline_ranged; key = due; ahead = sooner; code = due_code }

abbrev pub fixed_kind : KeyKind.Ghosts Fixed BandLevel BandLevel
fixed_kind = record { ranged = fixed_ranged; key = as_declared; ahead = more_urgent; code = band_code }
