-- The fixed kind
use Rattle.std.specs.Prelude.{◌≡◌, ℕ, ◌+◌, ◌*◌, ◌<◌, Bool, ◌&&◌, ◌⊎◌, nat_le}
use Rattle.keys.specs.declared.fixed.BandLevel.{BandLevel}

-- a band is 0 to 2, a level 0 to 255
abbrev pub fixed_ranged : BandLevel → Bool
fixed_ranged d = nat_le d.band 2 && nat_le d.level 255

-- the key is what was declared, whenever the job arrives
abbrev pub as_declared : BandLevel → ℕ → BandLevel
as_declared d n = d

-- the lower band is ahead; within a band, the lower level
abbrev pub more_urgent : BandLevel → BandLevel → Type 0
more_urgent a b = (a.band < b.band) ⊎ ((a.band ≡ b.band) × (a.level < b.level))

-- the code: 256 numbers a band
abbrev pub band_code : BandLevel → ℕ
band_code a = a.band * 256 + a.level
