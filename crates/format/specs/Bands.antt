-- The sixteen bands.
use Rattle.std.specs.Prelude.{ℕ, Bool, ◌&&◌, ◌||◌, cond, leb, eqb}
use Rattle.format.specs.declared.Band.{Band}

-- band 1 to 16
abbrev pub good_band : ℕ → Bool
good_band b = leb 1 b && leb b 16

-- valid bits: 14 for band 7, 12 for bands 10 to 15, 11 for the others
abbrev pub bits_of : ℕ → ℕ
bits_of b = cond (eqb b 7) 14 (cond (leb 10 b && leb b 15) 12 11)

-- resolution: 05 for band 3, 10 for 1, 2 and 4, 20 for 5 to 16
abbrev pub resolution_of : ℕ → ℕ
resolution_of b = cond (eqb b 3) 5 (cond (eqb b 1 || (eqb b 2 || eqb b 4)) 10 20)

unfoldable pub band_of : ℕ → Band
band_of b = cond (good_band b) (record { bits = bits_of b; resolution = resolution_of b }) (record { bits = 0; resolution = 0 })
