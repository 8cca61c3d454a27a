-- What a count reads as.
use Rattle.std.specs.Prelude.{ℕ, ◌^◌, cond, eqb, leb, pos, Float}
use Rattle.std.specs.Float.{nan, inf, fin, binary64}
use Rattle.std.specs.Float.Ieee.{add, mul, of_int, of_bits}
use Rattle.reading.specs.declared.Calibration.{Calibration}
use Rattle.reading.specs.declared.Reading.{Reading}
use Rattle.reading.specs.declared.Reading.TheVariants.{Radiance, ErrorPixel, Outside, OverRange, Uncalibrated}

-- gain times count, rounded once, plus constant, rounded once
abbrev pub scaled : Calibration → ℕ → Float
scaled cal count = add binary64 (mul binary64 cal.gain (of_int binary64 (pos count))) cal.constant

-- the radiance if finite, else uncalibrated
abbrev pub if_finite : Float → Reading
if_finite nan = Uncalibrated
if_finite (inf s) = Uncalibrated
if_finite (fin s m e) = Radiance (fin s m e)

-- in order: an error pixel, outside the scan, over range, and else the radiance
abbrev pub reading_of : Calibration → ℕ → Reading
reading_of cal count =
    cond (eqb count 65535) ErrorPixel
    (cond (eqb count 65534) Outside
    (cond (leb (2 ^ cal.bits) count) OverRange
    (if_finite (scaled cal count))))

-- the calibration whose gain and constant have these patterns of bits; every NaN's pattern is nan
abbrev pub calibration_of : ℕ → ℕ → ℕ → Calibration
calibration_of g k b = record { gain = of_bits binary64 g; constant = of_bits binary64 k; bits = b }
