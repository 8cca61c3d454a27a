-- What a file's counts read as, and what its block 10 lists.
use Rattle.std.specs.Prelude.{ℕ, ◌+◌, List, [], ◌∷◌}
use Rattle.header.specs.Entries.{entries_of}
use Rattle.accept.specs.Answers.{facts_of, calibration_in}
use Rattle.reading.specs.declared.Calibration.{Calibration}
use Rattle.frame.specs.Counts.{counts_of}
use Rattle.totals.specs.declared.Totals.{Totals}
use Rattle.totals.specs.Kinds.{is_radiance, is_error, is_outside, is_over, is_uncalibrated, count_readings}

-- how the counts of a file are read
unfoldable pub cal_of : List ℕ → Calibration
cal_of f = calibration_in (facts_of f)

-- how many counts of a file read as each kind, each by its own rule
unfoldable pub totals_of : List ℕ → Totals
totals_of f = record {
  radiance = count_readings is_radiance (cal_of f) (counts_of f);
  error = count_readings is_error (cal_of f) (counts_of f);
  outside = count_readings is_outside (cal_of f) (counts_of f);
  over = count_readings is_over (cal_of f) (counts_of f);
  uncalibrated = count_readings is_uncalibrated (cal_of f) (counts_of f);
}

unfoldable pub sum_of : List ℕ → ℕ
sum_of [] = 0
sum_of (x ∷ xs) = x + sum_of xs

-- the error pixels that block 10 lists
unfoldable pub pixels_of : List ℕ → ℕ
pixels_of f = sum_of (entries_of f).pixels
