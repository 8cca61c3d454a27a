use Rattle.std.proofs.Common.{◌≡◌, ℕ, ◌<◌, false}
use Rattle.reading.specs.Counts.{reading_of}
use Rattle.totals.specs.Kinds.{is_uncalibrated}
use Rattle.totals.proofs.all_fine.Given as goal

abbrev pub invariant-loop-k : goal.invariant-loop-k
invariant-loop-k l = (x : ℕ) → x < l.k → is_uncalibrated (reading_of l.cal x) ≡ false
