use Rattle.std.proofs.Common.{◌≤◌, take}
use Rattle.frame.specs.Counts.{counts}
use Rattle.totals.specs.Counting.{Totalled}
use Rattle.totals.proofs.read_all.Given as goal

abbrev pub invariant-loop-i : goal.invariant-loop-i
invariant-loop-i l = record {
  so_far : Totalled l.cal (take l.i (counts l.order l.src)) l.totals.radiance l.totals.error l.totals.outside l.totals.over l.totals.uncalibrated;
  radiance_fits : l.totals.radiance ≤ l.i;
  error_fits : l.totals.error ≤ l.i;
  outside_fits : l.totals.outside ≤ l.i;
  over_fits : l.totals.over ≤ l.i;
  uncalibrated_fits : l.totals.uncalibrated ≤ l.i;
}
