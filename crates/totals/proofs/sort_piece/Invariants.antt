use Rattle.std.proofs.Common.{◌≤◌, take}
use Rattle.totals.specs.Counting.{Sorted}
use Rattle.totals.proofs.sort_piece.Given as goal

abbrev pub invariant-loop-x : goal.invariant-loop-x
invariant-loop-x l = record {
  so_far : Sorted l.limit (take l.x-index l.xs) l.error l.outside l.over l.below;
  error_fits : l.error ≤ l.x-index;
  outside_fits : l.outside ≤ l.x-index;
  over_fits : l.over ≤ l.x-index;
  below_fits : l.below ≤ l.x-index;
}
