-- `decimal`: the digits that are to come, and then those that are stored.
use mathlib.Core.Path.{◌≡◌}
use mathlib.Core.List.{◌++◌}
use lib.ListN.{drop, length}
use Rattle.format.specs.Texts.{decimal}
use Rattle.format.proofs.decimal.Given as goal

abbrev pub invariant-loop-i : goal.invariant-loop-i
invariant-loop-i g l = record {
  long : length l.digits ≡ g.row.W;
  so_far : decimal l.i l.rest ++ drop l.i l.digits ≡ decimal g.row.W l.x;
}
