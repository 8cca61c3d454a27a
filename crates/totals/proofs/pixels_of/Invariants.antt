use Rattle.std.proofs.Common.{◌≡◌, ◌*◌, ◌≤◌}
use Rattle.header.specs.Entries.{column}
use Rattle.totals.specs.Files.{sum_of}
use Rattle.totals.proofs.pixels_of.Given as goal

abbrev pub invariant-loop-i : goal.invariant-loop-i
invariant-loop-i l = record {
  so_far : l.sum ≡ sum_of (column l.file l.order l.at 4 2 l.i);
  fits : l.sum ≤ l.i * 65535;
}
