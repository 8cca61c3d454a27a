use Rattle.std.proofs.Common.{◌≡◌, ◌+◌, ◌*◌, ◌≤◌, drop}
use Rattle.reel.specs.Writing.{sum_of}
use Rattle.reel.proofs.sum_of.Given as goal

abbrev pub invariant-loop-n : goal.invariant-loop-n
invariant-loop-n l = record {
  rest : l.sum + sum_of (drop l.n-index l.lengths) ≡ sum_of l.lengths;
  fits : l.sum ≤ 4294967296 * l.n-index;
}
