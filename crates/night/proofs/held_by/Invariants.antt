use Rattle.std.proofs.Common.{◌≡◌, ◌+◌, ◌*◌, ◌≤◌}
use Rattle.night.specs.Runs.{sum_to}
use Rattle.night.proofs.held_by.Given as goal

abbrev pub invariant-loop-n : goal.invariant-loop-n
invariant-loop-n l = record {
  so_far : l.held ≡ l.fn.run.accepted + sum_to l.n-index l.fn.run.refused;
  fits : l.held ≤ 4294967295 + l.n-index * 4294967295;
}
