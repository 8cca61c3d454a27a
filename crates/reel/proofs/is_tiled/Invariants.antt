use Rattle.std.proofs.Common.{◌≡◌, ◌+◌, ◌-◌, ◌*◌, ◌≤◌}
use Rattle.reel.specs.Reels.{tiled}
use Rattle.reel.proofs.is_tiled.Given as goal

abbrev pub invariant-loop-k : goal.invariant-loop-k
invariant-loop-k l = record {
  rest : tiled l.s l.to (l.to + 8 * l.k) l.from (l.n - l.k) ≡ tiled l.s l.to l.to 0 l.n;
  fits : l.from ≤ 4294967296 * l.k;
}
