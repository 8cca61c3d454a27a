use Rattle.std.proofs.Common.{◌≡◌, ℕ, ◌<◌, get_or, length}
use Rattle.wire.proofs.fill.Given as goal

abbrev pub invariant-loop-i : goal.invariant-loop-i
invariant-loop-i l = record {
  long : length l.dst ≡ length l.initial.dst;
  below : (k : ℕ) → k < l.i → get_or l.dst k 0 ≡ get_or l.rest k 0;
}
