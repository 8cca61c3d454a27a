use Rattle.std.proofs.Common.{◌≡◌, ◌+◌, ◌*◌, drop}
use Rattle.wire.specs.Wire.{store}
use Rattle.reel.specs.Reels.{entries}
use Rattle.reel.specs.Writing.{sum_of}
use Rattle.reel.proofs.put_entries.Given as goal

abbrev pub invariant-loop-i : goal.invariant-loop-i
invariant-loop-i l = record {
  stored : store l.out (l.at + 8 * l.i) (entries l.from (drop l.i l.lengths)) ≡ store l.initial.out l.at (entries 0 l.lengths);
  rest : l.from + sum_of (drop l.i l.lengths) ≡ sum_of l.lengths;
}
