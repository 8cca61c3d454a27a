-- `read_column`: the numbers so far are the file's.
use Rattle.std.proofs.Common.{◌≡◌, ◌<◌, length, map, ℕ, ◌+◌, ◌*◌, get_or}
use Rattle.wire.specs.Wire.{span, num}
use Rattle.reader.proofs.read_column.Given as goal

abbrev pub invariant-loop-i : goal.invariant-loop-i
invariant-loop-i g l = record {
  long : length l.numbers ≡ length l.initial.numbers;
  below : (k : ℕ) → k < l.i → get_or (map g.W.Word.number l.numbers) k 0 ≡ num l.order (span l.s (l.at + l.stride * k) g.row.N);
}
