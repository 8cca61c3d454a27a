use Rattle.std.proofs.Common.{◌≡◌, ◌+◌, ◌%◌, ◌≤◌, length}
use Rattle.std.specs.Slice.Iter.{chunks_rest, chunks_size}
use Rattle.totals.proofs.Plain.{Rest}
use Rattle.totals.proofs.sort_all.Given as goal

abbrev pub invariant-loop-piece : goal.invariant-loop-piece
invariant-loop-piece l = record {
  so_far : Rest l.limit l.order l.src (chunks_rest l.piece-iterator) l.sum.error l.sum.outside l.sum.over l.sum.below;
  most : chunks_size l.piece-iterator ≤ 512;
  halves : chunks_size l.piece-iterator % 2 ≡ 0;
  even : length (chunks_rest l.piece-iterator) % 2 ≡ 0;
  error_fits : l.sum.error + length (chunks_rest l.piece-iterator) ≤ length l.src;
  outside_fits : l.sum.outside + length (chunks_rest l.piece-iterator) ≤ length l.src;
  over_fits : l.sum.over + length (chunks_rest l.piece-iterator) ≤ length l.src;
  below_fits : l.sum.below + length (chunks_rest l.piece-iterator) ≤ length l.src;
}
