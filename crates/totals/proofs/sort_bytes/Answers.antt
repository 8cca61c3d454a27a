use Rattle.std.proofs.Common.{ap, ◌∙◌, arith, length}
use Rattle.frame.proofs.Copying.{counts_length, filled_twice}
use Rattle.totals.proofs.sort_bytes.Goals as goal

pub returns : goal.returns
returns c =
    let a = c.args in
    let h = c.counts_into.ensures ∙ filled_twice a.order a.src.now a.buffer.now c.requires.1 in
    let s = c.sort_piece.ensures in
    let long = ap length h ∙ counts_length a.order a.src.now _ c.requires.1 in
    record {
      buffer_len_unchanged = long;
      sorted = rw h at s.sorted;
      numbers_in_bounds = (omega (arith, s.numbers_in_bounds.0), omega (arith, s.numbers_in_bounds.1), omega (arith, s.numbers_in_bounds.2), omega (arith, s.numbers_in_bounds.3));
    }
