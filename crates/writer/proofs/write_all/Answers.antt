-- `write_all`: both parts, with the lengths that the entries and sizes come to.
use native.Mathlib.Omega.{arith}
use Rattle.header.specs.Encode.{encode, blocks_of}
use Rattle.writer.proofs.Written.{both}
use Rattle.writer.proofs.write_all.Goals as goal

pub returns : goal.returns
unfolding encode blocks_of
returns c =
    both _ _ _ (omega arith) (rw (c.header_length-front.ensures, c.data_length-counts.ensures) at c.write_front.ensures) c.write_back.ensures
