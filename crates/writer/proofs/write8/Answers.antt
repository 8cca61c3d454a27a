-- `write8`: head, entries and spare, each stored where the last one ended, are block 8.
use native.Mathlib.Omega.{arith}
use Rattle.wire.proofs.Stores.{puts, next, done}
use Rattle.header.specs.Encode.{bytes8, entry8}
use Rattle.writer.proofs.Scattered.{columns3}
use Rattle.writer.proofs.write8.Goals as goal

pub returns : goal.returns
unfolding bytes8 entry8
returns c =
    puts _ (omega arith)
    (next c.put_byte.ensures
    (next c.put_number.ensures
    (next c.put_number-2.ensures
    (next c.put_number-3.ensures
    (next c.put_number-4.ensures
    (next c.put_number-5.ensures
    (next (columns3 _ _ _ _ 1072 c.write_column.ensures c.write_column-2.ensures c.write_column-3.ensures c.requires.1 c.requires.2)
    (next c.put_bytes.ensures done))))))))
