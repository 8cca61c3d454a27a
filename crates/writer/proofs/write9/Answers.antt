-- `write9`: head, entries and spare, each stored where the last one ended, are block 9.
use mathlib.Core.Path.{refl}
use native.Mathlib.Omega.{arith}
use Rattle.wire.proofs.Stores.{puts, next, next_at, done}
use Rattle.header.specs.Encode.{bytes9, entry9}
use Rattle.writer.proofs.Scattered.{columns2}
use Rattle.writer.proofs.write9.Goals as goal

pub returns : goal.returns
unfolding bytes9 entry9
returns c =
    puts _ (omega arith)
    (next c.put_byte.ensures
    (next_at _ (omega arith) c.put_number.ensures
    (next_at _ (omega arith) c.put_number-2.ensures
    (next (columns2 _ _ _ 8 10 _ _ c.write_column.ensures c.write_column-2.ensures (omega arith) c.requires.2 refl)
    (next c.put_bytes.ensures done)))))
