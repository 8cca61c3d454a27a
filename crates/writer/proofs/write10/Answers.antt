-- `write10`: head, entries and spare, each stored where the last one ended, are block 10.
use mathlib.Core.Path.{refl}
use native.Mathlib.Omega.{arith}
use Rattle.wire.proofs.Stores.{puts, next, next_at, done}
use Rattle.header.specs.Encode.{bytes10, entry10}
use Rattle.writer.proofs.Scattered.{columns2}
use Rattle.writer.proofs.write10.Goals as goal

pub returns : goal.returns
unfolding bytes10 entry10
returns c =
    puts _ (omega arith)
    (next c.put_byte.ensures
    (next_at _ (omega arith) c.put_number.ensures
    (next_at _ (omega arith) c.put_number-2.ensures
    (next (columns2 _ _ _ 2 4 _ _ c.write_column.ensures c.write_column-2.ensures (omega arith) c.requires.2 refl)
    (next c.put_bytes.ensures done)))))
