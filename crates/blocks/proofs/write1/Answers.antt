-- `write1`: twenty-one stores, each where the last one ended, are block 1.
use mathlib.Core.Path.{refl}
use Rattle.wire.proofs.Stores.{puts, next, done}
use Rattle.header.specs.Encode.{bytes1}
use Rattle.blocks.proofs.write1.Goals as goal

pub returns : goal.returns
unfolding bytes1
returns c =
    puts 282 refl
    (next c.put_byte.ensures
    (next c.put_number.ensures
    (next c.put_number-2.ensures
    (next c.put_byte-2.ensures
    (next c.put_bytes.ensures
    (next c.put_bytes-2.ensures
    (next c.put_bytes-3.ensures
    (next c.put_bytes-4.ensures
    (next c.put_number-3.ensures
    (next c.put_number-4.ensures
    (next c.put_number-5.ensures
    (next c.put_number-6.ensures
    (next c.put_number-7.ensures
    (next c.put_number-8.ensures
    (next c.put_byte-3.ensures
    (next c.put_byte-4.ensures
    (next c.put_byte-5.ensures
    (next c.put_byte-6.ensures
    (next c.put_bytes-5.ensures
    (next c.put_bytes-6.ensures
    (next c.put_bytes-7.ensures done)))))))))))))))))))))
