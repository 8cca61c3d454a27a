-- `write2`: seven stores, each where the last one ended, are block 2.
use mathlib.Core.Path.{refl}
use Rattle.wire.proofs.Stores.{puts, next, done}
use Rattle.header.specs.Encode.{bytes2}
use Rattle.blocks.proofs.write2.Goals as goal

pub returns : goal.returns
unfolding bytes2
returns c =
    puts 50 refl
    (next c.put_byte.ensures
    (next c.put_number.ensures
    (next c.put_number-2.ensures
    (next c.put_number-3.ensures
    (next c.put_number-4.ensures
    (next c.put_byte-2.ensures
    (next c.put_bytes.ensures done)))))))
