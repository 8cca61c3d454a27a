-- `write5`: ten stores, each where the last one ended, are block 5.
use mathlib.Core.Path.{refl}
use Rattle.wire.proofs.Stores.{puts, next, done}
use Rattle.header.specs.Encode.{bytes5}
use Rattle.blocks.proofs.write5.Goals as goal

pub returns : goal.returns
unfolding bytes5
returns c =
    puts 147 refl
    (next c.put_byte.ensures
    (next c.put_number.ensures
    (next c.put_number-2.ensures
    (next c.put_number-3.ensures
    (next c.put_number-4.ensures
    (next c.put_number-5.ensures
    (next c.put_number-6.ensures
    (next c.put_number-7.ensures
    (next c.put_number-8.ensures
    (next c.put_bytes.ensures done))))))))))
