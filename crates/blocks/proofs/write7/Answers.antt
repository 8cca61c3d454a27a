-- `write7`: six stores, each where the last one ended, are block 7.
use mathlib.Core.Path.{refl}
use Rattle.wire.proofs.Stores.{puts, next, done}
use Rattle.header.specs.Encode.{bytes7}
use Rattle.blocks.proofs.write7.Goals as goal

pub returns : goal.returns
unfolding bytes7
returns c =
    puts 47 refl
    (next c.put_byte.ensures
    (next c.put_number.ensures
    (next c.put_byte-2.ensures
    (next c.put_byte-3.ensures
    (next c.put_number-2.ensures
    (next c.put_bytes.ensures done))))))
