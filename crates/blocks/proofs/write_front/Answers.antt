-- `write_front`: blocks 1 to 7, each where the last one ended.
use mathlib.Core.Path.{refl}
use Rattle.wire.proofs.Stores.{puts, next, done}
use Rattle.header.specs.Encode.{front_blocks}
use Rattle.blocks.proofs.write_front.Goals as goal

pub returns : goal.returns
unfolding front_blocks
returns c =
    puts 1051 refl
    (next c.write1.ensures
    (next c.write2.ensures
    (next c.write_carrying.ensures
    (next c.write_carrying-2.ensures
    (next c.write5.ensures
    (next c.write_carrying-3.ensures
    (next c.write7.ensures done)))))))
