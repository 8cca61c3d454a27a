-- `write_carrying`: three stores, each where the last one ended, are the block.
use native.Mathlib.Omega.{arith}
use Rattle.wire.proofs.Stores.{puts, next, next_at, done}
use Rattle.header.specs.Encode.{carrying}
use Rattle.blocks.proofs.write_carrying.Goals as goal

pub returns : goal.returns
unfolding carrying
returns g c =
    puts _ (omega arith)
    (next c.put_byte.ensures
    (next_at _ (omega arith) c.put_number.ensures
    (next c.put_bytes.ensures done)))
