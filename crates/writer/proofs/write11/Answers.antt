-- `write11`: three stores, each where the last one ended, are block 11.
use mathlib.Core.Path.{refl}
use native.Mathlib.Omega.{arith}
use Rattle.wire.proofs.Stores.{puts, next, next_at, done}
use Rattle.header.specs.Encode.{carrying}
use Rattle.writer.proofs.write11.Goals as goal

pub returns : goal.returns
unfolding carrying
returns c =
    puts 259 refl
    (next c.put_byte.ensures
    (next_at _ (omega arith) c.put_number.ensures
    (next c.put_bytes.ensures done)))
