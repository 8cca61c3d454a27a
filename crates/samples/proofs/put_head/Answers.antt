-- `put_head`: two stores, one after the other, are one.
use mathlib.Core.Path.{refl}
use Rattle.wire.proofs.Stores.{puts, next, done}
use Rattle.samples.proofs.put_head.Goals as goal

pub returns : goal.returns
returns c =
    puts 3 refl (next c.put_byte.ensures (next c.put_number.ensures done))
