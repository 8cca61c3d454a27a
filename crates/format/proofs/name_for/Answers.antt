-- `name_for`: sixteen stores, each where the last one ended, spell the name, and the zeros after it stood there.
use mathlib.Core.Path.{refl}
use lib.Dec.{lit≤}
use Rattle.wire.proofs.Stores.{puts, next, done, front}
use Rattle.format.specs.Names.{spelling, name_for}
use Rattle.format.proofs.name_for.Goals as goal

pub returns : goal.returns
unfolding name_for spelling
returns c =
    front
    (puts 43 refl
    (next c.put_bytes.ensures
    (next (rw (c.decimal.ensures, c.from.ensures) at c.put_bytes-2.ensures)
    (next c.put_byte.ensures
    (next c.put_bytes-3.ensures
    (next c.put_byte-2.ensures
    (next (rw (c.decimal-2.ensures, c.from-2.ensures) at c.put_bytes-4.ensures)
    (next c.put_bytes-5.ensures
    (next (rw (c.decimal-3.ensures, c.from-3.ensures) at c.put_bytes-6.ensures)
    (next c.put_byte-3.ensures
    (next c.put_bytes-7.ensures
    (next c.put_bytes-8.ensures
    (next {w = 2} (rw (c.decimal-4.ensures, c.from-4.ensures, c.band_of.ensures) at c.put_bytes-9.ensures)
    (next c.put_bytes-10.ensures
    (next (rw (c.decimal-5.ensures, c.from-5.ensures) at c.put_bytes-11.ensures)
    (next (rw (c.decimal-6.ensures, c.from-6.ensures) at c.put_bytes-12.ensures)
    (next c.put_bytes-13.ensures done)))))))))))))))))
    (lit≤ tt)
