-- `put_segment`: five words, each where the last one ended; their room by each number's type.
use native.Mathlib.Omega.{arith}
use Rattle.wire.proofs.Stores.{puts, next, done}
use Rattle.listing.specs.Lines.{segment_words}
use Rattle.listing.proofs.Words.{room}
use Rattle.listing.proofs.put_segment.Goals as goal

pub returns : goal.returns
unfolding segment_words
returns c = (
  rw (← c.from.ensures, ← c.from-2.ensures, ← c.from-3.ensures, ← c.from-4.ensures, ← c.from-5.ensures) (puts _ (omega arith)
      (next c.put_plain.ensures.0
      (next c.put_plain-2.ensures.0
      (next c.put_plain-3.ensures.0
      (next c.put_plain-4.ensures.0
      (next c.put_plain-5.ensures.0 done)))))),
  omega (
    arith,
    room 4 c.put_plain.ensures.0 (omega arith),
    room 4 c.put_plain-2.ensures.0 (omega arith),
    room 2 c.put_plain-3.ensures.0 (omega arith),
    room 2 c.put_plain-4.ensures.0 (omega arith),
    room 4 c.put_plain-5.ensures.0 (omega arith),
  ),
)
