-- `put_shot`: five words, each where the last one ended; their room by each number's type.
use native.Mathlib.Omega.{arith}
use Rattle.wire.proofs.Stores.{puts, next, done}
use Rattle.listing.specs.Lines.{shot_words}
use Rattle.listing.proofs.Words.{room}
use Rattle.listing.proofs.put_shot.Goals as goal

pub returns : goal.returns
unfolding shot_words
returns c = (
  rw (← c.from.ensures, ← c.from-2.ensures, ← c.from-3.ensures, ← c.decimal.ensures, ← c.to_bytes.ensures) (puts _ (omega arith)
      (next c.put_plain.ensures.0
      (next c.put_plain-2.ensures.0
      (next c.put_word.ensures
      (next c.put_plain-3.ensures.0
      (next c.put_word-2.ensures done)))))),
  omega (
    arith,
    room 2 c.put_plain.ensures.0 (omega arith),
    room 4 c.put_plain-3.ensures.0 (omega arith),
  ),
)
