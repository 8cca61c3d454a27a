-- `refusal`: NO and three numbers, each where the last one ended; their room by each number's type.
use native.Mathlib.Omega.{arith}
use Rattle.wire.proofs.Stores.{puts, next, done}
use Rattle.listing.specs.Lines.{refusal_words}
use Rattle.listing.proofs.refusal.Goals as goal

pub returns : goal.returns
unfolding refusal_words
returns c = (
  rw (← c.number_of.ensures, ← c.from.ensures, ← c.from-2.ensures) (puts _ (omega arith)
      (next c.put_bytes.ensures
      (next c.put_plain-at.ensures.0
      (next c.put_plain.ensures.0
      (next c.put_plain-2.ensures.0 done))))),
  omega arith,
)
