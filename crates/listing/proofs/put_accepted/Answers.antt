-- `put_accepted`: OK, the words and a newline, each where the last one ended.
use native.Mathlib.Omega.{arith}
use Rattle.wire.proofs.Stores.{puts, next, done}
use Rattle.listing.specs.Lines.{line_words}
use Rattle.listing.proofs.put_accepted.Goals as goal

pub returns : goal.returns
unfolding line_words
returns c =
    (puts _ (omega arith) (next c.put_bytes.ensures (next c.put_shot-at.ensures.0 (next c.put_segment.ensures.0 (next c.put_byte.ensures done)))), omega arith)
