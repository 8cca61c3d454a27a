-- `put_refused`: what the refusal says, and a newline.
use native.Mathlib.Omega.{arith}
use native.Mathlib.Nat.{zero-add}
use Rattle.wire.proofs.Stores.{puts, next, next_at, done}
use Rattle.listing.specs.Lines.{line_words}
use Rattle.listing.proofs.put_refused.Goals as goal

pub returns : goal.returns
unfolding line_words
returns c =
    (puts _ (omega arith) (next_at _ (zero-add _) c.refusal-at.ensures.0 (next c.put_byte.ensures done)), omega arith)
