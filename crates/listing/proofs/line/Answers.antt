-- `line`: the length alone says BIG, and else the answer says its line; either lies within the buffer.
use borrow.Author.Rules.{rules}
use borrow.Author.Tests.{lt-ltb, le-ltb}
use Rattle.listing.specs.Lines.{listed}
use Rattle.listing.proofs.Words.{at_front}
use Rattle.listing.proofs.line.Goals as goal

pub returns-then-big : goal.returns-then-big
unfolding listed
returns-then-big c =
    let big = lt-ltb 65536 _ c.if-big.true in
    at_front (record { long = rw big; is = rw big c.put.ensures }) (search rules)

pub returns : goal.returns
unfolding listed
returns c =
    let small = le-ltb 65536 _ c.if-big.false in
    at_front (rw (small, ← c.accept.ensures) c.put_answer.ensures.0) (search rules)
