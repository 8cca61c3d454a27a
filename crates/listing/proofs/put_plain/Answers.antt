-- `put_plain`: a space and then the digits, as many as the number has.
use native.Mathlib.Omega.{arith}
use Rattle.listing.specs.Lines.{numeral}
use Rattle.listing.proofs.Digits.{length_decimal, last_of_ten}
use Rattle.listing.proofs.Words.{spaced}
use Rattle.listing.proofs.put_plain.Goals as goal

pub returns : goal.returns
unfolding numeral
returns c =
    let w = c.width_of-w in
    let digits = last_of_ten w.result c.args.n (omega arith) in
    (rw (← w.ensures.0) (spaced c.put_byte.ensures (record { long = length_decimal w.result c.args.n; is = rw (c.decimal-digits.ensures, digits) at c.put.ensures })), omega arith)
