-- `decimal`: a turn stores one digit before those that are stored.
use mathlib.Core.Path.{◌∙◌}
use borrow.Author.Rules.{rules}
use native.Mathlib.Omega.{arith}
use Rattle.format.proofs.Digits.{digits_turn}
use Rattle.format.proofs.decimal.Goals as goal

pub loop-i-preserved : goal.loop-i-preserved
loop-i-preserved g c =
    let l = c.loop-i in
    record {
      long = search rules;
      so_far = rw c.glyph.ensures (digits_turn l.i l.rest l.digits (omega arith) (omega arith) ∙ l.invariant.so_far);
    }
