use mathlib.Core.Path.{sym, ◌∙◌}
use Prim.Native.Nat.{◌^◌, ◌≤◌}
use lib.Pow.{pow_mono}
use borrow.Author.Tests.{lt-leb}
use native.Mathlib.Omega.{arith}
use borrow.Author.Rules.{rules}
use Rattle.totals.proofs.limit_of.Goals as goal

pub returns-else-bits-lt16 : goal.returns-else-bits-lt16
returns-else-bits-lt16 c =
    let m : 2 ^ 16 ≤ 2 ^ c.args.bits = pow_mono {i = 16} c.if-bits-lt16.false in
    record { most = search rules; as_bits = λ x h. lt-leb _ x (omega arith) ∙ sym (lt-leb 65534 x h) }
