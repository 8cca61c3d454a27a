-- What the facts of an accepted file say of its bytes.
-- Assumes nothing.
use mathlib.Core.Path.{◌≡◌}
use mathlib.Core.Bool.{and-eq-true_iff}
use mathlib.Core.List.{List}
use Prim.Native.Nat.{ℕ, ◌-◌, ◌≤◌}
use native.Mathlib.Omega.{arith}
use borrow.Author.Tests.{leb-true}
use lib.ListN.{length}
use lib.Dec.{leb}
use Rattle.rules.specs.Rules.{judge, fine}
use Rattle.header.specs.Places.{length_of, data_length}
use Rattle.header.specs.Values.{block2_of, block7_of}
use Rattle.accept.specs.Checks.{checks, fields7}
use Rattle.accept.specs.Answers.{facts_of}
use Rattle.accept.proofs.Tables.{accepted}

pub record Known (s : List ℕ) : Type 0 where
  -- the number is one of the total's
  pub some : 1 ≤ (facts_of s).number
  pub most : (facts_of s).number ≤ (facts_of s).total
  -- what follows the header are the counts
  pub counts : length s - length_of s ≡ data_length (facts_of s).columns (facts_of s).lines

pub known : (s : List ℕ) → judge fine (checks s) ≡ fine → Known s
unfolding facts_of fields7 block2_of block7_of
known s e =
    let a = accepted s e in
    let n = (and-eq-true_iff (leb 1 (facts_of s).number) (leb (facts_of s).number (facts_of s).total)).0 a.fields7.1.0 in
    record {
      some = leb-true _ _ n.0;
      most = leb-true _ _ n.1;
      counts = omega (arith, a.whole.tail, a.whole.cut);
    }
