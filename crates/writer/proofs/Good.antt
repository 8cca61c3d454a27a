-- What the checks leave where nothing is wrong, which is all that they ask for.
-- Assumes nothing.
use mathlib.Core.Path.{◌≡◌}
use mathlib.Core.Bool.{true, and-eq-true_iff}
use Prim.Native.Nat.{ℕ, ◌≤◌}
use lib.ListN.{length}
use lib.Dec.{leb}
use borrow.Author.Tests.{leb-true, le-leb, eqb-true, eq-eqb}
use Rattle.rules.specs.Rules.{fine}
use Rattle.rules.proofs.Judge.{Holds, exactly, holds, each_is, each_of, holds_unplaced}
use Rattle.format.specs.Ranges.{good_size}
use Rattle.accept.specs.Checks.{fields1, fields2, fields5, fields7, names}
use Rattle.header.specs.declared.Header.{Header}
use Rattle.header.specs.Places.{header_length}
use Rattle.header.specs.Encode.{Entries}
use Rattle.writer.specs.Given.{orders, lengths8, lengths9, lengths10, room, parts, given, ruled}
use Rattle.writer.specs.Sizes.{Fits}

-- values and entries that are good to write
pub record Good (v : Header) (e : Entries) : Type 0 where
  pub order : v.block1.order ≤ 1
  pub fields1 : Holds (fields1 v.block1)
  pub fields2 : Holds (fields2 v.block2)
  pub fields5 : Holds (fields5 v.block5)
  pub fields7 : Holds (fields7 v.block7 v.block2.lines)
  pub names : Holds (names v.block1 v.block5 v.block7)
  pub fits : Fits v e

abbrev pub Roomy : Entries → ℕ → Type 0
Roomy e n = header_length (length e.lines8) (length e.lines9) (length e.lines10) ≤ n

pub size_most : (n : ℕ) → good_size n ≡ true → n ≤ 22000
size_most n e = leb-true n 22000 ((and-eq-true_iff (leb 1 n) (leb n 22000)).0 e).1

-- what the writer takes is good and has room, and what is good, with room, it takes
pub good_is : (v : Header) (e : Entries) (n : ℕ) → ruled v e n ≡ fine → Good v e × Roomy e n
unfolding given orders fields2 lengths8 lengths9 lengths10 room
good_is v e n q =
    let h = each_is (parts v e n) ((holds_unplaced _).0 ((exactly (given v e n)).0 q)) in
    let h2 = h.1.1.0 in
    let h8 = h.1.1.1.1.1.0 in
    let h9 = h.1.1.1.1.1.1.0 in
    let h10 = h.1.1.1.1.1.1.1.0 in (
      record {
        order = leb-true _ _ h.0.0;
        fields1 = h.1.0;
        fields2 = h2;
        fields5 = h.1.1.1.0;
        fields7 = h.1.1.1.1.0;
        names = h.1.1.1.1.1.1.1.1.0;
        fits = record {
          columns = size_most _ h2.1.0;
          lines = size_most _ h2.1.1.0;
          few8 = leb-true _ _ h8.0;
          xs = eqb-true _ _ h8.1.0;
          ys = eqb-true _ _ h8.1.1.0;
          few9 = leb-true _ _ h9.0;
          ts = eqb-true _ _ h9.1.0;
          few10 = leb-true _ _ h10.0;
          ps = eqb-true _ _ h10.1.0;
        };
      },
      leb-true _ _ h.1.1.1.1.1.1.1.1.1.0.0,
    )

pub good_of : (v : Header) (e : Entries) (n : ℕ) → Good v e → Roomy e n → ruled v e n ≡ fine
unfolding given orders lengths8 lengths9 lengths10 room
good_of v e n g r =
    let f = g.fits in
    (exactly (given v e n)).1
    ((holds_unplaced _).1 (each_of (parts v e n)
    (holds (holds (le-leb _ _ g.order) tt)
    (holds g.fields1
    (holds g.fields2
    (holds g.fields5
    (holds g.fields7
    (holds (holds (le-leb _ _ f.few8) (holds (eq-eqb _ _ f.xs) (holds (eq-eqb _ _ f.ys) tt)))
    (holds (holds (le-leb _ _ f.few9) (holds (eq-eqb _ _ f.ts) tt))
    (holds (holds (le-leb _ _ f.few10) (holds (eq-eqb _ _ f.ps) tt))
    (holds g.names
    (holds (holds (le-leb _ _ r) tt) tt))))))))))))
