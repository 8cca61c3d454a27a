-- What the writer checks, block by block: 3, then 4, 6, 7; then 10, then 17. The ranges are the reader's own tables.
use Rattle.std.specs.Prelude.{ℕ, ◌≡◌, List, [], ◌∷◌, ◌++◌, length, drop, leb, eqb}
use Rattle.rules.specs.Rules.{Row, row, tables, unplaced, judge, Ruling, fine, paper, after, Verdict}
use Rattle.header.specs.declared.Header.{Header}
use Rattle.header.specs.Places.{header_length}
use Rattle.header.specs.Encode.{Entries, encode}
use Rattle.accept.specs.Checks.{fields1, fields2, fields5, fields7, names}

-- block 1: 3 ORDER
unfoldable pub orders : ℕ → List Row
orders o = row (leb o 1) 3 1 0 ∷ []

-- block k: 4 LENGTH, more than so many entries or parts that differ in number
abbrev pub lengths : ℕ → ℕ → ℕ → ℕ → List Row
lengths k most n m = row (leb n most) 4 k 0 ∷ row (eqb m n) 4 k 0 ∷ []

-- block 8: 4 LENGTH, a above 6,547 or parts that differ in number
unfoldable pub lengths8 : ℕ → ℕ → ℕ → List Row
lengths8 a x y = row (leb a 6547) 4 8 0 ∷ row (eqb x a) 4 8 0 ∷ row (eqb y a) 4 8 0 ∷ []

-- block 9: b above 6,549
unfoldable pub lengths9 : ℕ → ℕ → List Row
lengths9 b t = row (leb b 6549) 4 9 0 ∷ row (eqb t b) 4 9 0 ∷ []

-- block 10: c above 65,535
unfoldable pub lengths10 : ℕ → ℕ → List Row
lengths10 c p = row (leb c 65535) 4 10 0 ∷ row (eqb p c) 4 10 0 ∷ []

-- 17 ROOM: n bytes of output are not shorter than the header
unfoldable pub room : ℕ → ℕ → ℕ → ℕ → List Row
room a b c n = row (leb (header_length a b c) n) 17 0 0 ∷ []

-- the writer's tables in their order, for values, entries and n bytes of output
abbrev pub parts : Header → Entries → ℕ → List (List Row)
parts v e n =
    orders v.block1.order
    ∷ fields1 v.block1
    ∷ fields2 v.block2
    ∷ fields5 v.block5
    ∷ fields7 v.block7 v.block2.lines
    ∷ lengths8 (length e.lines8) (length e.column_shifts) (length e.line_shifts)
    ∷ lengths9 (length e.lines9) (length e.times)
    ∷ lengths10 (length e.lines10) (length e.pixels)
    ∷ names v.block1 v.block5 v.block7
    ∷ room (length e.lines8) (length e.lines9) (length e.lines10) n
    ∷ []

-- every check of the writer: these come from no file
unfoldable pub given : Header → Entries → ℕ → List Row
given v e n = unplaced (tables (parts v e n))

-- the writer's ruling
abbrev pub ruled : Header → Entries → ℕ → Ruling
ruled v e n = judge fine (given v e n)

-- l was lent, the verdict is r, and out stands there afterwards: the header and then the rest as it was, or all as it was
pub record Wrote (l : List ℕ) (v : Header) (e : Entries) (r : Verdict) (out : List ℕ) : Type 0 where
  pub says : paper r ≡ ruled v e (length l)
  pub leaves : out ≡ after (ruled v e (length l)) l (encode v e ++ drop (length (encode v e)) l)
