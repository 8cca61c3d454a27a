-- The checks of a file in the paper's order: blocks 1 to 11, each with 1, 2, 3 (block 1), 4, 1 again (blocks 8 to 10),
-- 5, 6, 31 to 38; then 8 to 12. A row is a test, and the number, block and offset of the refusal where it fails.
use Rattle.std.specs.Prelude.{ℕ, ◌+◌, ◌-◌, not, ◌||◌, List, [], ◌∷◌, length, get_or, leb, eqb}
use Rattle.wire.specs.Wire.{span, num}
use Rattle.rules.specs.Rules.{Row, row, tables}
use Rattle.calendar.specs.Shots.{good_timeline}
use Rattle.format.specs.Ranges.{satellite_of, good_area, good_size, good_total, good_number, good_first}
use Rattle.format.specs.Bands.{good_band, band_of}
use Rattle.format.specs.Names.{good_name}
use Rattle.header.specs.declared.Block1.{Block1}
use Rattle.header.specs.declared.Block2.{Block2}
use Rattle.header.specs.declared.Block5.{Block5}
use Rattle.header.specs.declared.Block7.{Block7}
use Rattle.header.specs.Places.{order_of, a_of, b_of, c_of, at2, at3, at4, at5, at6, at7, at8, at9, at10, at11, length8, length9, length10, length_of, data_length}
use Rattle.header.specs.Values.{block1_of, block2_of, block5_of, block7_of}

-- 1 SHORT: n bytes remain for block k, which stands at `at`
abbrev short : List ℕ → ℕ → ℕ → ℕ → Row
short s k at n = row (leb n (length s - at)) 1 k at

-- 2 NUMBER: its first byte is k
abbrev number : List ℕ → ℕ → ℕ → Row
number s k at = row (eqb (get_or s at 0) k) 2 k at

-- 4 LENGTH: the length that it states, right after its number, is the table's
abbrev long : ℕ → ℕ → ℕ → ℕ → Row
long k at stated n = row (eqb stated n) 4 k (at + 1)

-- 5 FIXED: what stands there is what the table fixes
abbrev fixed : List ℕ → ℕ → ℕ → ℕ → ℕ → Row
fixed s o k at n = row (eqb (num o (span s at 2)) n) 5 k at

-- how block k starts, before its entries or fields: room for so much, its number, and its length
unfoldable pub begins : List ℕ → ℕ → ℕ → ℕ → ℕ → ℕ → List Row
begins s k at stated least full = short s k at least ∷ number s k at ∷ long k at stated full ∷ []

-- a block of fixed length n: 2 to 7 and 11
unfoldable pub shape : List ℕ → ℕ → ℕ → ℕ → ℕ → List Row
shape s o k at n = short s k at n ∷ number s k at ∷ long k at (num o (span s (at + 1) 2)) n ∷ []

-- a block with entries, 8 to 10: `least` is its length without them, and `full` with them
unfoldable pub entries : List ℕ → ℕ → ℕ → ℕ → ℕ → ℕ → List Row
entries s k at stated least full = short s k at least ∷ number s k at ∷ long k at stated full ∷ short s k at full ∷ []

-- block 1: 3 ORDER stands before the length, and 5 is the header block count
unfoldable pub shape1 : List ℕ → ℕ → List Row
shape1 s o =
    short s 1 0 282
    ∷ number s 1 0
    ∷ row (leb o 1) 3 1 5
    ∷ long 1 0 (num o (span s 1 2)) 282
    ∷ fixed s o 1 3 11
    ∷ []

-- 31 satellite, 32 area, 33 timeline
unfoldable pub fields1 : Block1 → List Row
fields1 v =
    row (not (eqb (satellite_of v.satellite) 0)) 31 1 6
    ∷ row (good_area v.area) 32 1 38
    ∷ row (good_timeline v.timeline) 33 1 44
    ∷ []

-- block 2: the bits of a count are fixed
unfoldable pub fixed2 : List ℕ → ℕ → List Row
fixed2 s o = fixed s o 2 (at2 + 3) 16 ∷ []

-- 6 PACKED: compression flag 1 or 2; then 34 columns or lines, and 35 a flag above 2
unfoldable pub fields2 : Block2 → List Row
fields2 v =
    row (not (eqb v.compression 1 || eqb v.compression 2)) 6 2 (at2 + 9)
    ∷ row (good_size v.columns) 34 2 (at2 + 5)
    ∷ row (good_size v.lines) 34 2 (at2 + 7)
    ∷ row (leb v.compression 2) 35 2 (at2 + 9)
    ∷ []

-- block 5: the counts of an error and of what is outside are fixed
unfoldable pub fixed5 : List ℕ → ℕ → List Row
fixed5 s o = fixed s o 5 (at5 + 15) 65535 ∷ fixed s o 5 (at5 + 17) 65534 ∷ []

-- 36 band, 37 its valid bits
unfoldable pub fields5 : Block5 → List Row
fields5 v =
    row (good_band v.band) 36 5 (at5 + 3)
    ∷ row (eqb v.bits (band_of v.band).bits) 37 5 (at5 + 13)
    ∷ []

-- 38, block 7: segment total, number, and first line, by the lines of block 2
unfoldable pub fields7 : Block7 → ℕ → List Row
fields7 v lines =
    row (good_total v.total) 38 7 (at7 + 3)
    ∷ row (good_number v.number v.total) 38 7 (at7 + 4)
    ∷ row (good_first v.first lines) 38 7 (at7 + 5)
    ∷ []

-- 8 HEADER SUM and 9 DATA SUM
unfoldable pub sums : List ℕ → ℕ → ℕ → ℕ → List Row
sums s o header counts =
    row (eqb (num o (span s 70 4)) header) 8 1 70
    ∷ row (eqb (num o (span s 74 4)) counts) 9 1 74
    ∷ []

-- 10 NAME
unfoldable pub names : Block1 → Block5 → Block7 → List Row
names v w x =
    row (good_name v.name (satellite_of v.satellite) v.timeline w.band v.area x.number x.total) 10 1 114
    ∷ []

-- 11 CUT and 12 TAIL: what follows the header are the counts, which start there
unfoldable pub ends : List ℕ → ℕ → ℕ → List Row
ends s header counts =
    row (leb counts (length s - header)) 11 12 header
    ∷ row (leb (length s - header) counts) 12 12 header
    ∷ []

-- every check of a file
unfoldable pub blocks1to4 : List ℕ → ℕ → List Row
blocks1to4 s o =
    tables (
    shape1 s o
    ∷ fields1 (block1_of s o)
    ∷ shape s o 2 at2 50
    ∷ fixed2 s o
    ∷ fields2 (block2_of s o)
    ∷ shape s o 3 at3 127
    ∷ shape s o 4 at4 139
    ∷ []
    )

unfoldable pub blocks5to7 : List ℕ → ℕ → List Row
blocks5to7 s o =
    tables (
    shape s o 5 at5 147
    ∷ fixed5 s o
    ∷ fields5 (block5_of s o)
    ∷ shape s o 6 at6 259
    ∷ shape s o 7 at7 47
    ∷ fields7 (block7_of s o) (block2_of s o).lines
    ∷ []
    )

-- block 10 states its length in four bytes
unfoldable pub blocks8to11 : List ℕ → ℕ → ℕ → ℕ → ℕ → List Row
blocks8to11 s o a b c =
    tables (
    entries s 8 at8 (num o (span s (at8 + 1) 2)) 61 (length8 a)
    ∷ entries s 9 (at9 a) (num o (span s (at9 a + 1) 2)) 45 (length9 b)
    ∷ entries s 10 (at10 a b) (num o (span s (at10 a b + 1) 4)) 47 (length10 c)
    ∷ shape s o 11 (at11 a b c) 259
    ∷ []
    )

unfoldable pub whole : List ℕ → ℕ → ℕ → ℕ → List Row
whole s o header counts =
    tables (
    sums s o header counts
    ∷ names (block1_of s o) (block5_of s o) (block7_of s o)
    ∷ ends s header counts
    ∷ []
    )

unfoldable pub checks : List ℕ → List Row
checks s =
    tables (
    blocks1to4 s (order_of s)
    ∷ blocks5to7 s (order_of s)
    ∷ blocks8to11 s (order_of s) (a_of s) (b_of s) (c_of s)
    ∷ whole s (order_of s) (length_of s) (data_length (block2_of s (order_of s)).columns (block2_of s (order_of s)).lines)
    ∷ []
    )
