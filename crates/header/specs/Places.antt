-- Where the blocks of a file stand, and the numbers that say so.
use Rattle.std.specs.Prelude.{ℕ, ◌+◌, ◌*◌, List, get_or}
use Rattle.wire.specs.Wire.{span, num}

-- block 1 stands at 0, and blocks 2 to 8 where the lengths before them say, which are fixed
abbrev pub at2 : ℕ
at2 = 282

abbrev pub at3 : ℕ
at3 = 332

abbrev pub at4 : ℕ
at4 = 459

abbrev pub at5 : ℕ
at5 = 598

abbrev pub at6 : ℕ
at6 = 745

abbrev pub at7 : ℕ
at7 = 1004

abbrev pub at8 : ℕ
at8 = 1051

-- the byte order, which rules every number in the file
abbrev pub order_of : List ℕ → ℕ
order_of s = get_or s 5 0

-- a, the entries of block 8, and where block 9 stands
abbrev pub a_of : List ℕ → ℕ
a_of s = num (order_of s) (span s (at8 + 19) 2)

abbrev pub at9 : ℕ → ℕ
at9 a = 1112 + 10 * a

-- b, the entries of block 9, and where block 10 stands
abbrev pub b_of : List ℕ → ℕ
b_of s = num (order_of s) (span s (at9 (a_of s) + 3) 2)

abbrev pub at10 : ℕ → ℕ → ℕ
at10 a b = 1157 + 10 * a + 10 * b

-- c, the entries of block 10, and where block 11 and the counts stand
abbrev pub c_of : List ℕ → ℕ
c_of s = num (order_of s) (span s (at10 (a_of s) (b_of s) + 5) 2)

abbrev pub at11 : ℕ → ℕ → ℕ → ℕ
at11 a b c = 1204 + 10 * a + 10 * b + 4 * c

-- the lengths of blocks 8, 9 and 10 with their entries
abbrev pub length8 : ℕ → ℕ
length8 a = 61 + 10 * a

abbrev pub length9 : ℕ → ℕ
length9 b = 45 + 10 * b

abbrev pub length10 : ℕ → ℕ
length10 c = 47 + 4 * c

-- the header's length: 1463 + 10a + 10b + 4c
abbrev pub header_length : ℕ → ℕ → ℕ → ℕ
header_length a b c = 1463 + 10 * a + 10 * b + 4 * c

abbrev pub length_of : List ℕ → ℕ
length_of s = header_length (a_of s) (b_of s) (c_of s)

-- the length of the counts: 2 x columns x lines
abbrev pub data_length : ℕ → ℕ → ℕ
data_length columns lines = 2 * columns * lines
