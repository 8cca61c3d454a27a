-- The file of a plan: its header's fields, by the paper's places, and its counts.
use Rattle.std.specs.Prelude.{ℕ, ◌+◌, ◌*◌, ◌/◌, ◌%◌, min, cond, List, [], ◌∷◌, ◌++◌, length, replicate, ltb, leb, eqb}
use Rattle.wire.specs.Wire.{digits, join, rows}
use Rattle.header.specs.Places.{at2, at3, at4, at5, at6, at7, at8, at9, at10, at11, length8, length9, length10, header_length, data_length}
use Rattle.samples.specs.declared.Plan.{Plan}
use Rattle.samples.specs.Pieces.{Piece, piece, filed}

-- the paper's file of 1,479 bytes: Himawari-8, 7 July 2015 at 0200, band 13, FLDK, segment 1 of 2, with counts of 0
unfoldable pub paper_plan : Plan
paper_plan = record {
  order = 0;
  satellite = 8;
  date = 20150707;
  timeline = 200;
  band = 13;
  area = 1179403339;
  columns = 4;
  lines = 2;
  number = 1;
  total = 2;
  first = 1;
  a = 0;
  b = 0;
  c = 0;
  fill = 0;
  vary = 0;
  count = 0;
  step = 0;
}

-- valid bits and resolution of a band
abbrev pub bits_for : ℕ → ℕ
bits_for b = cond (eqb b 7) 14 (cond (ltb b 10) 11 (cond (leb b 15) 12 11))

abbrev pub resolution_for : ℕ → ℕ
resolution_for b = cond (eqb b 3) 5 (cond (leb b 4) 10 20)

-- the last two digits of a number as text
abbrev pub two : ℕ → List ℕ
two n = (48 + n / 10 % 10) ∷ (48 + n % 10) ∷ []

-- a block's number and its length, of which two bytes hold so much
abbrev pub head : ℕ → ℕ → ℕ → List ℕ
head o k n = join ((k ∷ []) ∷ digits o 2 (n % 65536) ∷ [])

-- the header's length and that of the counts, and the file's
abbrev pub header_for : Plan → ℕ
header_for p = header_length p.a p.b p.c

abbrev pub counts_for : Plan → ℕ
counts_for p = data_length p.columns p.lines

abbrev pub length_for : Plan → ℕ
length_for p = header_for p + counts_for p

-- byte i of the header where no rule speaks
abbrev pub byte_of : Plan → ℕ → ℕ
byte_of p i = (p.fill + p.vary * (i % 256)) % 256

-- the header before any field is stored, in a buffer of n bytes
abbrev pub blank : Plan → ℕ → Piece
blank p n = piece 0 (rows (λ (i : ℕ). byte_of p i ∷ []) (min (header_for p) n))

-- block 1 but for its name: Himawari-, a digit and six zero bytes; area, timeline, lengths
unfoldable pub basic : Plan → List Piece
basic p =
    let o = p.order in
    piece 0 (head o 1 282)
    ∷ piece 3 (digits o 2 11)
    ∷ piece 5 (o ∷ [])
    ∷ piece 6 (72 ∷ 105 ∷ 109 ∷ 97 ∷ 119 ∷ 97 ∷ 114 ∷ 105 ∷ 45 ∷ (48 + p.satellite % 10) ∷ 0 ∷ 0 ∷ 0 ∷ 0 ∷ 0 ∷ 0 ∷ [])
    ∷ piece 38 (digits 1 4 p.area)
    ∷ piece 44 (digits o 2 p.timeline)
    ∷ piece 70 (digits o 4 (header_for p))
    ∷ piece 74 (digits o 4 (counts_for p % 4294967296))
    ∷ []

-- HS_H00_00000000_0000_B00_0000_R00_S0000.DAT
abbrev form : List ℕ
form =
    72 ∷ 83 ∷ 95 ∷ 72 ∷ 48 ∷ 48 ∷ 95 ∷ 48 ∷ 48 ∷ 48 ∷ 48 ∷ 48 ∷ 48 ∷ 48 ∷ 48 ∷ 95 ∷ 48 ∷ 48 ∷ 48 ∷ 48 ∷ 95 ∷ 66 ∷ 48 ∷ 48 ∷ 95 ∷ 48
    ∷ 48 ∷ 48 ∷ 48 ∷ 95 ∷ 82 ∷ 48 ∷ 48 ∷ 95 ∷ 83 ∷ 48 ∷ 48 ∷ 48 ∷ 48 ∷ 46 ∷ 68 ∷ 65 ∷ 84 ∷ []

-- the name: its form, in which digits and letters of the plan are filled in, and 85 zero bytes
unfoldable pub name : Plan → List Piece
name p =
    piece 114 form
    ∷ piece 157 (replicate 85 0)
    ∷ piece 118 (two p.satellite)
    ∷ piece 130 (two (p.timeline / 100))
    ∷ piece 132 (two p.timeline)
    ∷ piece 136 (two p.band)
    ∷ piece 139 (digits 1 4 p.area)
    ∷ piece 145 (two (resolution_for p.band))
    ∷ piece 149 (two p.number)
    ∷ piece 151 (two p.total)
    ∷ []

-- the date in it
unfoldable pub dated : ℕ → List Piece
dated d =
    piece 121 (two (d / 1000000))
    ∷ piece 123 (two (d / 10000))
    ∷ piece 125 (two (d / 100))
    ∷ piece 127 (two d)
    ∷ []

-- blocks 2 to 7: sizes and no compression, calibration, segment
unfoldable pub middle : Plan → List Piece
middle p =
    let o = p.order in
    piece at2 (head o 2 50)
    ∷ piece 285 (digits o 2 16)
    ∷ piece 287 (digits o 2 p.columns)
    ∷ piece 289 (digits o 2 p.lines)
    ∷ piece 291 (0 ∷ [])
    ∷ piece at3 (head o 3 127)
    ∷ piece at4 (head o 4 139)
    ∷ piece at5 (head o 5 147)
    ∷ piece 601 (digits o 2 p.band)
    ∷ piece 611 (digits o 2 (bits_for p.band))
    ∷ piece 613 (digits o 2 65535)
    ∷ piece 615 (digits o 2 65534)
    ∷ piece at6 (head o 6 259)
    ∷ piece at7 (head o 7 47)
    ∷ piece 1007 (p.total ∷ [])
    ∷ piece 1008 (p.number ∷ [])
    ∷ piece 1009 (digits o 2 p.first)
    ∷ []

-- blocks 8 to 11, each after the entries of those before it
unfoldable pub back : Plan → List Piece
back p =
    let o = p.order in
    piece at8 (head o 8 (length8 p.a))
    ∷ piece 1070 (digits o 2 p.a)
    ∷ piece (at9 p.a) (head o 9 (length9 p.b))
    ∷ piece (at9 p.a + 3) (digits o 2 p.b)
    ∷ piece (at10 p.a p.b) (10 ∷ [])
    ∷ piece (at10 p.a p.b + 1) (digits o 4 (length10 p.c))
    ∷ piece (at10 p.a p.b + 5) (digits o 2 p.c)
    ∷ piece (at11 p.a p.b p.c) (head o 11 259)
    ∷ []

-- count i, from 0 on
abbrev pub count_of : Plan → ℕ → ℕ
count_of p i = (p.count + p.step * (i % 65536)) % 65536

-- the counts, of which a buffer of n bytes has room for fewer than n
abbrev pub counts : Plan → ℕ → Piece
counts p n = piece (header_for p) (rows (λ (i : ℕ). digits p.order 2 (count_of p i)) (min (p.columns * p.lines) n))

-- l with the plan's file at its front: nothing else of l changes
unfoldable pub sample : Plan → List ℕ → List ℕ
sample p l = filed l (blank p (length l) ∷ (basic p ++ (name p ++ (dated p.date ++ (middle p ++ (back p ++ (counts p (length l) ∷ [])))))))
