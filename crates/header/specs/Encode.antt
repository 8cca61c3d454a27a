-- The bytes of a header, block by block, as table 6 of document 000 has them.
use Rattle.std.specs.Prelude.{ℕ, List, [], ◌∷◌, ◌++◌, length, get_or}
use Rattle.wire.specs.Wire.{digits, join, rows}
use Rattle.header.specs.declared.Block1.{Block1}
use Rattle.header.specs.declared.Block2.{Block2}
use Rattle.header.specs.declared.Block5.{Block5}
use Rattle.header.specs.declared.Block7.{Block7}
use Rattle.header.specs.declared.Block8.{Block8}
use Rattle.header.specs.declared.Header.{Header}
use Rattle.header.specs.Places.{length8, length9, length10, header_length, data_length}

-- the entries of blocks 8 (lines, column shifts, line shifts), 9 (lines, times) and 10 (lines, error pixels)
pub record Entries : Type 0 where
  pub lines8 : List ℕ
  pub column_shifts : List ℕ
  pub line_shifts : List ℕ
  pub lines9 : List ℕ
  pub times : List ℕ
  pub lines10 : List ℕ
  pub pixels : List ℕ

-- header and counts: their lengths
unfoldable pub bytes1 : Block1 → ℕ → ℕ → List ℕ
bytes1 v header counts =
    let o = v.order in
    join (
    (1 ∷ [])
    ∷ digits o 2 282
    ∷ digits o 2 11
    ∷ (o ∷ [])
    ∷ v.satellite
    ∷ v.centre
    ∷ v.area
    ∷ v.other
    ∷ digits o 2 v.timeline
    ∷ digits o 8 v.started
    ∷ digits o 8 v.ended
    ∷ digits o 8 v.created
    ∷ digits o 4 header
    ∷ digits o 4 counts
    ∷ (v.quality1 ∷ [])
    ∷ (v.quality2 ∷ [])
    ∷ (v.quality3 ∷ [])
    ∷ (v.quality4 ∷ [])
    ∷ v.version
    ∷ v.name
    ∷ v.spare
    ∷ []
    )

unfoldable pub bytes2 : ℕ → Block2 → List ℕ
bytes2 o v =
    join (
    (2 ∷ [])
    ∷ digits o 2 50
    ∷ digits o 2 16
    ∷ digits o 2 v.columns
    ∷ digits o 2 v.lines
    ∷ (v.compression ∷ [])
    ∷ v.spare
    ∷ []
    )

-- a block of n bytes that only carries: 3, 4, 6 and 11
unfoldable pub carrying : ℕ → ℕ → ℕ → List ℕ → List ℕ
carrying k o n bytes = join ((k ∷ []) ∷ digits o 2 n ∷ bytes ∷ [])

unfoldable pub bytes5 : ℕ → Block5 → List ℕ
bytes5 o v =
    join (
    (5 ∷ [])
    ∷ digits o 2 147
    ∷ digits o 2 v.band
    ∷ digits o 8 v.wavelength
    ∷ digits o 2 v.bits
    ∷ digits o 2 65535
    ∷ digits o 2 65534
    ∷ digits o 8 v.gain
    ∷ digits o 8 v.constant
    ∷ v.carried
    ∷ []
    )

unfoldable pub bytes7 : ℕ → Block7 → List ℕ
bytes7 o v =
    join (
    (7 ∷ [])
    ∷ digits o 2 47
    ∷ (v.total ∷ [])
    ∷ (v.number ∷ [])
    ∷ digits o 2 v.first
    ∷ v.spare
    ∷ []
    )

-- an entry of each kind
unfoldable pub entry8 : ℕ → List ℕ → List ℕ → List ℕ → ℕ → List ℕ
entry8 o ls xs ys i = join (digits o 2 (get_or ls i 0) ∷ digits o 4 (get_or xs i 0) ∷ digits o 4 (get_or ys i 0) ∷ [])

unfoldable pub entry9 : ℕ → List ℕ → List ℕ → ℕ → List ℕ
entry9 o ls ts i = join (digits o 2 (get_or ls i 0) ∷ digits o 8 (get_or ts i 0) ∷ [])

unfoldable pub entry10 : ℕ → List ℕ → List ℕ → ℕ → List ℕ
entry10 o ls ps i = join (digits o 2 (get_or ls i 0) ∷ digits o 2 (get_or ps i 0) ∷ [])

unfoldable pub bytes8 : ℕ → Block8 → List ℕ → List ℕ → List ℕ → List ℕ
bytes8 o v ls xs ys =
    let a = length ls in
    join (
    (8 ∷ [])
    ∷ digits o 2 (length8 a)
    ∷ digits o 4 v.column
    ∷ digits o 4 v.line
    ∷ digits o 8 v.rotation
    ∷ digits o 2 a
    ∷ rows (entry8 o ls xs ys) a
    ∷ v.spare
    ∷ []
    )

unfoldable pub bytes9 : ℕ → List ℕ → List ℕ → List ℕ → List ℕ
bytes9 o spare ls ts =
    let b = length ls in
    join ((9 ∷ []) ∷ digits o 2 (length9 b) ∷ digits o 2 b ∷ rows (entry9 o ls ts) b ∷ spare ∷ [])

-- its length has four bytes
unfoldable pub bytes10 : ℕ → List ℕ → List ℕ → List ℕ → List ℕ
bytes10 o spare ls ps =
    let c = length ls in
    join ((10 ∷ []) ∷ digits o 4 (length10 c) ∷ digits o 2 c ∷ rows (entry10 o ls ps) c ∷ spare ∷ [])

-- blocks 1 to 7; header and counts: their lengths
unfoldable pub front_blocks : Header → ℕ → ℕ → List (List ℕ)
front_blocks v header counts =
    let o = v.block1.order in
    bytes1 v.block1 header counts
    ∷ bytes2 o v.block2
    ∷ carrying 3 o 127 v.carried3
    ∷ carrying 4 o 139 v.carried4
    ∷ bytes5 o v.block5
    ∷ carrying 6 o 259 v.carried6
    ∷ bytes7 o v.block7
    ∷ []

-- blocks 8 to 11
unfoldable pub back_blocks : Header → Entries → List (List ℕ)
back_blocks v e =
    let o = v.block1.order in
    bytes8 o v.block8 e.lines8 e.column_shifts e.line_shifts
    ∷ bytes9 o v.spare9 e.lines9 e.times
    ∷ bytes10 o v.spare10 e.lines10 e.pixels
    ∷ carrying 11 o 259 v.spare11
    ∷ []

-- the header's own length, by its entries
abbrev pub length_for : Entries → ℕ
length_for e = header_length (length e.lines8) (length e.lines9) (length e.lines10)

-- the eleven blocks, in their order
unfoldable pub blocks_of : Header → Entries → List (List ℕ)
blocks_of v e = front_blocks v (length_for e) (data_length v.block2.columns v.block2.lines) ++ back_blocks v e

unfoldable pub encode : Header → Entries → List ℕ
encode v e = join (blocks_of v e)
