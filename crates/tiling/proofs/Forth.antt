-- The encoding of good values and entries, and then counts of the right length, is accepted, and reads back.
-- Assumes nothing.
use mathlib.Core.Path.{◌≡◌, refl, ap, ◌∙◌}
use mathlib.Core.List.{List, [], ◌∷◌, ◌++◌}
use Prim.Native.Nat.{ℕ, ◌+◌, ◌*◌, ◌^◌, ◌≤◌, ◌<◌}
use native.Mathlib.Nat.{mul-le-mul}
use native.Mathlib.Omega.{arith}
use lib.ListN.{length, get_or, length-append}
use Rattle.wire.specs.Wire.{span, num, digits, join, rows}
use Rattle.wire.proofs.Numbers.{length_digits}
use Rattle.wire.proofs.Rows.{length_rows, tab_is}
use Rattle.wire.proofs.Pieces.{Reads, reads, num_of}
use Rattle.header.specs.declared.Header.{Header}
use Rattle.header.specs.Places.{order_of, a_of, b_of, c_of, at9, at10, at11, header_length, data_length}
use Rattle.header.specs.Values.{block1_of, block2_of, block5_of, block7_of, block8_of, header_of}
use Rattle.header.specs.Entries.{column, entries_of}
use Rattle.header.specs.Encode.{Entries, bytes1, bytes2, carrying, bytes5, bytes7, entry8, entry9, entry10, bytes8, bytes9, bytes10, front_blocks, back_blocks, blocks_of, encode}
use Rattle.writer.proofs.Good.{Good}
use Rattle.tiling.specs.Made.{Fit, Numbers}
use Rattle.accept.proofs.Tables.{Accepted}
use Rattle.tiling.proofs.Inside.{inside, row_of}

pub first : (s : List ℕ) (at x : ℕ) → span s at 1 ≡ x ∷ [] → get_or s at 0 ≡ x
unfolding span
first s at x e = ap (λ (l : List ℕ). get_or l 0 0) e

module _ (v : Header) (e : Entries) (t : List ℕ) (f : Fit v e) (g : Good v e) (size : length t ≡ data_length v.block2.columns v.block2.lines) where
  abbrev s : List ℕ
  s = encode v e ++ t

  abbrev o : ℕ
  o = v.block1.order

  abbrev a : ℕ
  a = length e.lines8

  abbrev b : ℕ
  b = length e.lines9

  abbrev c : ℕ
  c = length e.lines10

  abbrev header : ℕ
  header = header_length a b c

  abbrev counts : ℕ
  counts = data_length v.block2.columns v.block2.lines

  abbrev row8 : ℕ → List ℕ
  row8 = entry8 o e.lines8 e.column_shifts e.line_shifts

  abbrev row9 : ℕ → List ℕ
  row9 = entry9 o e.lines9 e.times

  abbrev row10 : ℕ → List ℕ
  row10 = entry10 o e.lines10 e.pixels

  long8 : (i : ℕ) → length (row8 i) ≡ 10
  unfolding entry8 join
  long8 i = simp (length-append, length_digits)

  long9 : (i : ℕ) → length (row9 i) ≡ 10
  unfolding entry9 join
  long9 i = simp (length-append, length_digits)

  long10 : (i : ℕ) → length (row10 i) ≡ 4
  unfolding entry10 join
  long10 i = simp (length-append, length_digits)

  -- the lengths of the blocks
  length1 : length (bytes1 v.block1 header counts) ≡ 282
  unfolding bytes1 join
  length1 = simp (length-append, length_digits, f.block1.satellite.long, f.block1.centre.long, f.block1.area.long, f.block1.other.long, f.block1.version.long, f.block1.name.long, f.block1.spare.long)

  length2 : length (bytes2 o v.block2) ≡ 50
  unfolding bytes2 join
  length2 = simp (length-append, length_digits, f.block2.spare.long)

  length_carrying : (k n m : ℕ) (l : List ℕ) → length l ≡ n → 3 + n ≡ m → length (carrying k o m l) ≡ m
  unfolding carrying join
  length_carrying k n m l h q = simp (length-append, length_digits, h) (omega arith)

  length5 : length (bytes5 o v.block5) ≡ 147
  unfolding bytes5 join
  length5 = simp (length-append, length_digits, f.block5.carried.long)

  length7 : length (bytes7 o v.block7) ≡ 47
  unfolding bytes7 join
  length7 = simp (length-append, length_digits, f.block7.spare.long)

  length8 : length (bytes8 o v.block8 e.lines8 e.column_shifts e.line_shifts) ≡ 61 + 10 * a
  unfolding bytes8 join
  length8 = simp (length-append, length_digits, length_rows row8 10 a long8, f.block8.spare.long) (omega arith)

  length9 : length (bytes9 o v.spare9 e.lines9 e.times) ≡ 45 + 10 * b
  unfolding bytes9 join
  length9 = simp (length-append, length_digits, length_rows row9 10 b long9, f.spare9.long) (omega arith)

  length10 : length (bytes10 o v.spare10 e.lines10 e.pixels) ≡ 47 + 4 * c
  unfolding bytes10 join
  length10 = simp (length-append, length_digits, length_rows row10 4 c long10, f.spare10.long) (omega arith)

  abbrev widths : List ℕ
  widths = 282 ∷ 50 ∷ 127 ∷ 139 ∷ 147 ∷ 259 ∷ 47 ∷ (61 + 10 * a) ∷ (45 + 10 * b) ∷ (47 + 4 * c) ∷ 259 ∷ []

  -- each block stands in its place
  blocks : Reads s 0 widths (blocks_of v e)
  unfolding encode blocks_of front_blocks back_blocks
  blocks = reads widths (blocks_of v e) [] t s 0 refl refl
      (length1, (length2, (length_carrying 3 124 127 v.carried3 f.carried3.long refl, (length_carrying 4 136 139 v.carried4 f.carried4.long refl, (length5, (length_carrying 6 256 259 v.carried6 f.carried6.long refl, (length7, (length8, (length9, (length10, (length_carrying 11 256 259 v.spare11 f.spare11.long refl, tt)))))))))))

  pub long_header : length (encode v e) ≡ header
  unfolding encode blocks_of front_blocks back_blocks join
  long_header = simp (length-append, length1, length2, length_carrying 3 124 127 v.carried3 f.carried3.long refl, length_carrying 4 136 139 v.carried4 f.carried4.long refl, length5, length_carrying 6 256 259 v.carried6 f.carried6.long refl, length7, length8, length9, length10, length_carrying 11 256 259 v.spare11 f.spare11.long refl) (omega arith)

  whole : length s ≡ header + counts
  whole = length-append (encode v e) t ∙ omega (arith, long_header, size)

  reads1 : Reads s 0 (1 ∷ 2 ∷ 2 ∷ 1 ∷ 16 ∷ 16 ∷ 4 ∷ 2 ∷ 2 ∷ 8 ∷ 8 ∷ 8 ∷ 4 ∷ 4 ∷ 1 ∷ 1 ∷ 1 ∷ 1 ∷ 32 ∷ 128 ∷ 40 ∷ []) ((1 ∷ []) ∷ digits o 2 282 ∷ digits o 2 11 ∷ (o ∷ []) ∷ v.block1.satellite ∷ v.block1.centre ∷ v.block1.area ∷ v.block1.other ∷ digits o 2 v.block1.timeline ∷ digits o 8 v.block1.started ∷ digits o 8 v.block1.ended ∷ digits o 8 v.block1.created ∷ digits o 4 header ∷ digits o 4 counts ∷ (v.block1.quality1 ∷ []) ∷ (v.block1.quality2 ∷ []) ∷ (v.block1.quality3 ∷ []) ∷ (v.block1.quality4 ∷ []) ∷ v.block1.version ∷ v.block1.name ∷ v.block1.spare ∷ [])
  unfolding bytes1 blocks_of front_blocks back_blocks
  reads1 = inside (1 ∷ 2 ∷ 2 ∷ 1 ∷ 16 ∷ 16 ∷ 4 ∷ 2 ∷ 2 ∷ 8 ∷ 8 ∷ 8 ∷ 4 ∷ 4 ∷ 1 ∷ 1 ∷ 1 ∷ 1 ∷ 32 ∷ 128 ∷ 40 ∷ []) _ s 0 282 blocks.0 (refl, (length_digits _ _ _, (length_digits _ _ _, (refl, (f.block1.satellite.long, (f.block1.centre.long, (f.block1.area.long, (f.block1.other.long, (length_digits _ _ _, (length_digits _ _ _, (length_digits _ _ _, (length_digits _ _ _, (length_digits _ _ _, (length_digits _ _ _, (refl, (refl, (refl, (refl, (f.block1.version.long, (f.block1.name.long, (f.block1.spare.long, tt))))))))))))))))))))) (omega arith)

  reads2 : Reads s 282 (1 ∷ 2 ∷ 2 ∷ 2 ∷ 2 ∷ 1 ∷ 40 ∷ []) ((2 ∷ []) ∷ digits o 2 50 ∷ digits o 2 16 ∷ digits o 2 v.block2.columns ∷ digits o 2 v.block2.lines ∷ (v.block2.compression ∷ []) ∷ v.block2.spare ∷ [])
  unfolding bytes2 blocks_of front_blocks back_blocks
  reads2 = inside (1 ∷ 2 ∷ 2 ∷ 2 ∷ 2 ∷ 1 ∷ 40 ∷ []) _ s 282 50 blocks.1.0 (refl, (length_digits _ _ _, (length_digits _ _ _, (length_digits _ _ _, (length_digits _ _ _, (refl, (f.block2.spare.long, tt))))))) (omega arith)

  reads_carrying : (k at n m : ℕ) (l : List ℕ) → length l ≡ n → 3 + n ≡ m → span s at m ≡ carrying k o m l → Reads s at (1 ∷ 2 ∷ n ∷ []) ((k ∷ []) ∷ digits o 2 m ∷ l ∷ [])
  unfolding carrying
  reads_carrying k at n m l h q r = inside (1 ∷ 2 ∷ n ∷ []) _ s at m r (refl, (length_digits _ _ _, (h, tt))) (omega arith)

  reads3 : Reads s 332 (1 ∷ 2 ∷ 124 ∷ []) ((3 ∷ []) ∷ digits o 2 127 ∷ v.carried3 ∷ [])
  unfolding blocks_of front_blocks back_blocks
  reads3 = reads_carrying 3 332 124 127 v.carried3 f.carried3.long refl blocks.1.1.0

  reads4 : Reads s 459 (1 ∷ 2 ∷ 136 ∷ []) ((4 ∷ []) ∷ digits o 2 139 ∷ v.carried4 ∷ [])
  unfolding blocks_of front_blocks back_blocks
  reads4 = reads_carrying 4 459 136 139 v.carried4 f.carried4.long refl blocks.1.1.1.0

  reads5 : Reads s 598 (1 ∷ 2 ∷ 2 ∷ 8 ∷ 2 ∷ 2 ∷ 2 ∷ 8 ∷ 8 ∷ 112 ∷ []) ((5 ∷ []) ∷ digits o 2 147 ∷ digits o 2 v.block5.band ∷ digits o 8 v.block5.wavelength ∷ digits o 2 v.block5.bits ∷ digits o 2 65535 ∷ digits o 2 65534 ∷ digits o 8 v.block5.gain ∷ digits o 8 v.block5.constant ∷ v.block5.carried ∷ [])
  unfolding bytes5 blocks_of front_blocks back_blocks
  reads5 = inside (1 ∷ 2 ∷ 2 ∷ 8 ∷ 2 ∷ 2 ∷ 2 ∷ 8 ∷ 8 ∷ 112 ∷ []) _ s 598 147 blocks.1.1.1.1.0 (refl, (length_digits _ _ _, (length_digits _ _ _, (length_digits _ _ _, (length_digits _ _ _, (length_digits _ _ _, (length_digits _ _ _, (length_digits _ _ _, (length_digits _ _ _, (f.block5.carried.long, tt)))))))))) (omega arith)

  reads6 : Reads s 745 (1 ∷ 2 ∷ 256 ∷ []) ((6 ∷ []) ∷ digits o 2 259 ∷ v.carried6 ∷ [])
  unfolding blocks_of front_blocks back_blocks
  reads6 = reads_carrying 6 745 256 259 v.carried6 f.carried6.long refl blocks.1.1.1.1.1.0

  reads7 : Reads s 1004 (1 ∷ 2 ∷ 1 ∷ 1 ∷ 2 ∷ 40 ∷ []) ((7 ∷ []) ∷ digits o 2 47 ∷ (v.block7.total ∷ []) ∷ (v.block7.number ∷ []) ∷ digits o 2 v.block7.first ∷ v.block7.spare ∷ [])
  unfolding bytes7 blocks_of front_blocks back_blocks
  reads7 = inside (1 ∷ 2 ∷ 1 ∷ 1 ∷ 2 ∷ 40 ∷ []) _ s 1004 47 blocks.1.1.1.1.1.1.0 (refl, (length_digits _ _ _, (refl, (refl, (length_digits _ _ _, (f.block7.spare.long, tt)))))) (omega arith)

  reads8 : Reads s 1051 (1 ∷ 2 ∷ 4 ∷ 4 ∷ 8 ∷ 2 ∷ 10 * a ∷ 40 ∷ []) ((8 ∷ []) ∷ digits o 2 (61 + 10 * a) ∷ digits o 4 v.block8.column ∷ digits o 4 v.block8.line ∷ digits o 8 v.block8.rotation ∷ digits o 2 a ∷ rows row8 a ∷ v.block8.spare ∷ [])
  unfolding bytes8 blocks_of front_blocks back_blocks
  reads8 = inside (1 ∷ 2 ∷ 4 ∷ 4 ∷ 8 ∷ 2 ∷ 10 * a ∷ 40 ∷ []) _ s 1051 (61 + 10 * a) blocks.1.1.1.1.1.1.1.0 (refl, (length_digits _ _ _, (length_digits _ _ _, (length_digits _ _ _, (length_digits _ _ _, (length_digits _ _ _, (length_rows row8 10 a long8, (f.block8.spare.long, tt)))))))) (omega arith)

  to9 : 1051 + (61 + 10 * a) ≡ at9 a
  to9 = omega arith

  to10 : 1051 + (61 + 10 * a) + (45 + 10 * b) ≡ at10 a b
  to10 = omega arith

  to11 : 1051 + (61 + 10 * a) + (45 + 10 * b) + (47 + 4 * c) ≡ at11 a b c
  to11 = omega arith

  reads9 : Reads s (at9 a) (1 ∷ 2 ∷ 2 ∷ 10 * b ∷ 40 ∷ []) ((9 ∷ []) ∷ digits o 2 (45 + 10 * b) ∷ digits o 2 b ∷ rows row9 b ∷ v.spare9 ∷ [])
  unfolding bytes9 blocks_of front_blocks back_blocks
  reads9 = inside (1 ∷ 2 ∷ 2 ∷ 10 * b ∷ 40 ∷ []) _ s (at9 a) (45 + 10 * b) (rw to9 at blocks.1.1.1.1.1.1.1.1.0) (refl, (length_digits _ _ _, (length_digits _ _ _, (length_rows row9 10 b long9, (f.spare9.long, tt))))) (omega arith)

  reads10 : Reads s (at10 a b) (1 ∷ 4 ∷ 2 ∷ 4 * c ∷ 40 ∷ []) ((10 ∷ []) ∷ digits o 4 (47 + 4 * c) ∷ digits o 2 c ∷ rows row10 c ∷ v.spare10 ∷ [])
  unfolding bytes10 blocks_of front_blocks back_blocks
  reads10 = inside (1 ∷ 4 ∷ 2 ∷ 4 * c ∷ 40 ∷ []) _ s (at10 a b) (47 + 4 * c) (rw to10 at blocks.1.1.1.1.1.1.1.1.1.0) (refl, (length_digits _ _ _, (length_digits _ _ _, (length_rows row10 4 c long10, (f.spare10.long, tt))))) (omega arith)

  reads11 : Reads s (at11 a b c) (1 ∷ 2 ∷ 256 ∷ []) ((11 ∷ []) ∷ digits o 2 259 ∷ v.spare11 ∷ [])
  unfolding blocks_of front_blocks back_blocks
  reads11 = reads_carrying 11 (at11 a b c) 256 259 v.spare11 f.spare11.long refl (rw to11 at blocks.1.1.1.1.1.1.1.1.1.1.0)

  -- the byte order and the entries' counts
  eo : order_of s ≡ o
  eo = first s 5 o reads1.1.1.1.0

  ea : a_of s ≡ a
  ea = num_of o (order_of s) 2 a _ eo reads8.1.1.1.1.1.0 (omega (arith, g.fits.few8))

  eb : b_of s ≡ b
  eb =
      let q : at9 a + 1 + 2 ≡ at9 a + 3 = omega arith in
      rw ea (num_of o (order_of s) 2 b _ eo (rw q at reads9.1.1.0) (omega (arith, g.fits.few9)))

  ec : c_of s ≡ c
  ec =
      let q : at10 a b + 1 + 4 ≡ at10 a b + 5 = omega arith in
      rw (eb, ea) (num_of o (order_of s) 2 c _ eo (rw q at reads10.1.1.0) (omega (arith, g.fits.few10)))

  -- each block reads back as its values
  back1 : block1_of s (order_of s) ≡ v.block1
  unfolding block1_of
  back1 = λ i. record {
    order = eo i;
    satellite = reads1.1.1.1.1.0 i;
    centre = reads1.1.1.1.1.1.0 i;
    area = reads1.1.1.1.1.1.1.0 i;
    other = reads1.1.1.1.1.1.1.1.0 i;
    timeline = (num_of o (order_of s) 2 v.block1.timeline _ eo reads1.1.1.1.1.1.1.1.1.0 f.block1.timeline) i;
    started = (num_of o (order_of s) 8 v.block1.started _ eo reads1.1.1.1.1.1.1.1.1.1.0 f.block1.started) i;
    ended = (num_of o (order_of s) 8 v.block1.ended _ eo reads1.1.1.1.1.1.1.1.1.1.1.0 f.block1.ended) i;
    created = (num_of o (order_of s) 8 v.block1.created _ eo reads1.1.1.1.1.1.1.1.1.1.1.1.0 f.block1.created) i;
    quality1 = first s 78 v.block1.quality1 reads1.1.1.1.1.1.1.1.1.1.1.1.1.1.1.0 i;
    quality2 = first s 79 v.block1.quality2 reads1.1.1.1.1.1.1.1.1.1.1.1.1.1.1.1.0 i;
    quality3 = first s 80 v.block1.quality3 reads1.1.1.1.1.1.1.1.1.1.1.1.1.1.1.1.1.0 i;
    quality4 = first s 81 v.block1.quality4 reads1.1.1.1.1.1.1.1.1.1.1.1.1.1.1.1.1.1.0 i;
    version = reads1.1.1.1.1.1.1.1.1.1.1.1.1.1.1.1.1.1.1.0 i;
    name = reads1.1.1.1.1.1.1.1.1.1.1.1.1.1.1.1.1.1.1.1.0 i;
    spare = reads1.1.1.1.1.1.1.1.1.1.1.1.1.1.1.1.1.1.1.1.1.0 i;
  }

  back2 : block2_of s (order_of s) ≡ v.block2
  unfolding block2_of
  back2 = λ i. record {
    columns = (num_of o (order_of s) 2 v.block2.columns _ eo reads2.1.1.1.0 f.block2.columns) i;
    lines = (num_of o (order_of s) 2 v.block2.lines _ eo reads2.1.1.1.1.0 f.block2.lines) i;
    compression = first s 291 v.block2.compression reads2.1.1.1.1.1.0 i;
    spare = reads2.1.1.1.1.1.1.0 i;
  }

  back5 : block5_of s (order_of s) ≡ v.block5
  unfolding block5_of
  back5 = λ i. record {
    band = (num_of o (order_of s) 2 v.block5.band _ eo reads5.1.1.0 f.block5.band) i;
    wavelength = (num_of o (order_of s) 8 v.block5.wavelength _ eo reads5.1.1.1.0 f.block5.wavelength) i;
    bits = (num_of o (order_of s) 2 v.block5.bits _ eo reads5.1.1.1.1.0 f.block5.bits) i;
    gain = (num_of o (order_of s) 8 v.block5.gain _ eo reads5.1.1.1.1.1.1.1.0 f.block5.gain) i;
    constant = (num_of o (order_of s) 8 v.block5.constant _ eo reads5.1.1.1.1.1.1.1.1.0 f.block5.constant) i;
    carried = reads5.1.1.1.1.1.1.1.1.1.0 i;
  }

  back7 : block7_of s (order_of s) ≡ v.block7
  unfolding block7_of
  back7 = λ i. record {
    total = first s 1007 v.block7.total reads7.1.1.0 i;
    number = first s 1008 v.block7.number reads7.1.1.1.0 i;
    first = (num_of o (order_of s) 2 v.block7.first _ eo reads7.1.1.1.1.0 f.block7.first) i;
    spare = reads7.1.1.1.1.1.0 i;
  }

  back8 : block8_of s (order_of s) a ≡ v.block8
  unfolding block8_of
  back8 = λ i. record {
    column = (num_of o (order_of s) 4 v.block8.column _ eo reads8.1.1.0 f.block8.column) i;
    line = (num_of o (order_of s) 4 v.block8.line _ eo reads8.1.1.1.0 f.block8.line) i;
    rotation = (num_of o (order_of s) 8 v.block8.rotation _ eo reads8.1.1.1.1.0 f.block8.rotation) i;
    spare = reads8.1.1.1.1.1.1.1.0 i;
  }

  spare9_back : span s (at9 (a_of s) + 5 + 10 * b_of s) 40 ≡ v.spare9
  spare9_back =
      let q : at9 a + 1 + 2 + 2 ≡ at9 a + 5 = omega arith in
      rw (eb, ea) (rw q at reads9.1.1.1.1.0)

  spare10_back : span s (at10 (a_of s) (b_of s) + 7 + 4 * c_of s) 40 ≡ v.spare10
  spare10_back =
      let q : at10 a b + 1 + 4 + 2 ≡ at10 a b + 7 = omega arith in
      rw (ec, eb, ea) (rw q at reads10.1.1.1.1.0)

  spare11_back : span s (at11 (a_of s) (b_of s) (c_of s) + 3) 256 ≡ v.spare11
  spare11_back =
      let q : at11 a b c + 1 + 2 ≡ at11 a b c + 3 = omega arith in
      rw (ec, eb, ea) (rw q at reads11.1.1.0)

  pub header_back : header_of s ≡ v
  unfolding header_of
  header_back =
      let b8 : block8_of s (order_of s) (a_of s) ≡ v.block8 = rw ea back8 in
      λ i. record {
        block1 = back1 i;
        block2 = back2 i;
        carried3 = reads3.1.1.0 i;
        carried4 = reads4.1.1.0 i;
        block5 = back5 i;
        carried6 = reads6.1.1.0 i;
        block7 = back7 i;
        block8 = b8 i;
        spare9 = spare9_back i;
        spare10 = spare10_back i;
        spare11 = spare11_back i;
      }

  -- a column of entries, from the bytes of each
  column_back : (l : List ℕ) (at stride w n : ℕ) → length l ≡ n → Numbers w l → ((i : ℕ) → i < n → span s (at + stride * i) w ≡ digits o w (get_or l i 0))
      → column s (order_of s) at stride w n ≡ l
  unfolding column
  column_back l at stride w n q fits r =
      tab_is (λ (i : ℕ). num (order_of s) (span s (at + stride * i) w)) n l q
      (λ i z. num_of o (order_of s) w (get_or l i 0) _ eo (r i z) (fits i (rw q z)))

  entries8 : (i : ℕ) → i < a → Reads s (1072 + 10 * i) (2 ∷ 4 ∷ 4 ∷ []) (digits o 2 (get_or e.lines8 i 0) ∷ digits o 4 (get_or e.column_shifts i 0) ∷ digits o 4 (get_or e.line_shifts i 0) ∷ [])
  unfolding entry8
  entries8 i z = inside (2 ∷ 4 ∷ 4 ∷ []) _ s (1072 + 10 * i) 10 (row_of s row8 1072 10 a long8 reads8.1.1.1.1.1.1.0 i z) (length_digits _ _ _, (length_digits _ _ _, (length_digits _ _ _, tt))) (omega arith)

  entries9 : (i : ℕ) → i < b → Reads s (at9 a + 5 + 10 * i) (2 ∷ 8 ∷ []) (digits o 2 (get_or e.lines9 i 0) ∷ digits o 8 (get_or e.times i 0) ∷ [])
  unfolding entry9
  entries9 i z =
      let q : at9 a + 1 + 2 + 2 ≡ at9 a + 5 = omega arith in
      inside (2 ∷ 8 ∷ []) _ s (at9 a + 5 + 10 * i) 10 (row_of s row9 (at9 a + 5) 10 b long9 (rw q at reads9.1.1.1.0) i z) (length_digits _ _ _, (length_digits _ _ _, tt)) (omega arith)

  entries10 : (i : ℕ) → i < c → Reads s (at10 a b + 7 + 4 * i) (2 ∷ 2 ∷ []) (digits o 2 (get_or e.lines10 i 0) ∷ digits o 2 (get_or e.pixels i 0) ∷ [])
  unfolding entry10
  entries10 i z =
      let q : at10 a b + 1 + 4 + 2 ≡ at10 a b + 7 = omega arith in
      inside (2 ∷ 2 ∷ []) _ s (at10 a b + 7 + 4 * i) 4 (row_of s row10 (at10 a b + 7) 4 c long10 (rw q at reads10.1.1.1.0) i z) (length_digits _ _ _, (length_digits _ _ _, tt)) (omega arith)

  -- a part of an entry, its place written from the column's start
  moved : (at to stride k w : ℕ) (i : ℕ) {p : List ℕ} → at + k ≡ to → span s (at + stride * i + k) w ≡ p → span s (to + stride * i) w ≡ p
  moved at to stride k w i q r =
      let m : at + stride * i + k ≡ to + stride * i = omega arith in
      rw m at r

  third : (i : ℕ) {p : List ℕ} → span s (1072 + 10 * i + 2 + 4) 4 ≡ p → span s (1078 + 10 * i) 4 ≡ p
  third i r =
      let m : 1072 + 10 * i + 2 + 4 ≡ 1078 + 10 * i = omega arith in
      rw m at r

  pub entries_back : entries_of s ≡ e
  unfolding entries_of
  entries_back =
      let q9 : at9 a + 5 + 2 ≡ at9 a + 7 = omega arith in
      let q10 : at10 a b + 7 + 2 ≡ at10 a b + 9 = omega arith in
      let l8 : column s (order_of s) 1072 10 2 (a_of s) ≡ e.lines8 = rw ea (column_back e.lines8 1072 10 2 a refl f.lines8 (λ i z. (entries8 i z).0)) in
      let x8 : column s (order_of s) 1074 10 4 (a_of s) ≡ e.column_shifts = rw ea (column_back e.column_shifts 1074 10 4 a g.fits.xs f.column_shifts (λ i z. moved 1072 1074 10 2 4 i refl (entries8 i z).1.0)) in
      let y8 : column s (order_of s) 1078 10 4 (a_of s) ≡ e.line_shifts = rw ea (column_back e.line_shifts 1078 10 4 a g.fits.ys f.line_shifts (λ i z. third i (entries8 i z).1.1.0)) in
      let l9 : column s (order_of s) (at9 (a_of s) + 5) 10 2 (b_of s) ≡ e.lines9 = rw (eb, ea) (column_back e.lines9 (at9 a + 5) 10 2 b refl f.lines9 (λ i z. (entries9 i z).0)) in
      let t9 : column s (order_of s) (at9 (a_of s) + 7) 10 8 (b_of s) ≡ e.times = rw (eb, ea) (column_back e.times (at9 a + 7) 10 8 b g.fits.ts f.times (λ i z. moved (at9 a + 5) (at9 a + 7) 10 2 8 i q9 (entries9 i z).1.0)) in
      let l10 : column s (order_of s) (at10 (a_of s) (b_of s) + 7) 4 2 (c_of s) ≡ e.lines10 = rw (ec, eb, ea) (column_back e.lines10 (at10 a b + 7) 4 2 c refl f.lines10 (λ i z. (entries10 i z).0)) in
      let p10 : column s (order_of s) (at10 (a_of s) (b_of s) + 9) 4 2 (c_of s) ≡ e.pixels = rw (ec, eb, ea) (column_back e.pixels (at10 a b + 9) 4 2 c g.fits.ps f.pixels (λ i z. moved (at10 a b + 7) (at10 a b + 9) 4 2 2 i q10 (entries10 i z).1.0)) in
      λ i. record {
        lines8 = l8 i;
        column_shifts = x8 i;
        line_shifts = y8 i;
        lines9 = l9 i;
        times = t9 i;
        lines10 = l10 i;
        pixels = p10 i;
      }

  -- the length of the counts fits four bytes: columns and lines are at most 22,000
  few_counts : counts < 256 ^ 4
  few_counts =
      let p = g.fits.columns in
      let d : 2 * v.block2.columns ≤ 44000 = omega arith in
      omega (arith, mul-le-mul d g.fits.lines)

  pub accepted_back : Accepted s
  accepted_back = record {
    shape1 = record {
      room = omega (arith, whole);
      number = first s 0 1 reads1.0;
      order = rw eo g.order;
      size = num_of o (order_of s) 2 282 _ eo reads1.1.0 (omega arith);
      blocks = num_of o (order_of s) 2 11 _ eo reads1.1.1.0 (omega arith);
    };
    fields1 = rw back1 g.fields1;
    shape2 = record {
      room = omega (arith, whole);
      number = first s 282 2 reads2.0;
      size = num_of o (order_of s) 2 50 _ eo reads2.1.0 (omega arith);
    };
    bits = num_of o (order_of s) 2 16 _ eo reads2.1.1.0 (omega arith);
    fields2 = rw back2 g.fields2;
    shape3 = record {
      room = omega (arith, whole);
      number = first s 332 3 reads3.0;
      size = num_of o (order_of s) 2 127 _ eo reads3.1.0 (omega arith);
    };
    shape4 = record {
      room = omega (arith, whole);
      number = first s 459 4 reads4.0;
      size = num_of o (order_of s) 2 139 _ eo reads4.1.0 (omega arith);
    };
    shape5 = record {
      room = omega (arith, whole);
      number = first s 598 5 reads5.0;
      size = num_of o (order_of s) 2 147 _ eo reads5.1.0 (omega arith);
    };
    error = num_of o (order_of s) 2 65535 _ eo reads5.1.1.1.1.1.0 (omega arith);
    outside = num_of o (order_of s) 2 65534 _ eo reads5.1.1.1.1.1.1.0 (omega arith);
    fields5 = rw back5 g.fields5;
    shape6 = record {
      room = omega (arith, whole);
      number = first s 745 6 reads6.0;
      size = num_of o (order_of s) 2 259 _ eo reads6.1.0 (omega arith);
    };
    shape7 = record {
      room = omega (arith, whole);
      number = first s 1004 7 reads7.0;
      size = num_of o (order_of s) 2 47 _ eo reads7.1.0 (omega arith);
    };
    fields7 = rw (back7, back2) g.fields7;
    block8 = rw ea record {
      least_room = omega (arith, whole);
      number = first s 1051 8 reads8.0;
      size = num_of o (order_of s) 2 (61 + 10 * a) _ eo reads8.1.0 (omega (arith, g.fits.few8));
      room = omega (arith, whole);
    };
    block9 = rw (eb, ea) record {
      least_room = omega (arith, whole);
      number = first s (at9 a) 9 reads9.0;
      size = num_of o (order_of s) 2 (45 + 10 * b) _ eo reads9.1.0 (omega (arith, g.fits.few9));
      room = omega (arith, whole);
    };
    block10 = rw (ec, eb, ea) record {
      least_room = omega (arith, whole);
      number = first s (at10 a b) 10 reads10.0;
      size = num_of o (order_of s) 4 (47 + 4 * c) _ eo reads10.1.0 (omega (arith, g.fits.few10));
      room = omega (arith, whole);
    };
    shape11 = rw (ec, eb, ea) record {
      room = omega (arith, whole);
      number = first s (at11 a b c) 11 reads11.0;
      size = num_of o (order_of s) 2 259 _ eo reads11.1.0 (omega arith);
    };
    whole = rw (back2, ec, eb, ea) record {
      header_sum = num_of o (order_of s) 4 header _ eo reads1.1.1.1.1.1.1.1.1.1.1.1.1.0 (omega (arith, g.fits.few8, g.fits.few9, g.fits.few10));
      data_sum = num_of o (order_of s) 4 counts _ eo reads1.1.1.1.1.1.1.1.1.1.1.1.1.1.0 (few_counts);
      cut = omega (arith, whole);
      tail = omega (arith, whole);
    };
    names = rw (back1, back5, back7) g.names;
  }
