-- The header's values by block, as the file s has them in the byte order o: each at its block's place and the paper's offset.
use Rattle.std.specs.Prelude.{ℕ, ◌+◌, ◌*◌, List, get_or}
use Rattle.wire.specs.Wire.{span, num}
use Rattle.header.specs.declared.Block1.{Block1}
use Rattle.header.specs.declared.Block2.{Block2}
use Rattle.header.specs.declared.Block5.{Block5}
use Rattle.header.specs.declared.Block7.{Block7}
use Rattle.header.specs.declared.Block8.{Block8}
use Rattle.header.specs.declared.Header.{Header}
use Rattle.header.specs.Places.{order_of, a_of, b_of, c_of, at2, at3, at4, at5, at6, at7, at8, at9, at10, at11}

unfoldable pub block1_of : List ℕ → ℕ → Block1
block1_of s o = record {
  order = o;
  satellite = span s 6 16;
  centre = span s 22 16;
  area = span s 38 4;
  other = span s 42 2;
  timeline = num o (span s 44 2);
  started = num o (span s 46 8);
  ended = num o (span s 54 8);
  created = num o (span s 62 8);
  quality1 = get_or s 78 0;
  quality2 = get_or s 79 0;
  quality3 = get_or s 80 0;
  quality4 = get_or s 81 0;
  version = span s 82 32;
  name = span s 114 128;
  spare = span s 242 40;
}

unfoldable pub block2_of : List ℕ → ℕ → Block2
block2_of s o = record {
  columns = num o (span s (at2 + 5) 2);
  lines = num o (span s (at2 + 7) 2);
  compression = get_or s (at2 + 9) 0;
  spare = span s (at2 + 10) 40;
}

unfoldable pub block5_of : List ℕ → ℕ → Block5
block5_of s o = record {
  band = num o (span s (at5 + 3) 2);
  wavelength = num o (span s (at5 + 5) 8);
  bits = num o (span s (at5 + 13) 2);
  gain = num o (span s (at5 + 19) 8);
  constant = num o (span s (at5 + 27) 8);
  carried = span s (at5 + 35) 112;
}

unfoldable pub block7_of : List ℕ → ℕ → Block7
block7_of s o = record {
  total = get_or s (at7 + 3) 0;
  number = get_or s (at7 + 4) 0;
  first = num o (span s (at7 + 5) 2);
  spare = span s (at7 + 7) 40;
}

-- a: the entries of block 8, before its spare
unfoldable pub block8_of : List ℕ → ℕ → ℕ → Block8
block8_of s o a = record {
  column = num o (span s (at8 + 3) 4);
  line = num o (span s (at8 + 7) 4);
  rotation = num o (span s (at8 + 11) 8);
  spare = span s (at8 + 21 + 10 * a) 40;
}

-- every value that is not derived, but the entries
unfoldable pub header_of : List ℕ → Header
header_of s =
    let o = order_of s in
    let a = a_of s in
    let b = b_of s in
    let c = c_of s in
    record {
      block1 = block1_of s o;
      block2 = block2_of s o;
      carried3 = span s (at3 + 3) 124;
      carried4 = span s (at4 + 3) 136;
      block5 = block5_of s o;
      carried6 = span s (at6 + 3) 256;
      block7 = block7_of s o;
      block8 = block8_of s o a;
      spare9 = span s (at9 a + 5 + 10 * b) 40;
      spare10 = span s (at10 a b + 7 + 4 * c) 40;
      spare11 = span s (at11 a b c + 3) 256;
    }
