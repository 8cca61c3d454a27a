-- The entries of blocks 8, 9 and 10, as a file has them.
use Rattle.std.specs.Prelude.{ℕ, ◌+◌, ◌*◌, List}
use Rattle.wire.specs.Wire.{span, num, tab}
use Rattle.header.specs.Places.{order_of, a_of, b_of, c_of, at8, at9, at10}
use Rattle.header.specs.Encode.{Entries}

-- n numbers of w bytes, the first at `at` and each a stride after the one before
unfoldable pub column : List ℕ → ℕ → ℕ → ℕ → ℕ → ℕ → List ℕ
column s o at stride w n = tab (λ (i : ℕ). num o (span s (at + stride * i) w)) n

unfoldable pub entries_of : List ℕ → Entries
entries_of s =
    let o = order_of s in
    let a = a_of s in
    let b = b_of s in
    let c = c_of s in
    record {
      lines8 = column s o (at8 + 21) 10 2 a;
      column_shifts = column s o (at8 + 23) 10 4 a;
      line_shifts = column s o (at8 + 27) 10 4 a;
      lines9 = column s o (at9 a + 5) 10 2 b;
      times = column s o (at9 a + 7) 10 8 b;
      lines10 = column s o (at10 a b + 7) 4 2 c;
      pixels = column s o (at10 a b + 9) 4 2 c;
    }
