-- The entries as they are lent, the sizes that the writer's checks leave, and what the parts of the writer store.
use Rattle.std.specs.Prelude.{ℕ, zero, suc, ◌+◌, ◌*◌, ◌≤◌, ◌≡◌, List, length, get_or}
use Rattle.header.specs.declared.Header.{Header}
use Rattle.wire.specs.Wire.{digits, store, join, rows, Stored}
use Rattle.header.specs.Places.{at8}
use Rattle.header.specs.Encode.{Entries, back_blocks, length_for, encode}

-- of block 8 lines, column shifts and line shifts, of 9 lines and times, of 10 lines and error pixels
abbrev pub entries_from : List ℕ → List ℕ → List ℕ → List ℕ → List ℕ → List ℕ → List ℕ → Entries
entries_from ls xs ys ms ts ns ps = record {
  lines8 = ls;
  column_shifts = xs;
  line_shifts = ys;
  lines9 = ms;
  times = ts;
  lines10 = ns;
  pixels = ps;
}

-- each count and length has room in its field
pub record Fits (v : Header) (e : Entries) : Type 0 where
  pub columns : v.block2.columns ≤ 22000
  pub lines : v.block2.lines ≤ 22000
  pub few8 : length e.lines8 ≤ 6547
  pub xs : length e.column_shifts ≡ length e.lines8
  pub ys : length e.line_shifts ≡ length e.lines8
  pub few9 : length e.lines9 ≤ 6549
  pub ts : length e.times ≡ length e.lines9
  pub few10 : length e.lines10 ≤ 65535
  pub ps : length e.pixels ≡ length e.lines10

-- ---- what was stored in l, which gave out

-- the bytes of the i-th of some numbers
abbrev pub bytes_of : ℕ → ℕ → List ℕ → ℕ → List ℕ
bytes_of o w ns i = digits o w (get_or ns i 0)

-- l with n pieces stored, the first at `at` and each a stride after the one before
unfoldable pub scattered : List ℕ → ℕ → ℕ → (ℕ → List ℕ) → ℕ → List ℕ
scattered l at stride f zero = l
scattered l at stride f (suc n) = store (scattered l at stride f n) (at + stride * n) (f n)

-- n entries of w bytes each, from at on
abbrev pub StoredRows : ℕ → ℕ → List ℕ → ℕ → (ℕ → List ℕ) → List ℕ → Type 0
StoredRows n w l at entry out = Stored (w * n) l at (rows entry n) out

-- blocks 8 to 11, which are 412 bytes and their entries
abbrev pub StoredBack : List ℕ → Header → Entries → List ℕ → Type 0
StoredBack l v e out = Stored (412 + 10 * length e.lines8 + 10 * length e.lines9 + 4 * length e.lines10) l at8 (join (back_blocks v e)) out

-- the whole header
abbrev pub StoredAll : List ℕ → Header → Entries → List ℕ → Type 0
StoredAll l v e out = Stored (length_for e) l 0 (encode v e) out
