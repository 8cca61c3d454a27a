-- What is read of a file: its values, and the entries of blocks 8, 9 and 10 into lent slices.
use Rattle.std.specs.Prelude.{ℕ, ◌≡◌, List, [], ◌∷◌, ◌++◌, length, drop, leb}
use Rattle.rules.specs.Rules.{Row, row, tables, judge, Ruling, fine, paper, after, Verdict}
use Rattle.header.specs.Places.{a_of, b_of, c_of}
use Rattle.header.specs.Values.{header_of}
use Rattle.header.specs.Entries.{entries_of}
use Rattle.accept.specs.Checks.{checks}
use Rattle.reader.specs.declared.HeaderRead.{HeaderRead}

-- the values of a file that is accepted; of one that is not, those of no bytes, which are all 0
pub record ReadAs (s : List ℕ) (r : HeaderRead) : Type 0 where
  pub says : paper r.verdict ≡ judge fine (checks s)
  pub is : r.header ≡ after (judge fine (checks s)) (header_of []) (header_of s)

-- 17 ROOM: slices of x, y and z numbers hold n
unfoldable pub rooms2 : ℕ → ℕ → ℕ → List Row
rooms2 n x y = row (leb n x) 17 0 0 ∷ row (leb n y) 17 0 0 ∷ []

unfoldable pub rooms3 : ℕ → ℕ → ℕ → ℕ → List Row
rooms3 n x y z = row (leb n x) 17 0 0 ∷ row (leb n y) 17 0 0 ∷ row (leb n z) 17 0 0 ∷ []

-- a file's checks, and then the rooms
abbrev pub read_ruling : List ℕ → List Row → Ruling
read_ruling s rooms = judge fine (tables (checks s ∷ rooms ∷ []))

-- a lent slice afterwards: the n numbers that were read and the rest as it was, or all as it was
unfoldable pub filled : Ruling → ℕ → List ℕ → List ℕ → List ℕ
filled r n new l = after r l (new ++ drop n l)

-- block 8: lines, column shifts and line shifts
abbrev shifting : List ℕ → List ℕ → List ℕ → List ℕ → Ruling
shifting s ls xs ys = read_ruling s (rooms3 (a_of s) (length ls) (length xs) (length ys))

pub record Shifts (s ls xs ys : List ℕ) (r : Verdict) (ls' xs' ys' : List ℕ) : Type 0 where
  pub says : paper r ≡ shifting s ls xs ys
  pub lines : ls' ≡ filled (shifting s ls xs ys) (a_of s) (entries_of s).lines8 ls
  pub column_shifts : xs' ≡ filled (shifting s ls xs ys) (a_of s) (entries_of s).column_shifts xs
  pub line_shifts : ys' ≡ filled (shifting s ls xs ys) (a_of s) (entries_of s).line_shifts ys

-- block 9: lines and times
abbrev timing : List ℕ → List ℕ → List ℕ → Ruling
timing s ls ts = read_ruling s (rooms2 (b_of s) (length ls) (length ts))

pub record Times (s ls ts : List ℕ) (r : Verdict) (ls' ts' : List ℕ) : Type 0 where
  pub says : paper r ≡ timing s ls ts
  pub lines : ls' ≡ filled (timing s ls ts) (b_of s) (entries_of s).lines9 ls
  pub times : ts' ≡ filled (timing s ls ts) (b_of s) (entries_of s).times ts

-- block 10: lines and error pixels
abbrev erring : List ℕ → List ℕ → List ℕ → Ruling
erring s ls ps = read_ruling s (rooms2 (c_of s) (length ls) (length ps))

pub record Errors (s ls ps : List ℕ) (r : Verdict) (ls' ps' : List ℕ) : Type 0 where
  pub says : paper r ≡ erring s ls ps
  pub lines : ls' ≡ filled (erring s ls ps) (c_of s) (entries_of s).lines10 ls
  pub pixels : ps' ≡ filled (erring s ls ps) (c_of s) (entries_of s).pixels ps
