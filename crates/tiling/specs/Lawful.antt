-- What document 01 asks of a header's values and entries, in its own words: texts, sets and arithmetic. Nothing here is taken from
-- the tables of checks, nor from the tests that stand in their rows.
use Rattle.std.specs.Prelude.{ℕ, ◌+◌, ◌*◌, ◌-◌, ◌/◌, ◌%◌, ◌≤◌, ◌≡◌, not, ◌&&◌, ◌||◌, cond, length, get_or, replicate, eqb}
use Prim.Native.Char.{code}
use Prim.Native.String.{String}
use Prim.Native.String as string
use mathlib.Core.List.{List, [], ◌∷◌, ◌++◌, Memᴰ}
use Rattle.header.specs.declared.Header.{Header}
use Rattle.header.specs.Encode.{Entries}

-- a text's bytes, and a number in two digits and in four
abbrev pub text : String → List ℕ
text string.[] = []
text (string.◌∷◌ c cs) = code c ∷ text cs

abbrev pub two_digits : ℕ → List ℕ
two_digits n = (48 + n / 10) ∷ (48 + n % 10) ∷ []

abbrev pub four_digits : ℕ → List ℕ
four_digits n = two_digits (n / 100) ++ two_digits (n % 100)

-- "Himawari-8" or "Himawari-9", then six zero bytes
pub data Satellite (t : List ℕ) : ℕ → Type 0 where
  eight : t ≡ text "Himawari-8" ++ replicate 6 0 → Satellite t 8
  nine : t ≡ text "Himawari-9" ++ replicate 6 0 → Satellite t 9

-- two letters, and a number 01 to n
pub record Series (letters : List ℕ) (n : ℕ) (t : List ℕ) : Type 0 where
  pub k : ℕ
  pub some : 1 ≤ k
  pub most : k ≤ n
  pub is : t ≡ letters ++ two_digits k

-- FLDK, JP01 to JP04, R301 to R304, R401 to R420, R501 to R520
pub data Area (t : List ℕ) : Type 0 where
  FLDK : t ≡ text "FLDK" → Area t
  JP : Series (text "JP") 4 t → Area t
  R3 : Series (text "R3") 4 t → Area t
  R4 : Series (text "R4") 20 t → Area t
  R5 : Series (text "R5") 20 t → Area t

-- hhmm as a number, hh 0 to 23, mm one of 0, 10, 20, 30, 40, 50
pub record Timeline (t : ℕ) : Type 0 where
  pub hh : ℕ
  pub mm : ℕ
  pub is : t ≡ hh * 100 + mm
  pub hour : hh ≤ 23
  pub minute : Memᴰ mm (0 ∷ 10 ∷ 20 ∷ 30 ∷ 40 ∷ 50 ∷ [])

-- each band with its valid bits and its resolution
abbrev pub bands : List (ℕ × ℕ × ℕ)
bands =
    (1, 11, 10)
    ∷ (2, 11, 10)
    ∷ (3, 11, 5)
    ∷ (4, 11, 10)
    ∷ (5, 11, 20)
    ∷ (6, 11, 20)
    ∷ (7, 14, 20)
    ∷ (8, 11, 20)
    ∷ (9, 11, 20)
    ∷ (10, 12, 20)
    ∷ (11, 12, 20)
    ∷ (12, 12, 20)
    ∷ (13, 12, 20)
    ∷ (14, 12, 20)
    ∷ (15, 12, 20)
    ∷ (16, 11, 20)
    ∷ []

-- how long the months of a year are; every fourth year is leap, but of the centuries only every fourth
abbrev pub february : ℕ → ℕ
february y = cond (eqb (y % 4) 0 && (not (eqb (y % 100) 0) || eqb (y % 400) 0)) 29 28

abbrev pub months : ℕ → List ℕ
months y = 31 ∷ february y ∷ 31 ∷ 30 ∷ 31 ∷ 30 ∷ 31 ∷ 31 ∷ 30 ∷ 31 ∷ 30 ∷ 31 ∷ []

-- a real Gregorian date of 2000 to 2099
pub record Date (y m d : ℕ) : Type 0 where
  pub from : 2000 ≤ y
  pub to : y ≤ 2099
  pub first : 1 ≤ m
  pub last : m ≤ 12
  pub some : 1 ≤ d
  pub most : d ≤ get_or (months y) (m - 1) 0

-- HS_aaa_yyyymmdd_hhnn_Bbb_cccc_Rjj_Skkll.DAT, then 85 zero bytes
pub record Named (name : List ℕ) (satellite timeline band : ℕ) (area : List ℕ) (resolution number total : ℕ) : Type 0 where
  pub y : ℕ
  pub m : ℕ
  pub d : ℕ
  pub date : Date y m d
  pub is : name ≡ text "HS_H" ++ (two_digits satellite ++ (text "_" ++ ((four_digits y ++ (two_digits m ++ two_digits d)) ++ (text "_" ++ (four_digits timeline ++ (text "_B" ++ (two_digits band ++ (text "_" ++ (area
      ++ (text "_R" ++ (two_digits resolution ++ (text "_S" ++ (two_digits number ++ (two_digits total ++ (text ".DAT" ++ replicate 85 0)))))))))))))))

pub record Lawful (v : Header) (e : Entries) : Type 0 where
  -- byte order 0 or 1
  pub order : v.block1.order ≤ 1
  pub satellite : ℕ
  pub called : Satellite v.block1.satellite satellite
  pub area : Area v.block1.area
  pub timeline : Timeline v.block1.timeline
  -- columns and lines: 1 to 22,000; not packed
  pub some_columns : 1 ≤ v.block2.columns
  pub most_columns : v.block2.columns ≤ 22000
  pub some_lines : 1 ≤ v.block2.lines
  pub most_lines : v.block2.lines ≤ 22000
  pub unpacked : v.block2.compression ≡ 0
  -- band 1 to 16, with the valid bits of that band
  pub resolution : ℕ
  pub band : Memᴰ (v.block5.band, v.block5.bits, resolution) bands
  -- segment total 1 to 99, number 1 to the total, first line at least 1 with first line + lines - 1 at most 22,000
  pub some_total : 1 ≤ v.block7.total
  pub most_total : v.block7.total ≤ 99
  pub some_number : 1 ≤ v.block7.number
  pub most_number : v.block7.number ≤ v.block7.total
  pub some_first : 1 ≤ v.block7.first
  pub most_first : v.block7.first + v.block2.lines - 1 ≤ 22000
  -- at most 6,547, 6,549 and 65,535 entries, and of each all its parts
  pub few8 : length e.lines8 ≤ 6547
  pub xs : length e.column_shifts ≡ length e.lines8
  pub ys : length e.line_shifts ≡ length e.lines8
  pub few9 : length e.lines9 ≤ 6549
  pub ts : length e.times ≡ length e.lines9
  pub few10 : length e.lines10 ≤ 65535
  pub ps : length e.pixels ≡ length e.lines10
  -- the name agrees with all that
  pub name : Named v.block1.name satellite v.block1.timeline v.block5.band v.block1.area resolution v.block7.number v.block7.total
