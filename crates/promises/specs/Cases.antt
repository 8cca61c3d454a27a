-- The cases of document 01 that are marked P, in its order: one table, and what each line of it says of whatever call is made with those numbers.
use Rattle.std.specs.Prelude.{◌≡◌, true, false, List, [], ◌∷◌, ℕ, ◌+◌, ℤ, pos, negsuc, Float, length}
use Rattle.std.specs.Float.{fin}
use Rattle.wire.specs.Wire.{span}
use Rattle.rules.specs.Rules.{Turned, turned, Row, tables, Ruling, fine, refused, judge, Reply, says, refuses, paper_reply}
use Rattle.header.specs.declared.Header.{Header}
use Rattle.header.specs.Places.{order_of, a_of, b_of, c_of, length8, length9, length10, length_of, data_length}
use Rattle.header.specs.Values.{block2_of}
use Rattle.header.specs.Encode.{Entries}
use Rattle.accept.specs.Checks.{fields1, fields2, fields5, fields7, sums, ends, blocks1to4, blocks5to7, blocks8to11}
use Rattle.accept.specs.Answers.{answer_of}
use Rattle.writer.specs.Given.{orders, lengths8, ruled}
use Rattle.tiling.specs.Lawful.{text}
use Rattle.calendar.specs.Dates.{paper_day}
use Rattle.calendar.proofs.day_of.Reads as day_of
use Rattle.calendar.proofs.slot.Reads as slots
use Rattle.calendar.proofs.frame_number.Reads as frame_number
use Rattle.header.proofs.header_length.Reads as header_length
use Rattle.reading.proofs.read.Reads as read
use Rattle.reading.specs.declared.Reading.{Reading}
use Rattle.reading.specs.declared.Reading.TheVariants.{Radiance, Outside, OverRange, Uncalibrated}

pub data Case : Type 0 where
  -- the entries of blocks 8, 9 and 10: the header's length
  header : ℕ → ℕ → ℕ → ℕ → Case
  -- a block with entries: its length
  block8 : ℕ → ℕ → Case
  block9 : ℕ → ℕ → Case
  block10 : ℕ → ℕ → Case
  -- so many entries of block 8: what the writer says of their number
  written8 : ℕ → Ruling → Case
  -- so many that, whatever else is given, nothing is written: the refusal where nothing before is wrong
  unwritten8 : ℕ → Turned → Case
  -- a gain, a constant, valid bits and a count: its reading
  count : Float → Float → ℕ → ℕ → Reading → Case
  -- a year, month and day: its Modified Julian Day
  date : ℕ → ℕ → ℕ → Reply ℕ → Case
  -- eight bytes for the date in the name of a file whose every other check holds: its refusal
  name : List ℕ → Turned → Case
  -- a day and timeline: its slot
  slot : ℕ → ℕ → Reply ℕ → Case
  -- the first shot's day and timeline, and the shot's: its film frame number
  film : ℕ → ℕ → ℕ → ℕ → Reply ℤ → Case

-- every check of a file but NAME
abbrev pub others : List ℕ → List (List Row)
others s =
    let o = order_of s in
    let counts = data_length (block2_of s o).columns (block2_of s o).lines in
    blocks1to4 s o ∷ blocks5to7 s o ∷ blocks8to11 s o (a_of s) (b_of s) (c_of s) ∷ sums s o (length_of s) counts ∷ ends s (length_of s) counts ∷ []

-- every check of the writer before block 8
abbrev pub before8 : Header → List (List Row)
before8 v = orders v.block1.order ∷ fields1 v.block1 ∷ fields2 v.block2 ∷ fields5 v.block5 ∷ fields7 v.block7 v.block2.lines ∷ []

abbrev pub Holds : Case → Type 0
Holds (header a b c n) = (κ : _) (x : _) (r : _) (t : _) → header_length.Post κ x r t → x.0 ≡ a → x.1.0 ≡ b → x.1.1.0 ≡ c → r ≡ n
Holds (block8 a n) = length8 a ≡ n
Holds (block9 b n) = length9 b ≡ n
Holds (block10 c n) = length10 c ≡ n
Holds (written8 a r) = judge fine (lengths8 a a a) ≡ r
Holds (unwritten8 a u) = (v : Header) (e : Entries) (n : ℕ) → length e.lines8 ≡ a → (ruled v e n ≡ fine → ⊥) × (judge fine (tables (before8 v)) ≡ fine → ruled v e n ≡ refused u)
Holds (count g k bits n r) = (κ : _) (x : _) (y : _) (t : _) → read.Post κ x y t → x.0 ≡ record { gain = g; constant = k; bits = bits } → x.1.0 ≡ n → y ≡ r
Holds (date y m d r) = (κ : _) (x : _) (z : _) (t : _) → day_of.Post κ x z t → x.0 ≡ y → x.1.0 ≡ m → x.1.1.0 ≡ d → paper_day z ≡ r
Holds (name day u) = (s : List ℕ) → judge fine (tables (others s)) ≡ fine → span s (114 + 7) 8 ≡ day → answer_of s ≡ refuses u
Holds (slot d t r) = (κ : _) (x : _) (z : _) (w : _) → slots.Post κ x z w → x.0 ≡ d → x.1.0 ≡ t → paper_reply z ≡ r
Holds (film d₀ t₀ d t r) = (κ : _) (x : _) (z : _) (w : _) → frame_number.Post κ x z w → x.0 ≡ d₀ → x.1.0 ≡ t₀ → x.1.1.0 ≡ d → x.1.1.1.0 ≡ t → paper_reply z ≡ r

abbrev pub All : List Case → Type 0
All [] = Unit
All (x ∷ xs) = Holds x × All xs

-- m and e stand for m times 2 to the e: 0.5, 4.0, 1,022.5 and 2 to the 1023; -1 has the sign
abbrev half : Float
half = fin false 1 (negsuc 0)

abbrev minus_one : Float
minus_one = fin true 1 (pos 0)

abbrev four : Float
four = fin false 1 (pos 2)

abbrev highest : Float
highest = fin false 2045 (negsuc 0)

abbrev huge : Float
huge = fin false 1 (pos 1023)

abbrev pub table : List Case
table =
    header 0 0 0 1463
    ∷ header 4 2 0 1523
    ∷ block8 6547 65531
    ∷ written8 6547 fine
    ∷ unwritten8 6548 (turned 4 8 0)
    ∷ block9 6549 65535
    ∷ block10 65535 262187
    ∷ header 6547 6549 65535 394563
    ∷ count half minus_one 11 10 (Radiance four)
    ∷ count half minus_one 11 2047 (Radiance highest)
    ∷ count half minus_one 11 2048 OverRange
    ∷ count half minus_one 11 65534 Outside
    ∷ count huge minus_one 11 2 Uncalibrated
    ∷ date 2015 7 7 (says 57210)
    ∷ date 2099 12 31 (says 88068)
    ∷ name (text "20230229") (turned 10 1 114)
    ∷ slot 57210 200 (says 8238252)
    ∷ film 57209 2350 57210 0 (says (pos 1))
    ∷ film 57210 0 57209 2350 (says (negsuc 0))
    ∷ []
