-- Refusals in the paper's own numbers, and tables of checks: the first that fails answers.
use Rattle.std.specs.Prelude.{ℕ, ◌≡◌, List, [], ◌∷◌, ◌++◌, Bool, true, false, Result, Ok, Err}
use Rattle.rules.specs.declared.Why.{Why}
use Rattle.rules.specs.declared.Why.TheVariants.{Short, Number, Order, Length, Fixed, Packed, HeaderSum, DataSum, Name, Cut, Tail, Slate, Strip, OtherShot, Already, Room, Reel, Run, Satellite, Area, Timeline, Size, Compression, Band, Bits, Segment, Day}
use Rattle.rules.specs.declared.Refusal.{Refusal}

-- the paper's number of a refusal
abbrev pub number_of : Why → ℕ
number_of Short = 1
number_of Number = 2
number_of Order = 3
number_of Length = 4
number_of Fixed = 5
number_of Packed = 6
number_of HeaderSum = 8
number_of DataSum = 9
number_of Name = 10
number_of Cut = 11
number_of Tail = 12
number_of Slate = 13
number_of Strip = 14
number_of OtherShot = 15
number_of Already = 16
number_of Room = 17
number_of Reel = 18
number_of Run = 19
number_of Satellite = 31
number_of Area = 32
number_of Timeline = 33
number_of Size = 34
number_of Compression = 35
number_of Band = 36
number_of Bits = 37
number_of Segment = 38
number_of Day = 39

-- what the paper says with a refusal: its number, its block and the offset of the field at fault
pub data Turned : Type 0 where
  turned : ℕ → ℕ → ℕ → Turned

abbrev pub paper_of : Refusal → Turned
paper_of t = turned (number_of t.why) t.block t.offset

-- what the paper says after some checks: nothing is wrong, or a refusal
pub data Ruling : Type 0 where
  fine : Ruling
  refused : Turned → Ruling

-- what a function answers that makes checks and gives no value
abbrev pub Verdict : Type 0
Verdict = Result Unit Refusal

abbrev pub paper : {A : Type 0} → Result A Refusal → Ruling
paper (Ok a) = fine
paper (Err t) = refused (paper_of t)

-- a test, and the refusal where it is false
pub data Row : Type 0 where
  test : Bool → Turned → Row

abbrev pub row : Bool → ℕ → ℕ → ℕ → Row
row ok number block offset = test ok (turned number block offset)

-- one check more, on top of what the checks before it said
abbrev pub checked : Ruling → Bool → Turned → Ruling
checked (refused u) ok t = refused u
checked fine true t = fine
checked fine false t = refused t

-- a table of checks, made in its order
abbrev pub judge : Ruling → List Row → Ruling
judge v [] = v
judge v (test ok t ∷ rs) = judge (checked v ok t) rs

-- the first row that fails shows u: every row before it holds
pub data First : List Row → Turned → Type 0 where
  here : {ok : Bool} {u : Turned} {rs : List Row} → ok ≡ false → First (test ok u ∷ rs) u
  later : {ok : Bool} {t u : Turned} {rs : List Row} → ok ≡ true → First rs u → First (test ok t ∷ rs) u

-- tables one after the other
abbrev pub tables : List (List Row) → List Row
tables [] = []
tables (t ∷ ts) = t ++ tables ts

-- values that come from no file have no place in one: the offset is 0, in a ruling and in every row of a table
abbrev pub placeless : Ruling → Ruling
placeless fine = fine
placeless (refused (turned n b p)) = refused (turned n b 0)

unfoldable pub unplaced : List Row → List Row
unplaced [] = []
unplaced (test ok (turned n b p) ∷ rs) = test ok (turned n b 0) ∷ unplaced rs

-- what a function answers in the paper's words: a value, or a refusal
pub data Reply (A : Type 0) : Type 0 where
  says : A → Reply A
  refuses : Turned → Reply A

-- a function's value or refusal, in the paper's words
abbrev pub paper_reply : {A : Type 0} → Result A Refusal → Reply A
paper_reply (Ok a) = says a
paper_reply (Err t) = refuses (paper_of t)

-- the value where nothing is wrong, and else the refusal
abbrev pub reply : {A : Type 0} → Ruling → A → Reply A
reply fine a = says a
reply (refused t) a = refuses t

-- what stands after a ruling: the new where nothing is wrong, and else the old
unfoldable pub after : {A : Type 0} → Ruling → A → A → A
after fine old new = new
after (refused t) old new = old
