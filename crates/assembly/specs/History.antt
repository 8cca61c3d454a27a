-- A frame that was opened and then offered files. A history is the list of the files offered since, THE NEWEST FIRST.
use Rattle.std.specs.Prelude.{ℕ, zero, suc, ◌+◌, ◌-◌, ◌≤◌, ◌≡◌, Bool, true, false, not, cond, ◌&&◌, ◌||◌, length, take, drop, replicate, eqb}
use mathlib.Core.List.{List, [], ◌∷◌, ◌++◌, Memᴰ}
use Rattle.rules.specs.Rules.{turned, row, tables, Ruling, fine, refused, judge}
use Rattle.accept.specs.Checks.{checks}
use Rattle.accept.specs.Answers.{facts_of}
use Rattle.slate.specs.declared.Slate.{Slate}
use Rattle.slate.specs.Cut.{lines_to, cover_of}
use Rattle.slate.specs.Slates.{size_of, place_of, matching}
use Rattle.frame.specs.Counts.{counts_of}
use Rattle.frame.specs.Records.{no_marks}
use Rattle.frame.specs.Frames.{unwritten, open_frame, offered, record_after, frame_after}

abbrev pub File : Type 0
File = List ℕ

-- ---- what the functions do: the newest record and frame are handed on from offer to offer

pub record State : Type 0 where
  pub marks : List Bool
  pub frame : List ℕ

abbrev pub next : Slate → State → File → State
next s h f = record { marks = record_after s h.marks (length h.frame) f; frame = frame_after s h.marks h.frame f }

-- `frame` is the strip that was lent at opening
abbrev pub held_after : Slate → List ℕ → List File → State
held_after s frame [] = record { marks = no_marks; frame = open_frame s frame }
held_after s frame (f ∷ fs) = next s (held_after s frame fs) f

-- what a file is answered after a history
abbrev pub answer : Slate → List ℕ → List File → File → Ruling
answer s frame fs f = offered s (held_after s frame fs).marks (length (held_after s frame fs).frame) f

-- the answers, the newest first
abbrev pub answers : Slate → List ℕ → List File → List Ruling
answers s frame [] = []
answers s frame (f ∷ fs) = answer s frame fs f ∷ answers s frame fs

abbrev pub is_fine : Ruling → Bool
is_fine fine = true
is_fine (refused t) = false

abbrev pub is_already : Ruling → Bool
is_already fine = false
is_already (refused (turned number block offset)) = eqb number 16

-- how many of the answers are ALREADY
abbrev pub alreadies : List Ruling → ℕ
alreadies [] = 0
alreadies (v ∷ vs) = cond (is_already v) 1 0 + alreadies vs

-- a file with the number k was placed: it was offered, and nothing was wrong
abbrev pub placed : ℕ → List File → List Ruling → Bool
placed k [] vs = false
placed k (f ∷ fs) [] = false
placed k (f ∷ fs) (v ∷ vs) = placed k fs vs || (is_fine v && eqb (facts_of f).number k)

-- ---- what it is to amount to, by the files alone

-- f is accepted, matches the slate and bears the number k
unfoldable pub bears : Slate → ℕ → File → Bool
bears s k f = is_fine (judge fine (checks f)) && matching s (facts_of f) && eqb (facts_of f).number k

-- such a file was among those offered
abbrev pub came : Slate → ℕ → List File → Bool
came s k [] = false
came s k (f ∷ fs) = came s k fs || bears s k f

-- how many of the files bear k
abbrev pub bearers : Slate → ℕ → List File → ℕ
bearers s k [] = 0
bearers s k (f ∷ fs) = cond (bears s k f) 1 0 + bearers s k fs

-- no two matching files bear one segment number
abbrev pub Apart : Slate → List File → Type 0
Apart s fs = (k : ℕ) → bearers s k fs ≤ 1

-- any two that do carry the same counts
abbrev pub Agree : Slate → List File → Type 0
Agree s fs = (k : ℕ) (f g : File) → Memᴰ f fs → Memᴰ g fs → bears s k f ≡ true → bears s k g ≡ true → counts_of f ≡ counts_of g

-- what a file is answered where no other bears its number
abbrev pub alone : Slate → File → Ruling
alone s f = judge fine (tables (checks f ∷ (row (matching s (facts_of f)) 15 0 0 ∷ []) ∷ []))

-- 65,534 throughout segment k
abbrev pub empty : Slate → ℕ → List ℕ
empty s k = replicate (size_of s k) unwritten

-- the counts of segment k: those of the first file that came with them, or 65,534 throughout
abbrev pub segment : Slate → List File → ℕ → List ℕ
segment s [] k = empty s k
segment s (f ∷ fs) k = cond (not (came s k fs) && bears s k f) (counts_of f) (segment s fs k)

-- where the counts of segment k come from: a file of the history that bears k
pub record Source (s : Slate) (k : ℕ) (fs : List File) : Type 0 where
  pub file : File
  pub member : Memᴰ file fs
  pub bearing : bears s k file ≡ true
  pub counts : segment s fs k ≡ counts_of file

-- segments 1 to n, one after the other
abbrev pub joined : {A : Type 0} → (ℕ → List A) → ℕ → List A
joined g zero = []
joined g (suc n) = joined g n ++ g (suc n)

-- ---- lines

-- a line of a run of counts, both counted from 1
abbrev pub line_in : Slate → List ℕ → ℕ → List ℕ
line_in s counts line = take s.columns (drop (place_of s line 1) counts)

-- which line a frame's line is of the segment that covers it
abbrev pub within_of : Slate → ℕ → ℕ
within_of s line = line - lines_to s (cover_of s line - 1)
