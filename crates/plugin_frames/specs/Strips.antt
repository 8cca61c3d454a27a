-- A frame as C holds it: a slate of plain numbers, 99 lent marks, and a lent strip of counts.
use Rattle.std.specs.Prelude.{ℕ, zero, suc, ◌-◌, Bool, false, cond, ◌&&◌, List, [], ◌∷◌, ◌++◌, length, drop, get_or, eqb, leb}
use Rattle.wire.specs.Wire.{tab}
use Rattle.rules.specs.Rules.{Ruling, fine, Row, row, tables, judge, after}
use Rattle.slate.specs.declared.Slate.{Slate}
use Rattle.slate.specs.Slates.{parts_of, slated}
use Rattle.frame.specs.Records.{pass, one_of, no_marks}
use Rattle.frame.specs.Frames.{opening, open_frame, offering, record_after, frame_after}
use Rattle.frame.specs.Lines.{line_of}
use Rattle.plugin_frames.specs.declared.HsdSlate.{HsdSlate}

-- what stands beyond the Nth height is no part of it
abbrev pub slate_in : HsdSlate → Slate
slate_in s = parts_of s.satellite s.day s.timeline s.band s.area s.columns s.total s.heights

-- ---- marks

-- a record is lent as 99 bytes, which are any where it is to be made
abbrev pub long_marks : List ℕ → Bool
long_marks m = eqb (length m) 99

abbrev pub is_bit : ℕ → Bool
is_bit b = leb b 1

-- of 99 bytes, those from place k on are 0 or 1
unfoldable pub bits_from : List ℕ → ℕ → Bool
bits_from m k = pass is_bit 0 m k (99 - k)

-- where it is to be read, each is 0 or 1
unfoldable pub good_marks : List ℕ → Bool
good_marks m = long_marks m && bits_from m 0

-- 13 SLATE: the lent marks will do
unfoldable pub lent : Bool → List Row
lent ok = row ok 13 0 0 ∷ []

-- the first n marks that bytes stand for
unfoldable pub flags : List ℕ → ℕ → List Bool
flags m zero = []
flags m (suc n) = flags m n ++ (eqb (get_or m n 0) 1 ∷ [])

abbrev pub marks_in : List ℕ → List Bool
marks_in m = flags m 99

abbrev pub marks_out : List Bool → List ℕ
marks_out marks = tab (λ k. one_of (get_or marks k false)) 99

-- marks and slate are good, or SLATE
abbrev pub slate_c : HsdSlate → Bool → Ruling
slate_c s ok = judge fine (tables (lent ok ∷ slated (slate_in s) ∷ []))

-- ---- what is said, and what the lent marks and frame then hold

abbrev pub opened_c : HsdSlate → List ℕ → ℕ → Ruling
opened_c s m size = judge fine (tables (lent (long_marks m) ∷ opening (slate_in s) size ∷ []))

abbrev pub offered_c : HsdSlate → List ℕ → ℕ → List ℕ → Ruling
offered_c s m size f = judge fine (tables (lent (good_marks m) ∷ offering (slate_in s) (marks_in m) size f ∷ []))

unfoldable pub open_marks : HsdSlate → List ℕ → ℕ → List ℕ
open_marks s m size = after (opened_c s m size) m (marks_out no_marks)

unfoldable pub open_strip : HsdSlate → List ℕ → List ℕ → List ℕ
open_strip s m frame = after (opened_c s m (length frame)) frame (open_frame (slate_in s) frame)

unfoldable pub offer_marks : HsdSlate → List ℕ → ℕ → List ℕ → List ℕ
offer_marks s m size f = after (offered_c s m size f) m (marks_out (record_after (slate_in s) (marks_in m) size f))

unfoldable pub offer_strip : HsdSlate → List ℕ → List ℕ → List ℕ → List ℕ
offer_strip s m frame f = after (offered_c s m (length frame) f) frame (frame_after (slate_in s) (marks_in m) frame f)

-- ---- a line

unfoldable pub line_c : HsdSlate → List ℕ → List ℕ → List ℕ → ℕ → List ℕ
line_c s m frame leader n = cond (good_marks m) (line_of (slate_in s) (marks_in m) frame leader n) []

-- how many counts are copied: none where there is no room
abbrev pub copied_of : List ℕ → List ℕ → ℕ
copied_of line out = cond (leb (length line) (length out)) (length line) 0

-- the line at the front of the output
abbrev pub copy_of : List ℕ → List ℕ → List ℕ
copy_of line out = cond (leb (length line) (length out)) (line ++ drop (length line) out) out
