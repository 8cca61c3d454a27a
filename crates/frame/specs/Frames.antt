-- Opening a frame and offering files to it: the checks in the paper's order, and the record and frame after them.
use Rattle.std.specs.Prelude.{ℕ, ◌+◌, Bool, not, List, [], ◌∷◌, ◌++◌, length, take, drop, replicate, eqb}
use Rattle.rules.specs.Rules.{Row, row, tables, Ruling, fine, judge, after}
use Rattle.accept.specs.Checks.{checks}
use Rattle.accept.specs.Answers.{facts_of}
use Rattle.slate.specs.declared.Slate.{Slate}
use Rattle.slate.specs.Slates.{slated, start_of, frame_size, matching}
use Rattle.frame.specs.Counts.{counts_of}
use Rattle.frame.specs.Records.{marked, mark, none_above}

-- ---- opening: 13 SLATE, 14 STRIP

unfoldable pub opening : Slate → ℕ → List Row
opening s size = slated s ++ (row (eqb size (frame_size s)) 14 0 0 ∷ [])

abbrev pub opened : Slate → ℕ → Ruling
opened s size = judge fine (opening s size)

-- the count that no segment has written
abbrev pub unwritten : ℕ
unwritten = 65534

unfoldable pub open_frame : Slate → List ℕ → List ℕ
open_frame s frame = after (opened s (length frame)) frame (replicate (length frame) unwritten)

-- ---- offering: 13 and 14, then the file, then 15 OTHER SHOT and 16 ALREADY

unfoldable pub ready : Slate → List Bool → ℕ → List Row
ready s marks size =
    slated s
    ++ (row (none_above s.total marks) 13 0 0
    ∷ row (eqb size (frame_size s)) 14 0 0
    ∷ [])

unfoldable pub placing : Slate → List Bool → List ℕ → List Row
placing s marks f =
    row (matching s (facts_of f)) 15 0 0
    ∷ row (not (marked marks (facts_of f).number)) 16 0 0
    ∷ []

unfoldable pub offering : Slate → List Bool → ℕ → List ℕ → List Row
offering s marks size f = tables (ready s marks size ∷ checks f ∷ placing s marks f ∷ [])

-- what is said of a file that is offered for a frame of `size` counts
abbrev pub offered : Slate → List Bool → ℕ → List ℕ → Ruling
offered s marks size f = judge fine (offering s marks size f)

-- a list with `vs` from `at` on in the place of what stood there
abbrev pub put_at : {A : Type 0} → List A → ℕ → List A → List A
put_at l at vs = take at l ++ vs ++ drop (at + length vs) l

-- the file's number is marked, and its counts stand where its segment begins
unfoldable pub record_after : Slate → List Bool → ℕ → List ℕ → List Bool
record_after s marks size f = after (offered s marks size f) marks (mark marks (facts_of f).number)

unfoldable pub frame_after : Slate → List Bool → List ℕ → List ℕ → List ℕ
frame_after s marks frame f = after (offered s marks (length frame) f) frame (put_at frame (start_of s (facts_of f).number) (counts_of f))
