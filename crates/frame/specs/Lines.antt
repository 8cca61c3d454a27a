-- Asking for a line of a frame.
use Rattle.std.specs.Prelude.{ℕ, Bool, cond, ◌&&◌, ◌||◌, List, [], length, take, drop, eqb, leb}
use Rattle.slate.specs.declared.Slate.{Slate}
use Rattle.slate.specs.Cut.{cover_of}
use Rattle.slate.specs.Slates.{frame_size, has_line, place_of}
use Rattle.frame.specs.Records.{marked, none_above}

-- slate, record, frame and line are in order
unfoldable pub line_good : Slate → List Bool → ℕ → ℕ → Bool
line_good s marks size line = has_line s line && none_above s.total marks && eqb size (frame_size s)

-- that part of the frame if its segment is in, or else the first columns of the leader; empty where one is refused
unfoldable pub line_of : Slate → List Bool → List ℕ → List ℕ → ℕ → List ℕ
line_of s marks frame leader line =
    cond (line_good s marks (length frame) line)
    (cond (marked marks (cover_of s line))
    (take s.columns (drop (place_of s line 1) frame))
    (cond (leb s.columns (length leader)) (take s.columns leader) []))
    []

-- the line can be shown: its segment is in, or the leader is long enough
abbrev pub shown : Slate → List Bool → List ℕ → List ℕ → ℕ → Bool
shown s marks frame leader line = line_good s marks (length frame) line && (marked marks (cover_of s line) || leb s.columns (length leader))
