-- A slate: the shot that a frame is for, and the sizes of the frame.
use Rattle.std.specs.Prelude.{ℕ, ◌+◌, ◌*◌, ◌-◌, Bool, ◌&&◌, ◌||◌, cond, List, [], ◌∷◌, ◌≡◌, Option, is_none, leb, ltb, eqb, get_or, replicate}
use Rattle.wire.specs.Wire.{digits, tab}
use Rattle.rules.specs.Rules.{paper, fine, Row, row, tables, judge, after, Reply, reply}
use Rattle.calendar.specs.Shots.{good_day, good_timeline}
use Rattle.format.specs.Ranges.{good_area, good_size, good_total}
use Rattle.format.specs.Bands.{good_band}
use Rattle.accept.specs.declared.Facts.{Facts}
use Rattle.accept.specs.Checks.{checks}
use Rattle.accept.specs.Answers.{facts_of}
use Rattle.slate.specs.Cut.{height_of, lines_to, good_cut, cover_of}
use Rattle.slate.specs.Parts.{comparing}
use Rattle.slate.specs.declared.Slate.{Slate}
use Rattle.slate.specs.declared.Slated.{Slated}
use Rattle.slate.specs.declared.Difference.{Difference}

-- the parts that name the shot are in range
abbrev pub good_shot : Slate → Bool
good_shot s =
    (eqb s.satellite 8 || eqb s.satellite 9)
    && good_day s.day
    && good_timeline s.timeline
    && good_band s.band
    && good_area (digits 1 4 s.area)

-- each part is in range
unfoldable pub good_slate : Slate → Bool
good_slate s = good_shot s && good_size s.columns && good_total s.total && good_cut s

-- 13 SLATE
unfoldable pub slated : Slate → List Row
slated s = row (good_slate s) 13 0 0 ∷ []

-- the N heights, and 0 in the room beyond them
abbrev pub kept_of : ℕ → List ℕ → List ℕ
kept_of total heights = tab (λ k. cond (ltb k total) (get_or heights k 0) 0) 99

-- the parts of a slate, in the paper's order, without what stands beyond the Nth height
abbrev pub parts_of : ℕ → ℕ → ℕ → ℕ → ℕ → ℕ → ℕ → List ℕ → Slate
parts_of satellite day timeline band area columns total heights = record {
  satellite = satellite;
  day = day;
  timeline = timeline;
  band = band;
  area = area;
  columns = columns;
  total = total;
  heights = kept_of total heights;
}

-- no slate: every part is 0
unfoldable pub blank : Slate
blank = record { satellite = 0; day = 0; timeline = 0; band = 0; area = 0; columns = 0; total = 0; heights = replicate 99 0 }

-- the slate of given parts, or the refusal and no slate
pub record SlatedAs (s : Slate) (r : Slated) : Type 0 where
  pub says : paper r.verdict ≡ judge fine (slated s)
  pub is : r.slate ≡ after (judge fine (slated s)) blank s

-- ---- sizes, in counts

abbrev pub size_of : Slate → ℕ → ℕ
size_of s k = height_of s k * s.columns

-- where segment k begins in the frame
abbrev pub start_of : Slate → ℕ → ℕ
start_of s k = lines_to s (k - 1) * s.columns

abbrev pub frame_lines : Slate → ℕ
frame_lines s = lines_to s s.total

abbrev pub frame_size : Slate → ℕ
frame_size s = frame_lines s * s.columns

-- where the count at a line and a column stands in the frame
abbrev pub place_of : Slate → ℕ → ℕ → ℕ
place_of s line column = (line - 1) * s.columns + (column - 1)

-- the slate is good, and the line one of its frame's
abbrev pub has_line : Slate → ℕ → Bool
has_line s line = good_slate s && (leb 1 line && leb line (frame_lines s))

-- the number of the segment that covers the line, and 0 where there is none
unfoldable pub cover_or_0 : Slate → ℕ → ℕ
cover_or_0 s line = cond (has_line s line) (cover_of s line) 0

-- ---- the match, and why there is none

-- an accepted file is a segment of the slate's frame when all parts agree
abbrev pub matching : Slate → Facts → Bool
matching s f = is_none (comparing s f)

-- asking why: 13, then the file
unfoldable pub asking : Slate → List ℕ → List Row
asking s f = tables (slated s ∷ checks f ∷ [])

-- the first refusal, or what comparing slate and file says
unfoldable pub reason_of : Slate → List ℕ → Reply (Option Difference)
reason_of s f = reply (judge fine (asking s f)) (comparing s (facts_of f))
