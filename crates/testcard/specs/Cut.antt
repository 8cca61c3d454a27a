-- How a word cuts a frame's lines into segments: one number for all of them, or a number for each, joined by pluses.
use Rattle.std.specs.Prelude.{ℕ, zero, suc, ◌+◌, ◌-◌, min, Bool, ◌&&◌, ◌||◌, cond, List, eqb, leb}
use Rattle.testcard.specs.Words.{number_of, pluses_in, ahead_of, behind_of}

-- the word of the segment that has k before it
unfoldable pub part_of : List ℕ → ℕ → List ℕ
part_of w k = cond (eqb (pluses_in w) 0) w (ahead_of (behind_of w k))

-- its lines; a segment has one at least, so that 0 is as bad as no number
unfoldable pub height_of : List ℕ → ℕ → ℕ
height_of w k = cond (eqb (number_of (part_of w k)) 0) 65535 (number_of (part_of w k))

-- the lines of the first n segments
unfoldable pub lines_to : List ℕ → ℕ → ℕ
lines_to w zero = 0
lines_to w (suc n) = lines_to w n + height_of w n

-- one number, which the writer judges; or a number for each segment, and 22,000 lines at most
unfoldable pub good_cut : List ℕ → ℕ → Bool
good_cut w total = eqb (pluses_in w) 0 || (eqb (pluses_in w) (total - 1) && leb (lines_to w total) 22000)

-- the segments before one; a number that no segment has is the writer's to refuse
abbrev pub prior_to : ℕ → ℕ → ℕ
prior_to number total = cond (leb number total) (number - 1) 0

-- the lines of a segment
unfoldable pub lines_of : List ℕ → ℕ → ℕ → ℕ
lines_of w number total = cond (good_cut w total) (height_of w (prior_to number total)) 65535

-- the first of them
unfoldable pub first_line_of : List ℕ → ℕ → ℕ → ℕ
first_line_of w number total = min (lines_to w (prior_to number total) + 1) 65535
