-- How a slate's lines are cut into segments. Everything else speaks of the cut by these names alone.
use Rattle.std.specs.Prelude.{ℕ, zero, suc, ◌+◌, ◌-◌, Bool, true, cond, ◌&&◌, List, leb, ltb, get_or}
use Rattle.slate.specs.declared.Slate.{Slate}

-- the lines of segment k; what is no number of 1 to 99 has none
unfoldable pub height_in : List ℕ → ℕ → ℕ
height_in heights k = cond (leb 1 k && leb k 99) (get_or heights (k - 1) 0) 0

unfoldable pub height_of : Slate → ℕ → ℕ
height_of s k = height_in s.heights k

-- the lines of segments 1 to n
unfoldable pub lines_to : Slate → ℕ → ℕ
lines_to s zero = 0
lines_to s (suc n) = lines_to s n + height_of s (suc n)

-- segments 1 to n have a line each
unfoldable pub all_tall : Slate → ℕ → Bool
all_tall s zero = true
all_tall s (suc n) = all_tall s n && leb 1 (height_of s (suc n))

-- each height is at least 1, and their sum is at most 22,000
unfoldable pub good_cut : Slate → Bool
good_cut s = all_tall s s.total && leb (lines_to s s.total) 22000

-- of segments 1 to n, the last that begins by a line
unfoldable pub last_to : Slate → ℕ → ℕ → ℕ
last_to s line zero = 0
last_to s line (suc n) = cond (ltb (lines_to s n) line) (suc n) (last_to s line n)

-- the number of the segment that covers a line
unfoldable pub cover_of : Slate → ℕ → ℕ
cover_of s line = last_to s line s.total
