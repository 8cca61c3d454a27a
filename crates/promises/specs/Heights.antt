-- How a frame's lines are cut into segments, in document 02's words: nothing here is taken from the tests that the functions make.
use Rattle.std.specs.Prelude.{ℕ, zero, suc, ◌+◌, ◌-◌, ◌≤◌, ◌<◌, ◌≡◌, cond, ◌&&◌, List, leb, ltb, get_or}
use Rattle.wire.specs.Wire.{tab}
use Rattle.slate.specs.declared.Slate.{Slate}
use Rattle.plugin_frames.specs.declared.HsdSlate.{HsdSlate}

-- the lines of segment k; there is room for 99 heights
abbrev pub height : Slate → ℕ → ℕ
height s k = cond (leb 1 k && leb k 99) (get_or s.heights (k - 1) 0) 0

-- the lines of segments 1 to n together
abbrev pub lines_of : Slate → ℕ → ℕ
lines_of s zero = 0
lines_of s (suc n) = lines_of s n + height s (suc n)

-- the segment that covers a line: it begins one line after segments 1 to k - 1 end, and has so many lines
pub record Covering (s : Slate) (line k : ℕ) : Type 0 where
  pub some : 1 ≤ k
  pub most : k ≤ s.total
  pub begins : lines_of s (k - 1) + 1 ≤ line
  pub ends : line ≤ lines_of s (k - 1) + height s k

-- ---- room beyond the Nth height is ignored

-- a slate of given parts: the N heights, and 0 in the rest of the room
abbrev pub given : ℕ → ℕ → ℕ → ℕ → ℕ → ℕ → ℕ → List ℕ → Slate
given satellite day timeline band area columns total heights = record {
  satellite = satellite;
  day = day;
  timeline = timeline;
  band = band;
  area = area;
  columns = columns;
  total = total;
  heights = tab (λ k. cond (ltb k total) (get_or heights k 0) 0) 99;
}

-- two rooms that hold the same n heights, whatever stands beyond them
abbrev pub SameTo : ℕ → List ℕ → List ℕ → Type 0
SameTo n xs ys = (k : ℕ) → k < n → get_or xs k 0 ≡ get_or ys k 0

-- two structs that differ at most beyond the Nth height
pub record SameBut (s z : HsdSlate) : Type 0 where
  pub satellite : s.satellite ≡ z.satellite
  pub day : s.day ≡ z.day
  pub timeline : s.timeline ≡ z.timeline
  pub band : s.band ≡ z.band
  pub area : s.area ≡ z.area
  pub columns : s.columns ≡ z.columns
  pub total : s.total ≡ z.total
  pub heights : SameTo s.total s.heights z.heights
