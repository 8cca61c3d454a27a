-- What document 01 says of a slate and of the files that match it, in its own words, with document 02's heights: nothing here is taken from the tests that the functions make.
use Rattle.std.specs.Prelude.{ℕ, zero, suc, ◌+◌, ◌-◌, ◌≤◌, Bool, cond, List, ◌≡◌, ◌⊎◌}
use Rattle.wire.specs.Wire.{digits}
use Rattle.accept.specs.declared.Facts.{Facts}
use Rattle.rules.specs.Rules.{turned, fine, paper}
use Rattle.rules.specs.Rules as ruling
use Rattle.slate.specs.declared.Slate.{Slate}
use Rattle.slate.specs.declared.Slated.{Slated}
use Rattle.frame.specs.Records.{marked}
use Rattle.plugin_frames.specs.declared.HsdSlate.{HsdSlate}
use Rattle.tiling.specs.Lawful.{Area, Timeline}
use Rattle.promises.specs.Heights.{height, lines_of, given}

-- each part is in range (day 51,544 to 88,068)
pub record InRange (s : Slate) : Type 0 where
  pub satellite : (s.satellite ≡ 8) ⊎ (s.satellite ≡ 9)
  pub first_day : 51544 ≤ s.day
  pub last_day : s.day ≤ 88068
  pub timeline : Timeline s.timeline
  pub some_band : 1 ≤ s.band
  pub last_band : s.band ≤ 16
  pub area : Area (digits 1 4 s.area)
  pub some_columns : 1 ≤ s.columns
  pub most_columns : s.columns ≤ 22000
  pub some_total : 1 ≤ s.total
  pub most_total : s.total ≤ 99

-- good when so, each height is at least 1 and their sum is at most 22,000
pub record Good (s : Slate) : Type 0 where
  pub parts : InRange s
  pub tall : (k : ℕ) → 1 ≤ k → k ≤ s.total → 1 ≤ height s k
  pub most_lines : lines_of s s.total ≤ 22000

-- a line of a good slate's frame
abbrev pub InFrame : Slate → ℕ → Type 0
InFrame s line = Good s × (1 ≤ line) × (line ≤ lines_of s s.total)

-- what is said of a slate's parts: good ones make it, and bad ones are SLATE and make none that is good
pub record Makes (s : Slate) (r : Slated) : Type 0 where
  pub made : Good s → (paper r.verdict ≡ fine) × (r.slate ≡ s)
  pub refused : (Good s → ⊥) → (paper r.verdict ≡ ruling.refused (turned 13 0 0)) × (Good r.slate → ⊥)

-- all the slate's parts agree
pub record Alike (s : Slate) (f : Facts) : Type 0 where
  pub satellite : f.satellite ≡ s.satellite
  pub day : f.day ≡ s.day
  pub timeline : f.timeline ≡ s.timeline
  pub band : f.band ≡ s.band
  pub area : f.area ≡ s.area
  pub columns : f.columns ≡ s.columns
  pub total : f.total ≡ s.total

-- a file matches when so, and its lines are its number's height and its first line comes after those of the segments before it
pub record Match (s : Slate) (f : Facts) : Type 0 where
  pub parts : Alike s f
  pub lines : f.lines ≡ height s f.number
  pub first : f.first ≡ 1 + lines_of s (f.number - 1)

-- a slate in C's struct: each number under its name
abbrev pub slate_from : HsdSlate → Slate
slate_from s = given s.satellite s.day s.timeline s.band s.area s.columns s.total s.heights

-- how many of the n numbers from k on are marked
abbrev pub how_many : List Bool → ℕ → ℕ → ℕ
how_many marks k zero = 0
how_many marks k (suc n) = cond (marked marks k) 1 0 + how_many marks (k + 1) n
