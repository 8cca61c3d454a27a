-- An even slate is one whose heights agree. What document 01 says of a slate, in its own words, L being that height.
use Rattle.std.specs.Prelude.{ℕ, ◌+◌, ◌*◌, ◌-◌, ◌≤◌, ◌≡◌}
use Rattle.accept.specs.declared.Facts.{Facts}
use Rattle.slate.specs.declared.Slate.{Slate}
use Rattle.promises.specs.Heights.{height}
use Rattle.promises.specs.Slated.{InRange, Alike}

-- segments 1 to N are of one height
abbrev pub Even : Slate → Type 0
Even s = (j k : ℕ) → 1 ≤ j → j ≤ s.total → 1 ≤ k → k ≤ s.total → height s j ≡ height s k

-- lines per segment, L
abbrev pub lines_each : Slate → ℕ
lines_each s = height s 1

-- good when each part is in range, L is at least 1 and N x L is at most 22,000
pub record GoodEven (s : Slate) : Type 0 where
  pub parts : InRange s
  pub some_lines : 1 ≤ lines_each s
  pub most_lines : s.total * lines_each s ≤ 22000

-- a file matches when all the slate's parts agree, its lines are L and its first line is 1 + (number - 1) x L
pub record MatchEven (s : Slate) (f : Facts) : Type 0 where
  pub parts : Alike s f
  pub lines : f.lines ≡ lines_each s
  pub first : f.first ≡ 1 + (f.number - 1) * lines_each s
