-- Lines, segment by segment.
use mathlib.Core.Path.{◌≡◌, refl}
use mathlib.Core.List.{List}
use Prim.Native.Nat.{ℕ, ◌+◌}
use native.Mathlib.Numerals.{add-one}
use Rattle.testcard.specs.Cut.{height_of, lines_to}

pub lines_none : (w : List ℕ) → 0 ≡ lines_to w 0
unfolding lines_to
lines_none w = refl

pub lines_more : (w : List ℕ) (k n h : ℕ) → n ≡ lines_to w k → h ≡ height_of w k → n + h ≡ lines_to w (k + 1)
unfolding lines_to
lines_more w k n h p q = rw (add-one k, p, q)

pub ruleset heights = (lines_none, lines_more)
