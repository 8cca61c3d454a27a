-- A day, and whether there is one, in the paper's words and in Option's.
-- Assumes nothing.
use mathlib.Core.Path.{◌≡◌, refl}
use Prim.Native.Nat.{ℕ}
use Rattle.std.specs.Prelude.{Option, Some, None}
use Rattle.std.specs.Option.{is_some, unwrap_or}
use Rattle.calendar.specs.Dates.{paper_day}
use Rattle.format.specs.Names.{is_day, day_or_0}

pub day_some : (d : Option ℕ) → is_day (paper_day d) ≡ is_some d
unfolding paper_day
day_some (Some n) = refl
day_some None = refl

pub day_or : (d : Option ℕ) → day_or_0 (paper_day d) ≡ unwrap_or d 0
unfolding paper_day
day_or (Some n) = refl
day_or None = refl

pub ruleset days = (day_some, day_or)
