-- The parts that a slate and a file both have, in the paper's order, and the first in which the two differ.
use Rattle.std.specs.Prelude.{ℕ, ◌+◌, ◌-◌, cond, List, [], ◌∷◌, ◌++◌, Option, None, Some, eqb}
use Rattle.accept.specs.declared.Facts.{Facts}
use Rattle.slate.specs.Cut.{height_of, lines_to}
use Rattle.slate.specs.declared.Slate.{Slate}
use Rattle.slate.specs.declared.Part.{Part}
use Rattle.slate.specs.declared.Part.TheVariants.{Satellite, Day, Timeline, Band, Area, Columns, Total, Lines, FirstLine}
use Rattle.slate.specs.declared.Difference.{Difference}

-- a part: what the slate says of it, and what the file says
pub data Sides : Type 0 where
  sides : Part → ℕ → ℕ → Sides

-- which shot it is
unfoldable pub shot_parts : Slate → Facts → List Sides
shot_parts s f =
    sides Satellite s.satellite f.satellite
    ∷ sides Day s.day f.day
    ∷ sides Timeline s.timeline f.timeline
    ∷ sides Band s.band f.band
    ∷ sides Area s.area f.area
    ∷ []

-- how it is cut: a file's lines and first line are those of its number's segment
unfoldable pub cut_parts : Slate → Facts → List Sides
cut_parts s f =
    sides Columns s.columns f.columns
    ∷ sides Total s.total f.total
    ∷ sides Lines (height_of s f.number) f.lines
    ∷ sides FirstLine (lines_to s (f.number - 1) + 1) f.first
    ∷ []

-- the one list that matching and why go by
abbrev pub parts : Slate → Facts → List Sides
parts s f = shot_parts s f ++ cut_parts s f

-- one part more, on top of what the parts before it said: the first that differs answers
abbrev pub further : Option Difference → Part → ℕ → ℕ → Option Difference
further (Some d) part slate file = Some d
further None part slate file = cond (eqb slate file) None (Some (record { part = part; slate = slate; file = file }))

-- parts compared in their order
abbrev pub compare_all : Option Difference → List Sides → Option Difference
compare_all c [] = c
compare_all c (sides part slate file ∷ ps) = compare_all (further c part slate file) ps

-- a slate and what a file is known by: none where they agree, or the first part that differs, with the value on each side
abbrev pub comparing : Slate → Facts → Option Difference
comparing s f = compare_all None (parts s f)
