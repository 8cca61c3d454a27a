-- A list of parts compared one after the other.
-- Assumes nothing.
use mathlib.Core.Path.{◌≡◌, refl}
use mathlib.Core.Logic.{◌↔◌}
use mathlib.Core.List.{List, [], ◌∷◌, ◌++◌}
use mathlib.Core.Bool.{Bool, true, false, cond, false≢true}
use lib.Dec.{eqb}
use borrow.Author.Tests.{eqb-true, eq-eqb}
use Rattle.std.specs.Prelude.{Option, None, Some, is_none}
use Rattle.slate.specs.Parts.{Sides, sides, further, compare_all}
use Rattle.slate.specs.declared.Difference.{Difference}

pub compare_append : (c : Option Difference) (ps qs : List Sides) → compare_all c (ps ++ qs) ≡ compare_all (compare_all c ps) qs
compare_append c [] qs = refl
compare_append c (sides p a b ∷ ps) qs = compare_append (further c p a b) ps qs

-- what differs never agrees again
pub compare_differs : (d : Difference) (ps : List Sides) → compare_all (Some d) ps ≡ Some d
compare_differs d [] = refl
compare_differs d (sides p a b ∷ ps) = compare_differs d ps

-- a list compared in parts
pub ruleset comparisons = (compare_append, compare_differs)

-- every part is the same on both sides
abbrev pub Same : List Sides → Type 0
Same [] = Unit
Same (sides p a b ∷ ps) = (a ≡ b) × Same ps

same_is : (ps : List Sides) → is_none (compare_all None ps) ≡ true → Same ps
same_is [] e = tt
same_is (sides p a b ∷ ps) e = go (eqb a b) refl (same_is ps) e
  where
    go : (t : Bool) → eqb a b ≡ t → (is_none (compare_all None ps) ≡ true → Same ps)
        → is_none (compare_all (cond t None (Some (record { part = p; slate = a; file = b }))) ps) ≡ true → Same (sides p a b ∷ ps)
    go true q ih e = (eqb-true a b q, ih e)
    go false q ih e = absurd (false≢true (rw (compare_differs (record { part = p; slate = a; file = b }) ps) at e))

same_of : (ps : List Sides) → Same ps → is_none (compare_all None ps) ≡ true
same_of [] h = refl
same_of (sides p a b ∷ ps) h = rw (eq-eqb a b h.0) (same_of ps h.1)

-- parts agree exactly when each is the same on both sides
pub same_exactly : (ps : List Sides) → (is_none (compare_all None ps) ≡ true) ↔ Same ps
same_exactly ps = (same_is ps, same_of ps)
