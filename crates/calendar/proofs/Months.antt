-- A sheet that goes on as the calendar counts has each month's first day in its place. Whether it goes on so is one test over all of it, which
-- carries the day along. Assumes nothing.
use mathlib.Core.Path.{◌≡◌, refl, sym, ap, ◌∙◌}
use mathlib.Core.List.{List, [], ◌∷◌, ◌++◌}
use mathlib.Core.Bool.{Bool, true, ◌&&◌}
use Prim.Native.Nat.{ℕ, zero, suc, ◌+◌, ◌*◌, ◌/◌, ◌%◌, ◌<◌}
use native.Mathlib.Nat.{add-zero, zero-add, add-suc, suc-add, le_of_suc-le-suc, not-suc-le-zero}
use native.Mathlib.Omega.{arith}
use lib.ListN.{length, get_or, get_or-append}
use lib.Seq.{get_or-append-add}
use lib.Dec.{T, eqb, eqb→eq}
use mir.Facts.{and_yes}
use Rattle.calendar.specs.Dates.{month_length, month_start}

-- the list begins with x, the first day of month i, and each entry after it comes a month's length later
abbrev follows : ℕ → ℕ → List ℕ → Bool
follows i x [] = true
follows i x (v ∷ vs) = eqb v x && follows (suc i) (x + month_length (2000 + i / 12) (i % 12 + 1)) vs

parts : (v : ℕ) (vs : List ℕ) (i : ℕ) → T (follows i (month_start i) (v ∷ vs)) → (v ≡ month_start i) × T (follows (suc i) (month_start (suc i)) vs)
unfolding month_start
parts v vs i t = let p = and_yes (eqb v (month_start i)) (follows (suc i) (month_start (suc i)) vs) t in (eqb→eq v (month_start i) p.0, p.1)

from : (xs : List ℕ) (i : ℕ) → T (follows i (month_start i) xs) → (k : ℕ) → k < length xs → get_or xs k 0 ≡ month_start (i + k)
from [] i t k h = absurd (not-suc-le-zero h)
from (v ∷ vs) i t zero h = (parts v vs i t).0 ∙ rw add-zero
from (v ∷ vs) i t (suc k) h = from vs (suc i) (parts v vs i t).1 k (le_of_suc-le-suc h) ∙ ap month_start (suc-add i k ∙ sym (add-suc i k))

-- pages end to end, each of 120 lines
abbrev whole : List (List ℕ) → List ℕ
whole [] = []
whole (p ∷ ps) = p ++ whole ps

abbrev even : List (List ℕ) → Bool
even [] = true
even (p ∷ ps) = eqb (length p) 120 && even ps

torn : (q : List ℕ) (qs : List (List ℕ)) → T (even (q ∷ qs)) → (length q ≡ 120) × T (even qs)
torn q qs e = let p = and_yes (eqb (length q) 120) (even qs) e in (eqb→eq (length q) 120 p.0, p.1)

paged : (ps : List (List ℕ)) → T (even ps) → (p k : ℕ) → k < 120 → get_or (get_or ps p []) k 0 ≡ get_or (whole ps) (120 * p + k) 0
paged [] e p k h = refl
paged (q ∷ qs) e zero k h = sym (get_or-append q (whole qs) 0 k (omega (arith, (torn q qs e).0))) ∙ rw zero-add
paged (q ∷ qs) e (suc p) k h =
    paged qs (torn q qs e).1 p k h
    ∙ sym (get_or-append-add q (whole qs) (120 * p + k) 0)
    ∙ ap (λ (n : ℕ). get_or (q ++ whole qs) n 0) (omega (arith, (torn q qs e).0))

-- the sheet's rule
pub in_place : (ps : List (List ℕ)) (i : ℕ) → i < length (whole ps) → T (even ps) → T (follows 0 51544 (whole ps)) → get_or (get_or ps (i / 120) []) (i % 120) 0 ≡ month_start i
unfolding month_start
in_place ps i h e t =
    paged ps e (i / 120) (i % 120) (omega arith)
    ∙ ap (λ (n : ℕ). get_or (whole ps) n 0) (omega arith)
    ∙ rw zero-add at (from (whole ps) 0 t i h)
