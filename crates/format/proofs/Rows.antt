-- The table of bands, by one test that antt computes over all its rows. Assumes nothing.
use mathlib.Core.Path.{◌≡◌}
use mathlib.Core.Bool.{Bool, true, ◌&&◌}
use mathlib.Core.List.{List, [], ◌∷◌}
use Prim.Native.Nat.{ℕ, zero, suc, ◌+◌, ◌≤◌, ◌<◌}
use native.Mathlib.Nat.{add-zero, zero-add, add-suc, suc-add, le_of_suc-le-suc, not-suc-le-zero}
use native.Mathlib.Omega.{arith}
use lib.Dec.{T, eqb, eqb→eq}
use lib.ListN.{length, get_or}
use mir.Facts.{and_yes}
use Rattle.std.proofs.lemmas.Grind.{common_steps}
use Rattle.format.specs.declared.Band.{Band}
use Rattle.format.specs.Bands.{good_band, bits_of, resolution_of}

-- row k is that of band k + 1
abbrev right : ℕ → Band → Bool
right k r = eqb r.bits (bits_of (suc k)) && eqb r.resolution (resolution_of (suc k))

-- every row is right, counted from i
abbrev every : ℕ → List Band → Bool
every i [] = true
every i (x ∷ xs) = right i x && every (suc i) xs

from : (d : Band) (xs : List Band) (i : ℕ) → T (every i xs) → (k : ℕ) → k < length xs → T (right (i + k) (get_or xs k d))
from d [] i t k h = absurd (not-suc-le-zero h)
from d (x ∷ xs) i t zero h = rw add-zero (and_yes (right i x) (every (suc i) xs) t).0
from d (x ∷ xs) i t (suc k) h =
    rw add-suc (rw suc-add at (from d xs (suc i) (and_yes (right i x) (every (suc i) xs) t).1 k (le_of_suc-le-suc h)))

pub band_is : {g : Bool} (b : ℕ) → g ≡ good_band b → g ≡ true → (1 ≤ b) × (b ≤ 16)
band_is b e h = grind (arith, common_steps)

-- so row k is that of band k + 1
pub row_is : (xs : List Band) (k : ℕ) (d : Band) → k < length xs → T (every 0 xs) → get_or xs k d ≡ record { bits = bits_of (suc k); resolution = resolution_of (suc k) }
row_is xs k d h t =
    let z = and_yes (eqb (get_or xs k d).bits (bits_of (suc k))) (eqb (get_or xs k d).resolution (resolution_of (suc k))) (rw zero-add at (from d xs 0 t k h)) in
    rw (← eqb→eq (get_or xs k d).bits (bits_of (suc k)) z.0, ← eqb→eq (get_or xs k d).resolution (resolution_of (suc k)) z.1)
