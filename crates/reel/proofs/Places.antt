-- Parts by their numbers. Assumes nothing.
use mathlib.Core.Path.{◌≡◌}
use mathlib.Core.Bool.{true, false}
use mathlib.Core.List.{List, []}
use Prim.Native.Nat.{ℕ, zero, suc, ◌+◌, ◌*◌, ◌≤◌, ◌<◌}
use native.Mathlib.Nat.{add-zero}
use native.Mathlib.Omega.{arith}
use borrow.Author.Tests.{eqb-true}
use lib.Dec.{eqb}
use lib.ListN.{get_or}
use Rattle.reel.specs.Reels.{four, tiled, part, parts_from, entry_in, entry_at, lies, place_of}
use Rattle.reel.proofs.Reels.{both}
use Rattle.reel.proofs.Lists.{tiled_le}

pub part_of : (s : List ℕ) (e n k : ℕ) → k < n → get_or (parts_from s e n) k [] ≡ part s (e + 8 * k)
unfolding parts_from
part_of s e zero k h = absurd (omega arith)
part_of s e (suc n) zero h = rw add-zero
part_of s e (suc n) (suc k) h =
    let q : e + 8 * suc k ≡ e + 8 + 8 * k = omega arith in
    rw q (part_of s (e + 8) n k (omega arith))

pub tiled_at : (s : List ℕ) (to e from n k : ℕ) → tiled s to e from n ≡ true → k < n → four s (e + 8 * k) + four s (e + 8 * k + 4) ≤ to
unfolding tiled
tiled_at s to e from zero k t h = absurd (omega arith)
tiled_at s to e from (suc n) zero t h =
    let p = both (eqb (four s e) from) _ t in
    let q = eqb-true (four s e) from p.0 in
    let l = tiled_le s to (e + 8) (from + four s (e + 4)) n p.1 in
    rw add-zero (omega arith)
tiled_at s to e from (suc n) (suc k) t h =
    let p = both (eqb (four s e) from) _ t in
    let q : e + 8 * suc k ≡ e + 8 + 8 * k = omega arith in
    rw q (tiled_at s to (e + 8) (from + four s (e + 4)) n k p.1 (omega arith))

pub place_in : (s : List ℕ) (k : ℕ) → lies s k ≡ true → place_of s k ≡ entry_in s (entry_at s k)
unfolding place_of
place_in s k e = rw e

pub no_place : (s : List ℕ) (k : ℕ) → lies s k ≡ false → place_of s k ≡ record { offset = 0; length = 0 }
unfolding place_of
no_place s k e = rw e
