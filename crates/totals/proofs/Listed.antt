-- Laws for the sum of what block 10 lists.
-- Assumes nothing.
use mathlib.Core.Path.{◌≡◌, refl}
use mathlib.Core.List.{List, [], ◌∷◌, ◌++◌}
use Prim.Native.Nat.{ℕ, suc, ◌+◌, ◌*◌}
use native.Mathlib.Numerals.{add-one}
use native.Mathlib.Omega.{arith}
use Rattle.wire.specs.Wire.{span, num, tab}
use Rattle.header.specs.Places.{order_of, a_of, b_of, c_of}
use Rattle.header.specs.Entries.{column, entries_of}
use Rattle.totals.specs.Files.{sum_of, pixels_of}

sum_append : (xs : List ℕ) (y : ℕ) → sum_of (xs ++ (y ∷ [])) ≡ sum_of xs + y
unfolding sum_of
sum_append [] y = omega arith
sum_append (x ∷ xs) y = let e = sum_append xs y in omega arith

pub column_none : (s : List ℕ) (o at : ℕ) → sum_of (column s o at 4 2 0) ≡ 0
unfolding sum_of column tab
column_none s o at = refl

-- a table one longer
column_suc : (s : List ℕ) (o at i : ℕ) → sum_of (column s o at 4 2 (suc i)) ≡ sum_of (column s o at 4 2 i) + num o (span s (at + 4 * i) 2)
unfolding column tab
column_suc s o at i = sum_append (tab (λ (i : ℕ). num o (span s (at + 4 * i) 2)) i) (num o (span s (at + 4 * i) 2))

pub column_more : (s : List ℕ) (o at i : ℕ) → sum_of (column s o at 4 2 (i + 1)) ≡ sum_of (column s o at 4 2 i) + num o (span s (at + 4 * i) 2)
column_more s o at i = rw (add-one i, column_suc s o at i)

pub pixels_are : (s : List ℕ) (a b n o : ℕ) → o ≡ order_of s → a ≡ a_of s → b ≡ b_of s → n ≡ c_of s → sum_of (column s o (1157 + 10 * a + 10 * b + 9) 4 2 n) ≡ pixels_of s
unfolding entries_of pixels_of
pixels_are s a b n o eo ea eb en = rw (en, eo, ea, eb)

pub ruleset listing = (column_none, column_more, pixels_are)
