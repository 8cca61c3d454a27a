-- A slice that a loop fills with a column, number by number. Assumes nothing.
use Rattle.std.proofs.Common.{◌≡◌, ℕ, ◌+◌, ◌*◌, ◌<◌, List, length, map, get_or, set, sym, arith}
use Rattle.std.proofs.lemmas.List.{map-set, length-map}
use Rattle.std.proofs.lemmas.Grind.{common_steps}
use Rattle.wire.specs.Wire.{span, num}
use Rattle.wire.proofs.Rows.{tab_is}
use Rattle.header.specs.Entries.{column}

-- one number more
pub column_more : {X : Type 0} (f : X → ℕ) (xs : List X) (i : ℕ) (x : X) (s : List ℕ) (o at stride w k : ℕ) → f x ≡ num o (span s (at + stride * i) w) → i < length xs
    → ((j : ℕ) → j < i → get_or (map f xs) j 0 ≡ num o (span s (at + stride * j) w)) → k < i + 1
    → get_or (map f (set xs i x)) k 0 ≡ num o (span s (at + stride * k) w)
column_more f xs i x s o at stride w k e h before l = rw (map-set f xs i x) (grind (arith, common_steps))

-- what has each number is the column
pub column_from_each : {X : Type 0} (f : X → ℕ) (xs : List X) (s : List ℕ) (o at stride w n : ℕ) → length xs ≡ n
    → ((k : ℕ) → k < n → get_or (map f xs) k 0 ≡ num o (span s (at + stride * k) w)) → map f xs ≡ column s o at stride w n
unfolding column
column_from_each f xs s o at stride w n l e = sym (tab_is _ n (map f xs) (rw length-map l) (λ k h. sym (e k h)))
