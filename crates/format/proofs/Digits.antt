-- The digits of a number, stored from the last one on.
-- Assumes nothing.
use mathlib.Core.Path.{◌≡◌, refl}
use mathlib.Core.Bool.{and_assoc, and-true}
use mathlib.Core.List.{List, ◌∷◌, ◌++◌, append-nil, append_assoc}
use Prim.Native.Nat.{ℕ, zero, suc, ◌+◌, ◌-◌, ◌/◌, ◌%◌, ◌≤◌, ◌<◌}
use native.Mathlib.Numerals.{add-one}
use native.Mathlib.Omega.{arith}
use lib.ListN.{length, drop, set, drop_of_length-le}
use Rattle.std.proofs.lemmas.List.{drop-set}
use Rattle.std.specs.List.{list_all}
use Rattle.wire.specs.Wire.{span}
use Rattle.format.specs.Texts.{digit, decimal}
use Rattle.format.specs.Names.{digits8}

pub digits_begin : (w x : ℕ) (l : List ℕ) → length l ≡ w → decimal w x ++ drop w l ≡ decimal w x
digits_begin w x l e = rw (drop_of_length-le l {i = w} (omega arith), append-nil)

pub digits_turn : (i x : ℕ) (l : List ℕ) → 0 < i → i ≤ length l → decimal (i - 1) (x / 10) ++ drop (i - 1) (set l (i - 1) (48 + x % 10)) ≡ decimal i x ++ drop i l
unfolding decimal
digits_turn zero x l h k = absurd (omega arith)
digits_turn (suc w) x l h k =
    let e : suc w - 1 ≡ w = omega arith in
    let f : drop w (set l w (48 + x % 10)) ≡ (48 + x % 10) ∷ drop (suc w) l = rw add-one at (drop-set l w (48 + x % 10) (omega arith)) in
    rw (e, f, append_assoc)

pub digits_end : (x : ℕ) (l : List ℕ) → decimal 0 x ++ drop 0 l ≡ l
unfolding decimal
digits_end x l = refl

-- the eight digits of a date, one by one
pub eight_digits : (n : List ℕ) → list_all digit (span n 7 8) ≡ digits8 n
unfolding span
eight_digits n = simp (and_assoc, and-true)

pub ruleset digits = (digits_begin, digits_turn, digits_end)
