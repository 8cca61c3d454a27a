-- How many digits a number has, and the last of them.
-- Assumes nothing.
use mathlib.Core.Path.{◌≡◌, refl}
use mathlib.Core.Bool.{Bool, true, false, cond}
use mathlib.Core.List.{[], ◌∷◌}
use Prim.Native.Nat.{ℕ, zero, suc, ◌+◌, ◌-◌, ◌*◌, ◌/◌, ◌%◌, ◌^◌, ◌≤◌, ◌<◌}
use native.Mathlib.Nat.{pow-suc}
use native.Mathlib.Omega.{arith}
use lib.ListN.{length, take, drop, length-append, drop_of_length-le}
use lib.Dec.{ltb}
use Rattle.std.proofs.lemmas.List.{drop-append-le, take_all}
use borrow.Author.Tests.{lt-ltb, le-ltb}
use Rattle.format.specs.Texts.{decimal}
use Rattle.listing.specs.Lines.{width}

one_more : (b : Bool) {x m : ℕ} → x ≤ m → cond b 1 (suc x) ≤ suc m
one_more true h = omega arith
one_more false h = omega arith

pub width_most : (k w n : ℕ) → n < 10 ^ suc w → width k n ≤ suc w
unfolding width
width_most zero w n h = omega arith
width_most (suc k) zero n h = rw (lt-ltb n 10 h) (omega arith)
width_most (suc k) (suc w) n h =
    let l : n < 10 ^ suc w * 10 = rw pow-suc at h in
    one_more (ltb n 10) (width_most k w (n / 10) (omega arith))

tens_pos : (k : ℕ) → 0 < 10 ^ k
tens_pos zero = omega arith
tens_pos (suc k) = rw pow-suc (omega (arith, tens_pos k))

-- a number from a power of ten on, and below the next, has a digit more than the power
width_from : (m n k : ℕ) → n ≤ m → 10 ^ k ≤ n → n < 10 * 10 ^ k → width m n ≡ k + 1
unfolding width
width_from zero n zero b l h = refl
width_from (suc m) n zero b l h = rw (lt-ltb n 10 h)
width_from zero n (suc k) b l h =
    let tens : 10 ^ k * 10 ≤ n = rw pow-suc at l in
    let some : 0 < 10 ^ k = tens_pos k in
    absurd (omega arith)
width_from (suc m) n (suc k) b l h =
    let tens : 10 ^ k * 10 ≤ n = rw pow-suc at l in
    let more : n < 10 * (10 ^ k * 10) = rw pow-suc at h in
    let some : 0 < 10 ^ k = tens_pos k in
    rw (le-ltb n 10 (omega arith), width_from m (n / 10) k (omega arith) (omega arith) (omega arith)) (omega arith)

pub width_is : (n k : ℕ) → 10 ^ k ≤ n → n < 10 * 10 ^ k → width n n ≡ k + 1
width_is n k l h = width_from n n k (omega arith) l h

pub width_zero : (n : ℕ) → n ≡ 0 → width n n ≡ 1
unfolding width
width_zero n e = rw e

pub ruleset widths = (width_is, width_zero)

pub length_decimal : (w n : ℕ) → length (decimal w n) ≡ w
unfolding decimal
length_decimal zero n = refl
length_decimal (suc w) n = rw (length-append, length_decimal w (n / 10)) (omega arith)

-- the last digits of more are those of the number
last_digits : (k w m n : ℕ) → k + w ≡ m → drop k (decimal m n) ≡ decimal w n
unfolding decimal
last_digits k zero m n e = drop_of_length-le (decimal m n) {i = k} (omega (arith, length_decimal m n))
last_digits k (suc w) zero n e = absurd (omega arith)
last_digits k (suc w) (suc m) n e =
    rw (drop-append-le k (decimal m (n / 10)) ((48 + n % 10) ∷ []) (omega (arith, length_decimal m (n / 10))), last_digits k w m (n / 10) (omega arith))

-- as they stand in a slice of all ten
pub last_of_ten : (w n : ℕ) → w ≤ 10 → take (10 - (10 - w)) (drop (10 - w) (decimal 10 n)) ≡ decimal w n
last_of_ten w n h =
    rw (last_digits (10 - w) w 10 n (omega arith)) (take_all (10 - (10 - w)) (decimal w n) (omega (arith, length_decimal w n)))
