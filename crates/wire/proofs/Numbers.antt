-- A number and its bytes, at every width and in both orders.
-- Assumes nothing.
use mathlib.Core.Path.{◌≡◌, refl, ap, ◌∙◌}
use mathlib.Core.Bool.{Bool, true, false, cond}
use mathlib.Core.List.{List, [], ◌∷◌, reverse, reverse_aux, reverse-reverse}
use Prim.Native.Nat.{ℕ, zero, suc, ◌+◌, ◌*◌, ◌/◌, ◌%◌, ◌^◌, ◌<◌}
use native.Mathlib.Nat.{pow-suc}
use native.Mathlib.Omega.{arith}
use lib.Dec.{eqb}
use lib.ListN.{length, get_or, length-reverse}
use Rattle.wire.specs.Wire.{Bytes, span, low, num, lows, digits}

abbrev pub Small : List ℕ → Type 0
Small [] = Unit
Small (b ∷ bs) = (b < 256) × Small bs

pub small_span : (s : List ℕ) → Bytes s → (at w : ℕ) → Small (span s at w)
unfolding span
small_span s h at zero = tt
small_span s h at (suc w) = (h at, small_span s h (at + 1) w)

small_reverse_aux : (l r : List ℕ) → Small l → Small r → Small (reverse_aux l r)
small_reverse_aux [] r p q = q
small_reverse_aux (x ∷ l) r p q = small_reverse_aux l (x ∷ r) p.1 (p.0, q)

small_reverse : (l : List ℕ) → Small l → Small (reverse l)
small_reverse l p = small_reverse_aux l [] p tt

pub length_lows : (w x : ℕ) → length (lows w x) ≡ w
unfolding lows
length_lows zero x = refl
length_lows (suc w) x = ap suc (length_lows w (x / 256))

pub low_lows : (w x : ℕ) → x < 256 ^ w → low (lows w x) ≡ x
unfolding low lows
low_lows zero x h = omega arith
low_lows (suc w) x h =
    let k : x < 256 ^ w * 256 = rw pow-suc at h in
    let l : x / 256 < 256 ^ w = omega arith in
    omega (arith, low_lows w (x / 256) l)

pub lows_low : (bs : List ℕ) → Small bs → lows (length bs) (low bs) ≡ bs
unfolding low lows
lows_low [] p = refl
lows_low (b ∷ bs) p =
    let h : b < 256 = p.0 in
    let d : (b + 256 * low bs) / 256 ≡ low bs = omega arith in
    let m : (b + 256 * low bs) % 256 ≡ b = omega arith in
    rw (d, m, lows_low bs p.1)

pub low_lt : (bs : List ℕ) → Small bs → low bs < 256 ^ length bs
unfolding low
low_lt [] p = omega arith
low_lt (b ∷ bs) p = rw pow-suc (omega (arith, low_lt bs p.1, p.0))

-- in either order
by_order {ℓ} : {A : Type ℓ} (P : A → Type 0) (b : Bool) (x y : A) → P x → P y → P (cond b x y)
by_order P true x y p q = p
by_order P false x y p q = q

pub length_digits : (o w x : ℕ) → length (digits o w x) ≡ w
unfolding digits
length_digits o w x = by_order (λ (l : List ℕ). length l ≡ w) (eqb o 0) _ _ (length_lows w x) (length-reverse (lows w x) ∙ length_lows w x)

turned : (b : Bool) (w x : ℕ) → x < 256 ^ w → cond b (low (cond b (lows w x) (reverse (lows w x)))) (low (reverse (cond b (lows w x) (reverse (lows w x))))) ≡ x
turned true w x h = low_lows w x h
turned false w x h = rw reverse-reverse (low_lows w x h)

pub num_digits : (o w x : ℕ) → x < 256 ^ w → num o (digits o w x) ≡ x
unfolding num digits
num_digits o w x h = turned (eqb o 0) w x h

back : (b : Bool) (bs : List ℕ) → Small bs → cond b (lows (length bs) (cond b (low bs) (low (reverse bs)))) (reverse (lows (length bs) (cond b (low bs) (low (reverse bs))))) ≡ bs
back true bs p = lows_low bs p
back false bs p =
    rw (← length-reverse bs, lows_low (reverse bs) (small_reverse bs p), reverse-reverse)

pub digits_num : (o : ℕ) (bs : List ℕ) → Small bs → digits o (length bs) (num o bs) ≡ bs
unfolding num digits
digits_num o bs p = back (eqb o 0) bs p

order_lt : (b : Bool) (bs : List ℕ) → Small bs → cond b (low bs) (low (reverse bs)) < 256 ^ length bs
order_lt true bs p = low_lt bs p
order_lt false bs p = rw (← length-reverse bs) (low_lt (reverse bs) (small_reverse bs p))

pub num_lt : (o : ℕ) (bs : List ℕ) → Small bs → num o bs < 256 ^ length bs
unfolding num
num_lt o bs p = order_lt (eqb o 0) bs p

-- a byte is the number of one byte, in both orders
pub num_byte : (s : List ℕ) (o at : ℕ) → get_or s at 0 ≡ num o (span s at 1)
unfolding num low span
num_byte s o at = by_order (λ (x : ℕ). get_or s at 0 ≡ x) (eqb o 0) _ _ (omega arith) (omega arith)
