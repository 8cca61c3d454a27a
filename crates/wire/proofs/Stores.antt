-- Laws of stores: what is past the end is left out, a run of stores is one, and what was stored reads back.
-- Assumes nothing.
use mathlib.Core.Path.{◌≡◌, refl, sym, ◌∙◌, subst⁻¹}
use mathlib.Core.List.{List, [], ◌∷◌, ◌++◌, append_assoc}
use Prim.Native.Nat.{ℕ, zero, suc, ◌+◌, ◌-◌, ◌^◌, ◌≤◌, ◌<◌, min}
use native.Mathlib.Nat.{add-zero, zero-add}
use native.Mathlib.Omega.{arith}
use lib.ListN.{length, take, drop, set, length-append, length-set}
use lib.Seq.{sets, set_out, length-take-le, sets-eq}
use Rattle.std.proofs.lemmas.Grind.{common_steps}
use Rattle.wire.specs.Wire.{span, num, digits, store, join, Stored}
use Rattle.wire.proofs.Spans.{span_mid}
use Rattle.wire.proofs.Numbers.{num_digits}

sets_append : (l : List ℕ) (i : ℕ) (xs ys : List ℕ) → sets l i (xs ++ ys) ≡ sets (sets l i xs) (i + length xs) ys
sets_append l i [] ys = rw add-zero
sets_append l i (x ∷ xs) ys =
    let e : i + suc (length xs) ≡ suc i + length xs = omega arith in
    rw (e, ← sets_append (set l i x) (suc i) xs ys)

pub store_append : (l : List ℕ) (at w : ℕ) (p q : List ℕ) → length p ≡ w → store l at (p ++ q) ≡ store (store l at p) (at + w) q
unfolding store
store_append l at w p q e = rw (← e, sets_append)

sets_out : (l : List ℕ) (i : ℕ) (xs : List ℕ) → length l ≤ i → sets l i xs ≡ l
sets_out l i [] h = refl
sets_out l i (x ∷ xs) h = rw (set_out l i x h) (sets_out l (suc i) xs (omega arith))

-- what would stand past the end is left out
pub sets_clipped : (l : List ℕ) (i n : ℕ) (xs : List ℕ) → min (length xs) (length l - i) ≤ n → sets l i (take n xs) ≡ sets l i xs
sets_clipped l i zero [] h = refl
sets_clipped l i zero (x ∷ xs) h = sym (sets_out l i (x ∷ xs) (omega arith))
sets_clipped l i (suc n) [] h = refl
sets_clipped l i (suc n) (x ∷ xs) h = sets_clipped (set l i x) (suc i) n xs (rw length-set (omega arith))

clip : (l : List ℕ) (at n : ℕ) (bs : List ℕ) → n ≡ min (length bs) (length l - at) → sets l at (take n bs) ≡ sets l at bs
clip l at n bs e = sets_clipped l at n bs (omega arith)

pub store_out : (l : List ℕ) (at : ℕ) (bs : List ℕ) → length l < at → l ≡ store l at bs
unfolding store
store_out l at bs h = sym (sets_out l at bs (omega arith))

-- a part of l overwritten by the first bytes, as many as there is room for
pub store_in : (l bs v : List ℕ) (at n k : ℕ) → at ≤ length l → n ≡ min (length bs) (length l - at) → v ≡ take n bs → k ≡ n → take at l ++ (v ++ drop k (drop at l)) ≡ store l at bs
unfolding store
store_in l bs v at n k h e f g =
    let long : length (take n bs) ≡ n = length-take-le n bs (omega arith) in
    let fits : at + length (take n bs) ≤ length l = omega arith in
    rw (f, g) (rw (← clip l at n bs e, sets-eq (take n bs) l at fits) (grind (arith, common_steps)))

-- the same where there is room for all
pub store_all : (l bs v : List ℕ) (at n k : ℕ) → at ≤ length l → length bs ≤ length l - at → v ≡ bs → k ≡ length bs → take at l ++ (v ++ drop k (drop at l)) ≡ store l at bs
store_all l bs v at n k h r f g = store_in l bs v at (length bs) k h (omega arith) (f ∙ grind (arith, common_steps)) g

pub ruleset stores = (store_out, store_in, store_all)

-- a run of stores, each where the last one ended: from l to out, the n bytes of the pieces ps from at on
pub data Puts : List ℕ → ℕ → ℕ → List (List ℕ) → List ℕ → Type 0 where
  done : {l : List ℕ} {at : ℕ} → Puts l at 0 [] l
  next : {l m out p : List ℕ} {ps : List (List ℕ)} {at w n : ℕ} → Stored w l at p m → Puts m (at + w) n ps out → Puts l at (w + n) (p ∷ ps) out

puts_long : {l out : List ℕ} {ps : List (List ℕ)} {at n : ℕ} → Puts l at n ps out → length (join ps) ≡ n
unfolding join
puts_long done = refl
puts_long (next {p = p} {ps = ps} s r) = rw (length-append, s.long, puts_long r)

puts_is : {l out : List ℕ} {ps : List (List ℕ)} {at n : ℕ} → Puts l at n ps out → out ≡ store l at (join ps)
unfolding store join
puts_is done = refl
puts_is (next {l} {m} {out} {p} {ps} {at} s r) = puts_is r ∙ rw (s.is, ← s.long, ← sets_append l at p (join ps))

-- the same, where the next place is written another way
pub next_at : {l m out p : List ℕ} {ps : List (List ℕ)} {at w n : ℕ} (to : ℕ) → at + w ≡ to → Stored w l at p m → Puts m to n ps out → Puts l at (w + n) (p ∷ ps) out
next_at {m = m} {out = out} {ps = ps} {n = n} to e s r = next s (subst⁻¹ (λ (k : ℕ). Puts m k n ps out) e r)

-- it is one store of the pieces joined
pub puts : {l out : List ℕ} {ps : List (List ℕ)} {at n : ℕ} (w : ℕ) → n ≡ w → Puts l at n ps out → Stored w l at (join ps) out
puts w e r = record { long = puts_long r ∙ e; is = puts_is r }

-- what was stored at the front, and then the rest as it was
pub front : {w : ℕ} {l p out : List ℕ} → Stored w l 0 p out → w ≤ length l → out ≡ p ++ drop w l
unfolding store
front {w} {l} {p} s h = s.is ∙ sets-eq p l 0 (rw (zero-add, s.long) h) ∙ rw (zero-add, s.long)

-- what was stored where there was room reads back, a number in both orders and at every width
pub reads_back : {w : ℕ} {l p out : List ℕ} {at : ℕ} → Stored w l at p out → at + w ≤ length l → span out at w ≡ p
unfolding store
reads_back {w} {l} {p} {out} {at} s h =
    let room : at + length p ≤ length l = rw s.long h in
    let e : out ≡ take at l ++ (p ++ drop (at + length p) l) = s.is ∙ sets-eq p l at room ∙ append_assoc (take at l) p (drop (at + length p) l) in
    let f : length (take at l) ≡ at = length-take-le at l (omega arith) in
    let m : span (take at l ++ (p ++ drop (at + length p) l)) (length (take at l)) (length p) ≡ p = span_mid (take at l) p _ in
    rw (e, ← s.long) (rw f at m)

pub number_back : {w : ℕ} {l out : List ℕ} {at : ℕ} (o x : ℕ) → x < 256 ^ w → Stored w l at (digits o w x) out → at + w ≤ length l → num o (span out at w) ≡ x
number_back {w} o x h s r = rw (reads_back s r) (num_digits o w x h)
