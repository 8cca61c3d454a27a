-- Laws on how many numbers of a list pass a test, and on the counts of a piece of bytes.
-- Assumes nothing.
use mathlib.Core.Path.{◌≡◌, refl, ap, ◌∙◌}
use mathlib.Core.Bool.{Bool, true, false, cond}
use mathlib.Core.List.{List, [], ◌∷◌, ◌++◌}
use Prim.Native.Nat.{ℕ, zero, suc, ◌+◌, ◌*◌, ◌/◌, ◌%◌, ◌<◌, ◌≤◌}
use native.Mathlib.Nat.{not-suc-le-zero, le_of_suc-le-suc}
use native.Mathlib.Numerals.{add-one}
use native.Mathlib.Omega.{arith}
use lib.Dec.{eqb}
use lib.ListN.{length, take, get_or}
use lib.Seq.{take_all}
use Rattle.wire.specs.Wire.{num, low}
use Rattle.frame.specs.Counts.{counts}
use Rattle.totals.specs.Kinds.{number}

one_most : (b : Bool) → cond b 1 0 ≤ 1
one_most true = omega arith
one_most false = omega arith

module _ (p : ℕ → Bool) where
  pub number_none : (xs : List ℕ) → number p (take 0 xs) ≡ 0
  unfolding number
  number_none xs = refl

  more : (i : ℕ) (xs : List ℕ) → i < length xs → number p (take i xs) + cond (p (get_or xs i 0)) 1 0 ≡ number p (take (suc i) xs)
  unfolding number
  more i [] h = absurd (not-suc-le-zero h)
  more zero (c ∷ cs) h = omega arith
  more (suc i) (c ∷ cs) h = let e = more i cs (le_of_suc-le-suc h) in omega arith

  -- a turn of a loop that counts
  pub number_step : (i x : ℕ) (xs : List ℕ) (t n : ℕ) → i < length xs → x ≡ get_or xs i 0 → t ≡ number p (take i xs) → n ≡ cond (p x) 1 0 → t + n ≡ number p (take (i + 1) xs)
  number_step i x xs t n h e a b = rw (add-one i, b, e, a) (more i xs h)

  pub number_most : (xs : List ℕ) → number p xs ≤ length xs
  unfolding number
  number_most [] = omega arith
  number_most (x ∷ xs) = omega (arith, one_most (p x), number_most xs)

  -- over lists one after the other
  number_append : (xs ys : List ℕ) → number p (xs ++ ys) ≡ number p xs + number p ys
  unfolding number
  number_append [] ys = omega arith
  number_append (x ∷ xs) ys = let e = number_append xs ys in omega arith

-- every number is one of 16 bits
abbrev pub Small : List ℕ → Type 0
Small xs = (k : ℕ) → get_or xs k 0 < 65536

-- tests that agree count the same
pub number_same : (p q : ℕ → Bool) → ((x : ℕ) → x < 65536 → p x ≡ q x) → (xs : List ℕ) → Small xs → number p xs ≡ number q xs
unfolding number
number_same p q e [] s = refl
number_same p q e (x ∷ xs) s = rw (e x (s 0), number_same p q e xs (λ k. s (suc k)))

-- ---- counts

pub counts_half : (o : ℕ) (s : List ℕ) → length (counts o s) ≡ length s / 2
counts_half o [] = omega arith
counts_half o (a ∷ []) = omega arith
counts_half o (a ∷ b ∷ r) = let e = counts_half o r in omega arith

pair : (o a b : ℕ) → a < 256 → b < 256 → num o (a ∷ b ∷ []) < 65536
unfolding num low
pair o a b p q = go (eqb o 0)
  where
    go : (t : Bool) → cond t (a + 256 * (b + 256 * 0)) (b + 256 * (a + 256 * 0)) < 65536
    go true = omega arith
    go false = omega arith

pub small : (o : ℕ) (s : List ℕ) → ((k : ℕ) → get_or s k 0 < 256) → Small (counts o s)
small o [] h k = omega arith
small o (a ∷ []) h k = omega arith
small o (a ∷ b ∷ r) h zero = pair o a b (h 0) (h 1)
small o (a ∷ b ∷ r) h (suc k) = small o r (λ j. h (suc (suc j))) k

take_counts : (o m : ℕ) (s : List ℕ) → counts o (take (m * 2) s) ≡ take m (counts o s)
take_counts o zero s = refl
take_counts o (suc m) [] = let e : suc m * 2 ≡ suc (suc (m * 2)) = omega arith in rw e
take_counts o (suc m) (a ∷ []) = let e : suc m * 2 ≡ suc (suc (m * 2)) = omega arith in rw e
take_counts o (suc m) (a ∷ b ∷ r) = let e : suc m * 2 ≡ suc (suc (m * 2)) = omega arith in rw e (ap (λ (t : List ℕ). num o (a ∷ b ∷ []) ∷ t) (take_counts o m r))

-- a last byte without a second holds no count
pub take_whole : (o : ℕ) (s : List ℕ) → counts o (take (length s / 2 * 2) s) ≡ counts o s
take_whole o s = take_counts o (length s / 2) s ∙ take_all (length s / 2) (counts o s) (omega (arith, counts_half o s))

-- of bytes in two parts
counts_append : (o : ℕ) (s t : List ℕ) → length s % 2 ≡ 0 → counts o (s ++ t) ≡ counts o s ++ counts o t
counts_append o [] t h = refl
counts_append o (a ∷ []) t h = absurd (omega arith)
counts_append o (a ∷ b ∷ r) t h = ap (λ (t : List ℕ). num o (a ∷ b ∷ []) ∷ t) (counts_append o r t (omega arith))

pub number_counts : (p : ℕ → Bool) (o : ℕ) (s t : List ℕ) → length s % 2 ≡ 0 → number p (counts o (s ++ t)) ≡ number p (counts o s) + number p (counts o t)
number_counts p o s t h = ap (number p) (counts_append o s t h) ∙ number_append p (counts o s) (counts o t)
