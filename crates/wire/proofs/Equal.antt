-- `eqs` and equality.
-- Assumes nothing.
use mathlib.Core.Path.{◌≡◌, refl}
use mathlib.Core.Bool.{Bool, true, false, ◌&&◌}
use mathlib.Core.List.{List, [], ◌∷◌}
use Prim.Native.Nat.{ℕ}
use native.Mathlib.Omega.{arith}
use lib.Dec.{eqb}
use lib.Pointwise.{pointwise}
use borrow.Author.Tests.{eq-eqb, eqb-true}
use Rattle.wire.specs.Wire.{eqs}

both_true : (a b : Bool) → (a && b) ≡ true → (a ≡ true) × (b ≡ true)
both_true true b e = (refl, e)
both_true false b e = (e, absurd (let z : ◌≡◌ {A = ℕ} 0 1 = cc in omega arith))

pub eqs_eq : (xs ys : List ℕ) → eqs xs ys ≡ true → xs ≡ ys
unfolding eqs
eqs_eq [] [] e = refl
eqs_eq [] (y ∷ ys) e = absurd (let z : ◌≡◌ {A = ℕ} 0 1 = cc in omega arith)
eqs_eq (x ∷ xs) [] e = absurd (let z : ◌≡◌ {A = ℕ} 0 1 = cc in omega arith)
eqs_eq (x ∷ xs) (y ∷ ys) e =
    let b = both_true (eqb x y) (eqs xs ys) e in
    rw (eqb-true x y b.0, eqs_eq xs ys b.1)

pub eqs_refl : (xs : List ℕ) → eqs xs xs ≡ true
unfolding eqs
eqs_refl [] = refl
eqs_refl (x ∷ xs) = rw (eq-eqb x x refl, eqs_refl xs)

pub eqs_same : (xs ys : List ℕ) → xs ≡ ys → eqs xs ys ≡ true
eqs_same xs ys e = rw e (eqs_refl ys)

-- what std's equality of slices says
pub pointwise_eqs : (xs ys : List ℕ) → pointwise eqb xs ys ≡ eqs xs ys
unfolding eqs
pointwise_eqs [] [] = refl
pointwise_eqs [] (y ∷ ys) = refl
pointwise_eqs (x ∷ xs) [] = refl
pointwise_eqs (x ∷ xs) (y ∷ ys) = rw (pointwise_eqs xs ys) refl
