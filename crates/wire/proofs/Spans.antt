-- Laws of spans, over every place and width.
-- Assumes nothing.
use mathlib.Core.Path.{◌≡◌, refl, ap, ◌∙◌}
use mathlib.Core.List.{List, [], ◌∷◌, ◌++◌}
use Prim.Native.Nat.{ℕ, zero, suc, ◌+◌, ◌<◌, ◌≤◌}
use native.Mathlib.Nat.{add-zero, zero-add, suc-add}
use native.Mathlib.Omega.{arith}
use lib.ListN.{length, get_or, take, drop}
use lib.Seq.{get_or-drop}
use Rattle.std.proofs.lemmas.Grind.{common_steps, same_number_lists}
use Rattle.wire.specs.Wire.{span}

pub length_span : (s : List ℕ) (at w : ℕ) → length (span s at w) ≡ w
unfolding span
length_span s at zero = refl
length_span s at (suc w) = ap suc (length_span s (at + 1) w)

-- a span of two parts
pub span_add : (s : List ℕ) (at m n : ℕ) → span s at (m + n) ≡ span s at m ++ span s (at + m) n
unfolding span
span_add s at zero n = rw (zero-add, add-zero)
span_add s at (suc m) n =
    let e : at + suc m ≡ at + 1 + m = omega arith in
    rw (suc-add, e, ← span_add s (at + 1) m n)

-- a span of what is left from a place on
pub span_drop : (s : List ℕ) (at i w : ℕ) → span (drop at s) i w ≡ span s (at + i) w
unfolding span
span_drop s at i zero = refl
span_drop s at i (suc w) =
    let e : at + i + 1 ≡ at + (i + 1) = omega arith in
    rw (e, get_or-drop, span_drop s at (i + 1) w)

span_cons : (x : ℕ) (s : List ℕ) (at w : ℕ) → span (x ∷ s) (suc at) w ≡ span s at w
unfolding span
span_cons x s at zero = refl
span_cons x s at (suc w) = rw (suc-add, span_cons x s (at + 1) w)

-- a piece stands where the pieces before it end
pub span_mid : (h p t : List ℕ) → span (h ++ (p ++ t)) (length h) (length p) ≡ p
unfolding span
span_mid [] [] t = refl
span_mid [] (x ∷ p) t = ap (λ (l : List ℕ). x ∷ l) (span_cons x (p ++ t) 0 (length p) ∙ span_mid [] p t)
span_mid (x ∷ h) p t = span_cons x (h ++ (p ++ t)) (length h) (length p) ∙ span_mid h p t

get_or_span : (s : List ℕ) (at w k : ℕ) → k < w → get_or (span s at w) k 0 ≡ get_or s (at + k) 0
unfolding span
get_or_span s at zero k h = absurd (omega arith)
get_or_span s at (suc w) zero h = rw add-zero refl
get_or_span s at (suc w) (suc k) h = let e : at + 1 + k ≡ at + suc k = omega arith in rw (← e) (get_or_span s (at + 1) w k (omega arith))

-- what has these bytes is the span
pub span_from_each : (bs s : List ℕ) (at w : ℕ) → length bs ≡ w → ((k : ℕ) → k < w → get_or bs k 0 ≡ get_or s (at + k) 0) → bs ≡ span s at w
span_from_each bs s at w l e = same_number_lists _ _ (rw length_span l) (λ k h. rw (get_or_span s at w k (omega arith)) (e k (omega arith)))

-- the first bytes from a place on
pub span_from_take : (bs s : List ℕ) (at w : ℕ) → bs ≡ take w (drop at s) → w ≤ length (drop at s) → bs ≡ span s at w
span_from_take bs s at w e h = span_from_each bs s at w (grind (arith, common_steps)) (λ k l. rw e (grind (arith, common_steps)))

-- what is left from a place on, read from its start
pub span_rest : (s : List ℕ) (at w : ℕ) → span (drop at s) 0 w ≡ span s at w
span_rest s at w = rw (span_drop s at 0 w, add-zero)

-- what has the bytes of what is left from a place on
pub span_from_rest : (bs r s : List ℕ) (at w : ℕ) → r ≡ drop at s → length bs ≡ w → ((k : ℕ) → k < w → get_or bs k 0 ≡ get_or r k 0) → bs ≡ span s at w
span_from_rest bs r s at w q l e = span_from_each bs s at w l (λ k h. e k h ∙ rw (q, get_or-drop))

pub ruleset spans = (span_from_take, span_rest, span_from_rest)
