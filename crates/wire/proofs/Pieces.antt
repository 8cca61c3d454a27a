-- A file cut into pieces, and pieces read where they stand.
-- Assumes nothing.
use mathlib.Core.Path.{◌≡◌, refl, ◌∙◌}
use mathlib.Core.List.{List, [], ◌∷◌, ◌++◌, append_assoc}
use Prim.Native.Nat.{ℕ, zero, suc, ◌+◌, ◌^◌, ◌≤◌, ◌<◌}
use native.Mathlib.Nat.{add-zero, le_of_suc-le-suc}
use native.Mathlib.Omega.{arith}
use lib.ListN.{length, get_or, take, drop, length-append, take-append-drop}
use lib.Seq.{length-take-le}
use Rattle.wire.specs.Wire.{Bytes, span, num, digits, join}
use Rattle.wire.proofs.Spans.{length_span, span_add, span_mid}
use Rattle.wire.proofs.Numbers.{small_span, digits_num, num_digits, num_lt}

pub span_front : (s : List ℕ) (n : ℕ) → n ≤ length s → span s 0 n ++ drop n s ≡ s
span_front s n h =
    let e : span (take n s ++ drop n s) 0 (length (take n s)) ≡ take n s = span_mid [] (take n s) (drop n s) in
    let f : span s 0 n ≡ take n s = rw (take-append-drop, length-take-le n s h) at e in
    rw f (take-append-drop n s)

-- a number's bytes, as the file has them
pub digits_span : (s : List ℕ) (o at w x : ℕ) → Bytes s → num o (span s at w) ≡ x → digits o w x ≡ span s at w
digits_span s o at w x b e =
    let d : digits o (length (span s at w)) (num o (span s at w)) ≡ span s at w = digits_num o (span s at w) (small_span s b at w) in
    rw (length_span, e) at d

-- the n bytes of s from at on, as pieces
pub data Parts : List ℕ → ℕ → ℕ → List (List ℕ) → Type 0 where
  end : {s : List ℕ} {at : ℕ} → Parts s at 0 []
  part : {s : List ℕ} {at n : ℕ} {p : List ℕ} {ps : List (List ℕ)} (w : ℕ) → p ≡ span s at w → Parts s (at + w) n ps → Parts s at (w + n) (p ∷ ps)

pub parts_join : {s : List ℕ} {at n : ℕ} {ps : List (List ℕ)} → Parts s at n ps → join ps ≡ span s at n
unfolding join span
parts_join end = refl
parts_join (part {s} {at} {n} {p} {ps} w e r) = rw (e, parts_join r, ← span_add s at w n)

-- what a file reads where it is made of pieces: each piece at its place
abbrev pub Reads : List ℕ → ℕ → List ℕ → List (List ℕ) → Type 0
Reads s at [] ps = Unit
Reads s at (w ∷ ws) [] = Unit
Reads s at (w ∷ ws) (p ∷ ps) = (span s at w ≡ p) × Reads s (at + w) ws ps

abbrev pub Widths : List ℕ → List (List ℕ) → Type 0
Widths [] ps = Unit
Widths (w ∷ ws) [] = Unit
Widths (w ∷ ws) (p ∷ ps) = (length p ≡ w) × Widths ws ps

pub reads : (ws : List ℕ) (ps : List (List ℕ)) (h t s : List ℕ) (at : ℕ) → s ≡ h ++ (join ps ++ t) → length h ≡ at → Widths ws ps → Reads s at ws ps
unfolding join
reads [] ps h t s at e l v = tt
reads (w ∷ ws) [] h t s at e l v = tt
reads (w ∷ ws) (p ∷ ps) h t s at e l v = (
  rw (e, ← l, ← v.0, append_assoc) (span_mid h p (join ps ++ t)),
  reads ws ps (h ++ p) t s (at + w) (e ∙ rw (append_assoc p (join ps) t, append_assoc h p (join ps ++ t))) (rw (length-append, l, v.0)) v.1,
)

get_or_span : (s : List ℕ) (at n k : ℕ) → k < n → get_or (span s at n) k 0 ≡ get_or s (at + k) 0
unfolding span
get_or_span s at zero k h = absurd (omega arith)
get_or_span s at (suc n) zero h = rw add-zero
get_or_span s at (suc n) (suc k) h =
    let e : at + suc k ≡ at + 1 + k = omega arith in
    rw e (get_or_span s (at + 1) n k (le_of_suc-le-suc h))

-- a part of a part
pub span_span : (s : List ℕ) (at n k w : ℕ) → k + w ≤ n → span (span s at n) k w ≡ span s (at + k) w
unfolding span
span_span s at n k zero h = refl
span_span s at n k (suc w) h =
    let e : at + k + 1 ≡ at + (k + 1) = omega arith in
    let a : span (span s at n) (k + 1) w ≡ span s (at + (k + 1)) w = span_span s at n (k + 1) w (omega arith) in
    rw (get_or_span s at n k (omega arith), e, a)

-- a number, from the bytes that stand there
pub num_of : (o p w x : ℕ) (bs : List ℕ) → p ≡ o → bs ≡ digits o w x → x < 256 ^ w → num p bs ≡ x
num_of o p w x bs e f h = rw (e, f) (num_digits o w x h)

pub num_span_lt : (s : List ℕ) (o at w : ℕ) → Bytes s → num o (span s at w) < 256 ^ w
num_span_lt s o at w b =
    let h : num o (span s at w) < 256 ^ length (span s at w) = num_lt o (span s at w) (small_span s b at w) in
    rw length_span at h
