-- The pieces of a block, where they stand in the file.
-- Assumes nothing.
use mathlib.Core.Path.{◌≡◌, refl, sym, ◌∙◌, subst}
use mathlib.Core.List.{List, [], ◌∷◌, ◌++◌, append-nil}
use Prim.Native.Nat.{ℕ, suc, ◌+◌, ◌*◌, ◌≤◌, ◌<◌}
use native.Mathlib.Nat.{add-zero, zero-add, mul-suc, mul-le-mul_left}
use native.Mathlib.Omega.{arith}
use lib.ListN.{length}
use Rattle.wire.specs.Wire.{span, join, rows}
use Rattle.wire.proofs.Rows.{row_at}
use Rattle.wire.proofs.Pieces.{Reads, Widths, reads, span_span}

-- the widths together
abbrev pub total : List ℕ → ℕ
total [] = 0
total (w ∷ ws) = w + total ws

shifted : (ws : List ℕ) (ps : List (List ℕ)) (s : List ℕ) (at n k : ℕ) → k + total ws ≤ n → Reads (span s at n) k ws ps → Reads s (at + k) ws ps
shifted [] ps s at n k h r = tt
shifted (w ∷ ws) [] s at n k h r = tt
shifted (w ∷ ws) (p ∷ ps) s at n k h r =
    let e : at + (k + w) ≡ at + k + w = omega arith in
    (sym (span_span s at n k w (omega arith)) ∙ r.0, subst (λ (m : ℕ). Reads s m ws ps) e (shifted ws ps s at n (k + w) (omega arith) r.1))

-- a span that is its pieces joined reads each of them
pub inside : (ws : List ℕ) (ps : List (List ℕ)) (s : List ℕ) (at n : ℕ) → span s at n ≡ join ps → Widths ws ps → total ws ≤ n → Reads s at ws ps
inside ws ps s at n e v h =
    rw add-zero at (shifted ws ps s at n 0 (omega arith) (reads ws ps [] [] (span s at n) 0 (e ∙ sym (append-nil (join ps))) refl v))

-- a row of a span that is rows
pub row_of : (s : List ℕ) (f : ℕ → List ℕ) (at k n : ℕ) → ((i : ℕ) → length (f i) ≡ k) → span s at (k * n) ≡ rows f n → (i : ℕ) → i < n → span s (at + k * i) k ≡ f i
row_of s f at k n g e i h =
    let m : suc i ≤ n = h in
    let p : k * i + k ≤ k * n = rw mul-suc at (mul-le-mul_left k m) in
    let r : span (rows f n ++ []) (0 + k * i) k ≡ f i = row_at f k n g [] [] i h in
    sym (span_span s at (k * n) (k * i) k p) ∙ rw e (rw (append-nil, zero-add) at r)
