-- Laws on `counts`, and on the loop that copies them.
-- Assumes nothing.
use mathlib.Core.Path.{◌≡◌, refl, ap}
use mathlib.Core.List.{List, [], ◌∷◌}
use Prim.Native.Nat.{ℕ, zero, suc, ◌+◌, ◌*◌, ◌<◌}
use native.Mathlib.Omega.{arith}
use borrow.Author.Tests.{eq-eqb}
use lib.ListN.{length, get_or}
use Rattle.std.proofs.lemmas.Grind.{same_number_lists}
use Rattle.wire.specs.Wire.{num}
use Rattle.frame.specs.Counts.{counts, filled}

pub counts_length : (o : ℕ) (s : List ℕ) (n : ℕ) → length s ≡ n * 2 → length (counts o s) ≡ n
counts_length o [] n h = omega arith
counts_length o (a ∷ []) n h = absurd (omega arith)
counts_length o (a ∷ b ∷ r) zero h = absurd (omega arith)
counts_length o (a ∷ b ∷ r) (suc n) h = ap suc (counts_length o r n (omega arith))

pub counts_at : (o : ℕ) (s : List ℕ) (i : ℕ) → i * 2 + 1 < length s → get_or (counts o s) i 0 ≡ num o (get_or s (i * 2) 0 ∷ get_or s (i * 2 + 1) 0 ∷ [])
counts_at o [] i h = absurd (omega arith)
counts_at o (a ∷ []) i h = absurd (omega arith)
counts_at o (a ∷ b ∷ r) zero h = refl
counts_at o (a ∷ b ∷ r) (suc i) h =
    let e : suc i * 2 ≡ suc (suc (i * 2)) = omega arith in
    let e' : suc i * 2 + 1 ≡ suc (suc (i * 2 + 1)) = omega arith in
    rw (e', e) (counts_at o r i (omega arith))

-- what has each count is the counts
pub counts_from_each : (o : ℕ) (s d : List ℕ) → length s ≡ length d * 2
    → ((k : ℕ) → k < length d → get_or d k 0 ≡ num o (get_or s (k * 2) 0 ∷ get_or s (k * 2 + 1) 0 ∷ [])) → d ≡ counts o s
counts_from_each o s d l e = same_number_lists _ _ (rw (counts_length o s (length d) l) refl) (λ k h. rw (counts_at o s k (omega arith)) (e k h))

-- bytes that hold as many counts as there is room for
pub filled_twice : (o : ℕ) (s d : List ℕ) → length s ≡ length d * 2 → filled o s d ≡ counts o s
unfolding filled
filled_twice o s d e = rw (eq-eqb (length s) (length d * 2) e)
