-- Stores one after the other, and loops of stores. Assumes nothing.
use mathlib.Core.Path.{◌≡◌, refl}
use mathlib.Core.List.{List, [], ◌∷◌, ◌++◌}
use Prim.Native.Nat.{ℕ, ◌+◌}
use Rattle.wire.specs.Wire.{store, rows, Stored}
use Rattle.wire.proofs.Rows.{rows_turn}
use Rattle.samples.specs.Pieces.{Piece, filed}

pub filed_append : (l : List ℕ) (ps qs : List Piece) → filed l (ps ++ qs) ≡ filed (filed l ps) qs
unfolding filed
filed_append l [] qs = refl
filed_append l (p ∷ ps) qs = filed_append (store l p.at p.bytes) ps qs

-- ---- a loop that stores rows of bytes, one after the other

pub begins : (row : ℕ → List ℕ) (l : List ℕ) (at : ℕ) → Stored 0 l at (rows row 0) l
unfolding store rows
begins row l at = record { long = refl; is = refl }

pub turns : (row : ℕ → List ℕ) {l m out b : List ℕ} {at k w n i here : ℕ} → Stored k l at (rows row i) out → Stored w out here b m
    → here ≡ at + k → b ≡ row i → k + w ≡ n → Stored n l at (rows row (i + 1)) m
turns row {m = m} {out = out} {w = w} {n = n} {i = i} s t e g h = let u : Stored w out _ (row i) m = rw (← e, ← g) t in rows_turn row i n s u h
