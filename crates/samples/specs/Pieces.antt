-- Bytes that are stored in a lent buffer, one piece after the other.
use Rattle.std.specs.Prelude.{ℕ, List, [], ◌∷◌}
use Rattle.wire.specs.Wire.{store}

-- where it is stored, and its bytes
pub record Piece : Type 0 where
  pub at : ℕ
  pub bytes : List ℕ

abbrev pub piece : ℕ → List ℕ → Piece
piece k bs = record { at = k; bytes = bs }

-- l with the pieces stored; what would stand past its end is left out
unfoldable pub filed : List ℕ → List Piece → List ℕ
filed l [] = l
filed l (p ∷ ps) = filed (store l p.at p.bytes) ps
