-- The counts that a file's bytes hold, two bytes to a count.
use Rattle.std.specs.Prelude.{ℕ, ◌*◌, cond, List, [], ◌∷◌, eqb, length, drop}
use Rattle.wire.specs.Wire.{num}
use Rattle.header.specs.Places.{order_of, length_of}

-- the counts of a run of bytes, in a byte order; a last byte without a second holds none
abbrev pub counts : ℕ → List ℕ → List ℕ
counts o [] = []
counts o (a ∷ []) = []
counts o (a ∷ b ∷ r) = num o (a ∷ b ∷ []) ∷ counts o r

-- what is lent holds the counts of these bytes, where they fill it, and else what it held
unfoldable pub filled : ℕ → List ℕ → List ℕ → List ℕ
filled o s lent = cond (eqb (length s) (length lent * 2)) (counts o s) lent

-- the counts of a file: what follows its header
unfoldable pub counts_of : List ℕ → List ℕ
counts_of f = counts (order_of f) (drop (length_of f) f)
