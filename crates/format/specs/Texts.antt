-- Numbers as text.
use Rattle.std.specs.Prelude.{ℕ, zero, suc, ◌+◌, ◌-◌, ◌*◌, ◌/◌, ◌%◌, Bool, ◌&&◌, List, [], ◌∷◌, ◌++◌, leb}

-- a decimal digit
abbrev pub digit : ℕ → Bool
digit b = leb 48 b && leb b 57

-- the number of two digits
abbrev pub pair : ℕ → ℕ → ℕ
pair a b = (a - 48) * 10 + (b - 48)

-- a number in w digits, the highest first
unfoldable pub decimal : ℕ → ℕ → List ℕ
decimal zero x = []
decimal (suc w) x = decimal w (x / 10) ++ ((48 + x % 10) ∷ [])
