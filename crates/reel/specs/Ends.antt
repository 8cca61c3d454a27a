-- A reel's end: the number of files (1 byte, 1 to 255), the offset of the trailer's first byte (4 bytes), the letters REEL.
use Rattle.std.specs.Prelude.{ℕ, ◌-◌, Bool, ◌&&◌, List, [], ◌∷◌, ◌++◌, length, drop, leb}
use Rattle.wire.specs.Wire.{span, num, digits, eqs}

-- a reel is smaller than 2 to the 32
abbrev pub big : ℕ
big = 4294967296

abbrev pub most : ℕ
most = 255

abbrev pub letters : List ℕ
letters = 82 ∷ 69 ∷ 69 ∷ 76 ∷ []

-- what is written after the entries of n files, which begin at `to`
unfoldable pub ending : ℕ → ℕ → List ℕ
ending n to = digits 0 1 n ++ (digits 0 4 to ++ letters)

-- what is read there
unfoldable pub count_of : List ℕ → ℕ
count_of s = num 0 (span s (length s - 9) 1)

unfoldable pub trailer_at : List ℕ → ℕ
trailer_at s = num 0 (span s (length s - 8) 4)

unfoldable pub good_end : List ℕ → Bool
good_end s = eqs (drop (length s - 4) s) letters && leb 1 (count_of s)
