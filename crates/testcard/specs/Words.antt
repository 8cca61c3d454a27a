-- What a word spells, and its parts between pluses.
use Rattle.std.specs.Prelude.{ℕ, ◌+◌, ◌*◌, ◌-◌, min, cond, List, [], ◌∷◌, eqb, ltb}

-- n with the digit b behind it, or 65,535: where b is no digit, and where the number is larger
abbrev pub longer_by : ℕ → ℕ → ℕ
longer_by n b = cond (ltb b 48) 65535 (cond (ltb 57 b) 65535 (min (n * 10 + (b - 48)) 65535))

-- n with all these behind it
unfoldable pub number_from : ℕ → List ℕ → ℕ
number_from n [] = n
number_from n (b ∷ s) = number_from (longer_by n b) s

-- the number of a word, which has a digit at least
unfoldable pub number_of : List ℕ → ℕ
number_of [] = 65535
number_of (b ∷ s) = number_from 0 (b ∷ s)

-- the pluses in a word
unfoldable pub pluses_in : List ℕ → ℕ
pluses_in [] = 0
pluses_in (b ∷ s) = cond (eqb b 43) (pluses_in s + 1) (pluses_in s)

-- what stands ahead of a word's first plus
unfoldable pub ahead_of : List ℕ → List ℕ
ahead_of [] = []
ahead_of (b ∷ s) = cond (eqb b 43) [] (b ∷ ahead_of s)

-- what stands behind k pluses; nothing, where there are fewer
unfoldable pub behind_of : List ℕ → ℕ → List ℕ
behind_of [] k = []
behind_of (b ∷ s) k = cond (eqb k 0) (b ∷ s) (behind_of s (cond (eqb b 43) (k - 1) k))
