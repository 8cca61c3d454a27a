-- The ranges of document 01, in its order. Each is a test that a file's value passes.
use Rattle.std.specs.Prelude.{ℕ, ◌+◌, ◌-◌, Bool, ◌&&◌, ◌||◌, cond, List, [], ◌∷◌, get_or, leb, eqb}
use Rattle.wire.specs.Wire.{eqs}
use Rattle.format.specs.Texts.{digit, pair}

-- "Himawari-", a digit, and six zero bytes
abbrev himawari : ℕ → List ℕ
himawari d = 72 ∷ 105 ∷ 109 ∷ 97 ∷ 119 ∷ 97 ∷ 114 ∷ 105 ∷ 45 ∷ d ∷ 0 ∷ 0 ∷ 0 ∷ 0 ∷ 0 ∷ 0 ∷ []

-- 8 or 9; 0 for any other text
unfoldable pub satellite_of : List ℕ → ℕ
satellite_of t = cond (eqs t (himawari 56)) 8 (cond (eqs t (himawari 57)) 9 0)

-- the letters x and y, and a number 01 to n
abbrev pub series : List ℕ → ℕ → ℕ → ℕ → Bool
series t x y n =
    let k = pair (get_or t 2 0) (get_or t 3 0) in
    eqb (get_or t 0 0) x && (eqb (get_or t 1 0) y && ((digit (get_or t 2 0) && digit (get_or t 3 0)) && (leb 1 k && leb k n)))

-- FLDK, JP01 to JP04, R301 to R304, R401 to R420, R501 to R520
unfoldable pub good_area : List ℕ → Bool
good_area t =
    eqs t (70 ∷ 76 ∷ 68 ∷ 75 ∷ [])
    || (series t 74 80 4 || (series t 82 51 4 || (series t 82 52 20 || series t 82 53 20)))

-- columns and lines: 1 to 22,000
abbrev pub good_size : ℕ → Bool
good_size n = leb 1 n && leb n 22000

-- segment total N 1 to 99
abbrev pub good_total : ℕ → Bool
good_total n = leb 1 n && leb n 99

-- number 1 to N
abbrev pub good_number : ℕ → ℕ → Bool
good_number k n = leb 1 k && leb k n

-- first line at least 1 with first line + lines - 1 at most 22,000
abbrev pub good_first : ℕ → ℕ → Bool
good_first first lines = leb 1 first && leb (first + lines - 1) 22000
