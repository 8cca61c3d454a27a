-- Bytes, the numbers that they are, and bytes stored in a lent slice.
use Rattle.std.specs.Prelude.{ℕ, zero, suc, ◌+◌, ◌*◌, ◌/◌, ◌%◌, ◌<◌, List, [], ◌∷◌, ◌++◌, reverse, Bool, true, false, ◌&&◌, cond, ◌≡◌, length, get_or, eqb}
use Rattle.std.proofs.lemmas.List.Edits.{sets}

-- every element is a byte
abbrev pub Bytes : List ℕ → Type 0
Bytes s = (i : ℕ) → get_or s i 0 < 256

-- w bytes of s from at on; a byte past the end is 0
unfoldable pub span : List ℕ → ℕ → ℕ → List ℕ
span s at zero = []
span s at (suc w) = get_or s at 0 ∷ span s (at + 1) w

-- the number whose bytes these are, the lowest first
unfoldable pub low : List ℕ → ℕ
low [] = 0
low (b ∷ bs) = b + 256 * low bs

-- the same in a byte order: 0 is the lowest byte first, any other the highest
unfoldable pub num : ℕ → List ℕ → ℕ
num o bs = cond (eqb o 0) (low bs) (low (reverse bs))

-- the w lowest bytes of a number, the lowest first
unfoldable pub lows : ℕ → ℕ → List ℕ
lows zero x = []
lows (suc w) x = x % 256 ∷ lows w (x / 256)

-- the same in a byte order
unfoldable pub digits : ℕ → ℕ → ℕ → List ℕ
digits o w x = cond (eqb o 0) (lows w x) (reverse (lows w x))

-- whether two runs of bytes are the same
unfoldable pub eqs : List ℕ → List ℕ → Bool
eqs [] [] = true
eqs [] (y ∷ ys) = false
eqs (x ∷ xs) [] = false
eqs (x ∷ xs) (y ∷ ys) = eqb x y && eqs xs ys

-- pieces one after the other
unfoldable pub join : List (List ℕ) → List ℕ
join [] = []
join (p ∷ ps) = p ++ join ps

-- the rows 0 to n - 1 one after the other
unfoldable pub rows : (ℕ → List ℕ) → ℕ → List ℕ
rows f zero = []
rows f (suc n) = rows f n ++ f n

-- the numbers f 0 to f (n - 1)
unfoldable pub tab : (ℕ → ℕ) → ℕ → List ℕ
tab f zero = []
tab f (suc n) = tab f n ++ (f n ∷ [])

-- l with bs stored from at on; what would stand past the end is left out
unfoldable pub store : List ℕ → ℕ → List ℕ → List ℕ
store l at bs = sets l at bs

-- p, of w bytes, was stored in l from at on, which gave out
pub record Stored (w : ℕ) (l : List ℕ) (at : ℕ) (p out : List ℕ) : Type 0 where
  pub long : length p ≡ w
  pub is : out ≡ store l at p
