-- A record: the numbers 1 to 99 that are in. The mark of number k stands at k - 1.
use Rattle.std.specs.Prelude.{ℕ, zero, suc, ◌+◌, ◌-◌, Bool, true, false, not, cond, ◌&&◌, List, get_or, set, replicate, leb}

abbrev pub no_marks : List Bool
no_marks = replicate 99 false

unfoldable pub marked : List Bool → ℕ → Bool
marked marks k = leb 1 k && leb k 99 && get_or marks (k - 1) false

abbrev pub mark : List Bool → ℕ → List Bool
mark marks k = set marks (k - 1) true

-- the n elements from place k on pass a test; d stands past the end
abbrev pub pass : {A : Type 0} → (A → Bool) → A → List A → ℕ → ℕ → Bool
pass test d l k zero = true
pass test d l k (suc n) = cond (test (get_or l k d)) (pass test d l (k + 1) n) false

-- no number above the total is marked
unfoldable pub none_above : ℕ → List Bool → Bool
none_above total marks = pass not false marks total (99 - total)

abbrev pub one_of : Bool → ℕ
one_of b = cond b 1 0

-- how many of the n marks from place k on are set
abbrev pub tallied : List Bool → ℕ → ℕ → ℕ
tallied marks k zero = 0
tallied marks k (suc n) = one_of (get_or marks k false) + tallied marks (k + 1) n

-- how many numbers are marked
unfoldable pub tally_of : List Bool → ℕ
tally_of marks = tallied marks 0 99
