-- Writing a reel of files that are handed over end to end, with their lengths.
use Rattle.std.specs.Prelude.{ℕ, ◌+◌, Bool, ◌&&◌, List, [], ◌∷◌, ◌++◌, length, take, drop, leb, ltb, eqb}
use Rattle.rules.specs.Rules.{Row, row, tables, Ruling, fine, judge, after}
use Rattle.reel.specs.Ends.{big, most}
use Rattle.reel.specs.Reels.{File, reel_of, filed}

-- ---- the list that is handed over

-- the files of these lengths, end to end from place `at` on
unfoldable pub cut_up : List ℕ → ℕ → List ℕ → List File
cut_up files at [] = []
cut_up files at (l ∷ ls) = take l (drop at files) ∷ cut_up files (at + l) ls

unfoldable pub sum_of : List ℕ → ℕ
sum_of [] = 0
sum_of (l ∷ ls) = l + sum_of ls

abbrev pub listed : List ℕ → List ℕ → List File
listed files lengths = cut_up files 0 lengths

-- one or more files, not too many; lengths that add up to the bytes offered; a reel smaller than 2 to the 32
unfoldable pub good_list : List ℕ → List ℕ → Bool
good_list files lengths =
    leb 1 (length lengths)
    && leb (length lengths) most
    && eqb (sum_of lengths) (length files)
    && ltb (length (reel_of (listed files lengths))) big

-- 18 REEL, then the files' own refusals, and last 17 ROOM
unfoldable pub writing : List ℕ → List ℕ → ℕ → ℕ → List Row
writing files lengths need room =
    tables ((row (good_list files lengths) 18 0 0 ∷ []) ∷ filed (listed files lengths) ∷ (row (leb need room) 17 0 0 ∷ []) ∷ [])

-- ---- what is written

-- the verdict on these bytes, to be written of this list in a lent output
abbrev pub wrote : List ℕ → List ℕ → List ℕ → List ℕ → Ruling
wrote files lengths bs out = judge fine (writing files lengths (length bs) (length out))

-- the output afterwards: the bytes and then the rest as it was, or all as it was
unfoldable pub written : List ℕ → List ℕ → List ℕ → List ℕ → List ℕ
written files lengths bs out = after (wrote files lengths bs out) out (bs ++ drop (length bs) out)
