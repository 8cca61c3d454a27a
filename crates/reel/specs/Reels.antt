-- A reel: one or more whole files end to end, and then a trailer that points back, all little-endian.
use Rattle.std.specs.Prelude.{ℕ, zero, suc, ◌+◌, ◌*◌, ◌-◌, Bool, ◌&&◌, cond, ◌≡◌, List, [], ◌∷◌, ◌++◌, map, length, take, drop, leb, ltb, eqb}
use Rattle.wire.specs.Wire.{span, num, digits, join}
use Rattle.rules.specs.Rules.{fine, Row, row, tables, judge, Reply, reply}
use Rattle.accept.specs.Checks.{checks}
use Rattle.reel.specs.Ends.{big, most, ending, count_of, trailer_at, good_end}
use Rattle.reel.specs.declared.Place.{Place}

abbrev pub File : Type 0
File = List ℕ

-- ---- what a list of files is written as

-- for each file, of these lengths, its offset and length (4 bytes each), the first at `from`
unfoldable pub entries : ℕ → List ℕ → List ℕ
entries from [] = []
entries from (l ∷ ls) = digits 0 4 from ++ (digits 0 4 l ++ entries (from + l) ls)

unfoldable pub trailer_of : List File → List ℕ
trailer_of fs = entries 0 (map length fs) ++ ending (length fs) (length (join fs))

-- how long it is for n files, or 0 where no reel has so many
unfoldable pub trailer_length : ℕ → ℕ
trailer_length n = cond (leb 1 n && leb n most) (8 * n + length (ending n 0)) 0

unfoldable pub reel_of : List File → List ℕ
reel_of fs = join fs ++ trailer_of fs

-- ---- opening

-- the number of four bytes at a place
abbrev pub four : List ℕ → ℕ → ℕ
four s at = num 0 (span s at 4)

-- the n entries from place e on: each begins where the one before ended, the first at `from`, and the last ends at `to`
unfoldable pub tiled : List ℕ → ℕ → ℕ → ℕ → ℕ → Bool
tiled s to e from zero = eqb from to
tiled s to e from (suc n) = eqb (four s e) from && tiled s to (e + 8) (from + four s (e + 4)) n

-- the trailer's rules
unfoldable pub sound : List ℕ → Bool
sound s =
    ltb (length s) big
    && good_end s
    && eqb (trailer_at s + 8 * count_of s + length (ending (count_of s) (trailer_at s))) (length s)
    && tiled s (trailer_at s) (trailer_at s) 0 (count_of s)

-- what the entry at place e points to
abbrev pub part : List ℕ → ℕ → File
part s e = take (four s (e + 4)) (drop (four s e) s)

unfoldable pub parts_from : List ℕ → ℕ → ℕ → List File
parts_from s e zero = []
parts_from s e (suc n) = part s e ∷ parts_from s (e + 8) n

abbrev pub parts_of : List ℕ → List File
parts_of s = parts_from s (trailer_at s) (count_of s)

-- the checks of files, one file after the other
unfoldable pub filed : List File → List Row
filed fs = tables (map checks fs)

-- each of these is an accepted file
abbrev pub Good : List File → Type 0
Good [] = Unit
Good (f ∷ fs) = (judge fine (checks f) ≡ fine) × Good fs

-- 18 REEL, and then the parts: a part that fails answers with that file's own refusal
unfoldable pub opening : List ℕ → List Row
opening s = tables ((row (sound s) 18 0 0 ∷ []) ∷ filed (parts_of s) ∷ [])

-- how many files, or the refusal
unfoldable pub opened : List ℕ → Reply ℕ
opened s = reply (judge fine (opening s)) (count_of s)

-- ---- one file of a reel, by its number

-- what stands in the entry at place e
abbrev pub entry_in : List ℕ → ℕ → Place
entry_in s e = record { offset = four s e; length = four s (e + 4) }

-- where entry k stands, from 1 on
abbrev pub entry_at : List ℕ → ℕ → ℕ
entry_at s k = trailer_at s + 8 * (k - 1)

-- there is an entry k, it stands before the end, and what it points to lies wholly in the reel
unfoldable pub lies : List ℕ → ℕ → Bool
lies s k =
    leb 1 k
    && leb k (count_of s)
    && leb (entry_at s k + 8 + length (ending (count_of s) (trailer_at s))) (length s)
    && leb (four s (entry_at s k) + four s (entry_at s k + 4)) (length s)

-- where file k stands, or zeros
unfoldable pub place_of : List ℕ → ℕ → Place
place_of s k = cond (lies s k) (entry_in s (entry_at s k)) (record { offset = 0; length = 0 })

unfoldable pub file_of : List ℕ → ℕ → File
file_of s k = take (place_of s k).length (drop (place_of s k).offset s)
