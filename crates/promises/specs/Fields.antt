-- Which field of a file a refusal concerns, and where it stands: the checks in their order, each with its number, its block, its offset, and what
-- must stand there. What is looked at stands at the offset that is told.
use Rattle.std.specs.Prelude.{ℕ, ◌+◌, ◌-◌, ◌≡◌, Bool, not, ◌||◌, List, [], ◌∷◌, ◌++◌, length, get_or, leb, eqb}
use Rattle.wire.specs.Wire.{span, num, join}
use Rattle.rules.specs.Rules.{Turned, turned, Row, row, tables, First}
use Rattle.calendar.specs.Shots.{good_day, good_timeline}
use Rattle.format.specs.Ranges.{satellite_of, good_area, good_size, good_total, good_number, good_first}
use Rattle.format.specs.Bands.{good_band, band_of}
use Rattle.format.specs.Names.{good_name}
use Rattle.header.specs.Places.{order_of, a_of, b_of, c_of, at9, at10, at11, length8, length9, length10, length_of, data_length}
use Rattle.reel.specs.Reels.{File, Good}
use Rattle.listing.specs.Lines.{numeral}
use Rattle.tiling.specs.Lawful.{text}

-- a number in w bytes, by the file's byte order
abbrev number : List ℕ → ℕ → ℕ → ℕ
number s at w = num (order_of s) (span s at w)

-- a field at `at`: such a number, a single byte, or w bytes as they stand; or all that is left from there
abbrev number_field : List ℕ → ℕ → ℕ → ℕ → ℕ → (ℕ → Bool) → Row
number_field s n b at w good = row (good (number s at w)) n b at

abbrev byte_field : List ℕ → ℕ → ℕ → ℕ → (ℕ → Bool) → Row
byte_field s n b at good = row (good (get_or s at 0)) n b at

abbrev bytes_field : List ℕ → ℕ → ℕ → ℕ → ℕ → (List ℕ → Bool) → Row
bytes_field s n b at w good = row (good (span s at w)) n b at

abbrev left : List ℕ → ℕ → ℕ → ℕ → (ℕ → Bool) → Row
left s n b at good = row (good (length s - at)) n b at

abbrev is : ℕ → ℕ → Bool
is n x = eqb x n

-- block k at `at`, of n bytes; and one with entries, whose length is stated in w bytes
abbrev block : List ℕ → ℕ → ℕ → ℕ → List Row
block s k at n = left s 1 k at (leb n) ∷ byte_field s 2 k at (is k) ∷ number_field s 4 k (at + 1) 2 (is n) ∷ []

abbrev entries : List ℕ → ℕ → ℕ → ℕ → ℕ → ℕ → List Row
entries s k at w least full = left s 1 k at (leb least) ∷ byte_field s 2 k at (is k) ∷ number_field s 4 k (at + 1) w (is full) ∷ left s 1 k at (leb full) ∷ []

-- what the name agrees with
abbrev named : List ℕ → List ℕ → Bool
named s name = good_name name (satellite_of (span s 6 16)) (number s 44 2) (number s 601 2) (span s 38 4) (get_or s 1008 0) (get_or s 1007 0)

abbrev pub fields : List ℕ → List Row
fields s =
    tables (
    (left s 1 1 0 (leb 282)
    ∷ byte_field s 2 1 0 (is 1)
    ∷ byte_field s 3 1 5 (λ o. leb o 1)
    ∷ number_field s 4 1 1 2 (is 282)
    ∷ number_field s 5 1 3 2 (is 11)
    ∷ bytes_field s 31 1 6 16 (λ t. not (eqb (satellite_of t) 0))
    ∷ bytes_field s 32 1 38 4 good_area
    ∷ number_field s 33 1 44 2 good_timeline
    ∷ [])
    ∷ block s 2 282 50
    ∷ (number_field s 5 2 285 2 (is 16)
    ∷ byte_field s 6 2 291 (λ c. not (eqb c 1 || eqb c 2))
    ∷ number_field s 34 2 287 2 good_size
    ∷ number_field s 34 2 289 2 good_size
    ∷ byte_field s 35 2 291 (λ c. leb c 2)
    ∷ [])
    ∷ block s 3 332 127
    ∷ block s 4 459 139
    ∷ block s 5 598 147
    ∷ (number_field s 5 5 613 2 (is 65535)
    ∷ number_field s 5 5 615 2 (is 65534)
    ∷ number_field s 36 5 601 2 good_band
    ∷ number_field s 37 5 611 2 (is (band_of (number s 601 2)).bits)
    ∷ [])
    ∷ block s 6 745 259
    ∷ block s 7 1004 47
    ∷ (byte_field s 38 7 1007 good_total
    ∷ byte_field s 38 7 1008 (λ k. good_number k (get_or s 1007 0))
    ∷ number_field s 38 7 1009 2 (λ l. good_first l (number s 289 2))
    ∷ [])
    ∷ entries s 8 1051 2 61 (length8 (a_of s))
    ∷ entries s 9 (at9 (a_of s)) 2 45 (length9 (b_of s))
    ∷ entries s 10 (at10 (a_of s) (b_of s)) 4 47 (length10 (c_of s))
    ∷ block s 11 (at11 (a_of s) (b_of s) (c_of s)) 259
    ∷ (number_field s 8 1 70 4 (is (length_of s))
    ∷ number_field s 9 1 74 4 (is (data_length (number s 287 2) (number s 289 2)))
    ∷ bytes_field s 10 1 114 128 (named s)
    ∷ left s 11 12 (length_of s) (leb (data_length (number s 287 2) (number s 289 2)))
    ∷ left s 12 12 (length_of s) (λ l. leb l (data_length (number s 287 2) (number s 289 2)))
    ∷ [])
    ∷ []
    )

-- a slot, and a film frame number, either day before either timeline: these come from no file
abbrev pub slot_fields : ℕ → ℕ → List Row
slot_fields d t = row (good_day d) 39 0 0 ∷ row (good_timeline t) 33 0 0 ∷ []

abbrev pub film_fields : ℕ → ℕ → ℕ → ℕ → List Row
film_fields d₀ t₀ d t = row (good_day d₀) 39 0 0 ∷ row (good_day d) 39 0 0 ∷ row (good_timeline t₀) 33 0 0 ∷ row (good_timeline t) 33 0 0 ∷ []

-- what a refusal concerns where these files are looked at one after the other: none of them, with block and offset 0; or one of them, all before which are
-- accepted, by the first of its fields at fault
pub data Concerns (fs : List File) : Turned → Type 0 where
  none : {n : ℕ} → Concerns fs (turned n 0 0)
  one : (before after : List File) (f : File) {u : Turned} → fs ≡ before ++ (f ∷ after) → Good before → First (fields f) u → Concerns fs u

abbrev pub offset_of : Turned → ℕ
offset_of (turned n b p) = p

-- the listing's line of a refused file: NO and the three numbers, without leading zeros
abbrev pub refused_line : Turned → List ℕ
refused_line (turned n b p) = join (text "NO" ∷ (32 ∷ numeral n) ∷ (32 ∷ numeral b) ∷ (32 ∷ numeral p) ∷ []) ++ (10 ∷ [])
