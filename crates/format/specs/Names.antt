-- The file's name: HS_aaa_yyyymmdd_hhnn_Bbb_cccc_Rjj_Skkll.DAT, 43 bytes, and then 85 zero bytes.
use Rattle.std.specs.Prelude.{ℕ, ◌+◌, ◌*◌, Bool, true, false, ◌&&◌, cond, List, [], ◌∷◌, ◌++◌, get_or, replicate}
use Rattle.wire.specs.Wire.{span, eqs, join}
use Rattle.rules.specs.Rules.{turned, Reply, says, refuses}
use Rattle.calendar.specs.Dates.{day_of}
use Rattle.format.specs.Texts.{digit, pair, decimal}
use Rattle.format.specs.Bands.{band_of}

-- the number of two digits at a place of a name
abbrev pair_at : List ℕ → ℕ → ℕ
pair_at n at = pair (get_or n at 0) (get_or n (at + 1) 0)

-- yyyymmdd are digits
abbrev pub digits8 : List ℕ → Bool
digits8 n =
    (digit (get_or n 7 0) && (digit (get_or n 8 0) && (digit (get_or n 9 0) && digit (get_or n 10 0))))
    && ((digit (get_or n 11 0) && digit (get_or n 12 0)) && (digit (get_or n 13 0) && digit (get_or n 14 0)))

-- the day of a name: yyyymmdd as a date
unfoldable pub date_of : List ℕ → Reply ℕ
date_of n = cond (digits8 n) (day_of (pair_at n 7 * 100 + pair_at n 9) (pair_at n 11) (pair_at n 13)) (refuses (turned 10 1 0))

-- whether there is a day, and which one
abbrev pub is_day : Reply ℕ → Bool
is_day (says d) = true
is_day (refuses t) = false

abbrev pub day_or_0 : Reply ℕ → ℕ
day_or_0 (says d) = d
day_or_0 (refuses t) = 0

-- the name that the header's values spell, with eight bytes for the date
unfoldable pub spelling : ℕ → List ℕ → ℕ → ℕ → List ℕ → ℕ → ℕ → List ℕ
spelling satellite date timeline band area number total =
    join (
    (72 ∷ 83 ∷ 95 ∷ 72 ∷ [])
    ∷ decimal 2 satellite
    ∷ (95 ∷ [])
    ∷ date
    ∷ (95 ∷ [])
    ∷ decimal 4 timeline
    ∷ (95 ∷ 66 ∷ [])
    ∷ decimal 2 band
    ∷ (95 ∷ [])
    ∷ area
    ∷ (95 ∷ 82 ∷ [])
    ∷ decimal 2 (band_of band).resolution
    ∷ (95 ∷ 83 ∷ [])
    ∷ decimal 2 number
    ∷ decimal 2 total
    ∷ (46 ∷ 68 ∷ 65 ∷ 84 ∷ [])
    ∷ []
    )

unfoldable pub name_for : ℕ → List ℕ → ℕ → ℕ → List ℕ → ℕ → ℕ → List ℕ
name_for satellite date timeline band area number total = spelling satellite date timeline band area number total ++ replicate 85 0

-- a name is good when it spells the header's values and its date is a day
unfoldable pub good_name : List ℕ → ℕ → ℕ → ℕ → List ℕ → ℕ → ℕ → Bool
good_name n satellite timeline band area number total = eqs n (name_for satellite (span n 7 8) timeline band area number total) && is_day (date_of n)
