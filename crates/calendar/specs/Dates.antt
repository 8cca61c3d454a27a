-- The Gregorian calendar by its definition: which years are leap, how long each month is, and days counted month after month.
use Rattle.std.specs.Prelude.{ℕ, zero, suc, ◌+◌, ◌-◌, ◌*◌, ◌/◌, ◌%◌, Bool, not, ◌&&◌, ◌||◌, cond, eqb, leb, Option, Some, None}
use Rattle.rules.specs.Rules.{turned, Reply, says, refuses}

-- every fourth year, but of the centuries only every fourth
abbrev pub leap : ℕ → Bool
leap y = eqb (y % 4) 0 && (not (eqb (y % 100) 0) || eqb (y % 400) 0)

-- thirty days have September, April, June and November
unfoldable pub month_length : ℕ → ℕ → ℕ
month_length y m =
    cond (eqb m 2) (cond (leap y) 29 28)
    (cond (eqb m 4 || (eqb m 6 || (eqb m 9 || eqb m 11))) 30 31)

-- the Modified Julian Day on which a month begins, months counted from January 2000 as 0:
-- 2000-01-01 is 51,544, and each month begins its length after the one before
unfoldable pub month_start : ℕ → ℕ
unfolding month_length
month_start zero = 51544
month_start (suc i) = month_start i + month_length (2000 + i / 12) (i % 12 + 1)

-- whether the date is a real one of 2000 to 2099
unfoldable pub real : ℕ → ℕ → ℕ → Bool
unfolding month_length
real y m d = leb 2000 y && (leb y 2099 && (leb 1 m && (leb m 12 && (leb 1 d && leb d (month_length y m)))))

-- what the paper says of a date's answer: a date that is not real breaks the name's rule, NAME of block 1
unfoldable pub paper_day : Option ℕ → Reply ℕ
paper_day (Some n) = says n
paper_day None = refuses (turned 10 1 0)

-- the day of a date, counted from its month's first
abbrev pub day_at : ℕ → ℕ → ℕ → ℕ
day_at y m d = month_start (12 * (y - 2000) + (m - 1)) + (d - 1)

unfoldable pub day_of : ℕ → ℕ → ℕ → Reply ℕ
unfolding real month_start
day_of y m d = cond (real y m d) (says (day_at y m d)) (refuses (turned 10 1 0))
