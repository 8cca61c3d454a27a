-- What the counting loops say of a list of counts.
use Rattle.std.specs.Prelude.{ℕ, ◌+◌, ◌^◌, ◌≤◌, ◌<◌, Bool, false, cond, ◌&&◌, List, ◌≡◌, eqb, leb, ltb}
use Rattle.reading.specs.declared.Reading.{Reading}
use Rattle.reading.specs.declared.Calibration.{Calibration}
use Rattle.reading.specs.Counts.{reading_of}
use Rattle.totals.specs.declared.Totals.{Totals}
use Rattle.totals.specs.Kinds.{is_radiance, is_error, is_outside, is_over, is_uncalibrated, number, count_readings}

-- the five totals of a list of counts, each by its own rule
pub record Totalled (cal : Calibration) (cs : List ℕ) (radiance error outside over uncalibrated : ℕ) : Type 0 where
  pub radiance_count : radiance ≡ count_readings is_radiance cal cs
  pub error_count : error ≡ count_readings is_error cal cs
  pub outside_count : outside ≡ count_readings is_outside cal cs
  pub over_count : over ≡ count_readings is_over cal cs
  pub uncalibrated_count : uncalibrated ≡ count_readings is_uncalibrated cal cs

-- no total is the largest number
abbrev pub Roomy : Totals → Type 0
Roomy t = (t.radiance < 2 ^ 63) × (t.error < 2 ^ 63) × (t.outside < 2 ^ 63) × (t.over < 2 ^ 63) × (t.uncalibrated < 2 ^ 63)

-- the totals with one reading more
abbrev pub with_one : Totals → Reading → Totals
with_one t r = record {
  radiance = t.radiance + cond (is_radiance r) 1 0;
  error = t.error + cond (is_error r) 1 0;
  outside = t.outside + cond (is_outside r) 1 0;
  over = t.over + cond (is_over r) 1 0;
  uncalibrated = t.uncalibrated + cond (is_uncalibrated r) 1 0;
}

-- ---- without a float for each count

-- below the special counts, a count is over range from the limit on
pub record Limit (bits limit : ℕ) : Type 0 where
  pub most : limit ≤ 65534
  pub as_bits : (x : ℕ) → x < 65534 → leb (2 ^ bits) x ≡ leb limit x

-- no count below the special ones reads as uncalibrated
unfoldable pub Fine : Calibration → Type 0
Fine cal = (x : ℕ) → x < 65534 → is_uncalibrated (reading_of cal x) ≡ false

-- a test for each of four kinds
abbrev pub test_error : ℕ → Bool
test_error x = eqb x 65535

abbrev pub test_outside : ℕ → Bool
test_outside x = eqb x 65534

abbrev pub test_over : ℕ → ℕ → Bool
test_over limit x = leb limit x && ltb x 65534

abbrev pub test_below : ℕ → ℕ → Bool
test_below limit x = ltb x limit

-- how many counts pass each test
pub record Sorted (limit : ℕ) (cs : List ℕ) (error outside over below : ℕ) : Type 0 where
  pub error_count : error ≡ number test_error cs
  pub outside_count : outside ≡ number test_outside cs
  pub over_count : over ≡ number (test_over limit) cs
  pub below_count : below ≡ number (test_below limit) cs
