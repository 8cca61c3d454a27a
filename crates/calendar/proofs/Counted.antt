-- What is known of a date that is real, and how far its day can lie: small enough to count. Assumes nothing.
use mathlib.Core.Path.{◌≡◌, sym, ◌∙◌}
use mathlib.Core.Bool.{Bool, true}
use Prim.Native.Nat.{ℕ, zero, suc, ◌+◌, ◌*◌, ◌/◌, ◌%◌, ◌≤◌, ◌<◌}
use lib.Dec.{lit≤}
use native.Mathlib.Omega.{arith}
use Rattle.std.proofs.lemmas.Grind.{common_steps}
use Rattle.calendar.specs.Dates.{month_length, month_start, real}

length_le : (y m : ℕ) → month_length y m ≤ 31
unfolding month_length
length_le y m = grind (arith, common_steps)

by_31 : (i : ℕ) → month_start i ≤ 51544 + 31 * i
unfolding month_start
by_31 zero = lit≤ tt
by_31 (suc i) = omega (arith, by_31 i, length_le (2000 + i / 12) (i % 12 + 1))

-- every month of the hundred years begins by day 90,000
pub start_le : (i : ℕ) → i < 1200 → month_start i ≤ 90000
start_le i h = omega (arith, by_31 i)

-- what is known of a date that is real
pub record Real (y m d : ℕ) : Type 0 where
  pub years : (2000 ≤ y) × (y ≤ 2099)
  pub months : (1 ≤ m) × (m ≤ 12)
  pub days : (1 ≤ d) × (d ≤ 31)

pub real_is : {r : Bool} (y m d : ℕ) → r ≡ real y m d → r ≡ true → Real y m d
unfolding real
real_is y m d e h =
    let t : real y m d ≡ true = sym e ∙ h in
    let l : month_length y m ≤ 31 = length_le y m in
    record { years = grind (arith, common_steps); months = grind (arith, common_steps); days = grind (arith, common_steps) }
