-- How many counts an accepted file has, and what its totals come to.
-- Assumes nothing.
use mathlib.Core.Path.{◌≡◌, ◌∙◌}
use mathlib.Core.Bool.{Bool, and-eq-true_iff}
use mathlib.Core.List.{List}
use Prim.Native.Nat.{ℕ, ◌*◌, ◌≤◌}
use native.Mathlib.Nat.{mul-le-mul, mul_comm}
use native.Mathlib.Omega.{arith}
use borrow.Author.Tests.{leb-true}
use lib.Dec.{leb}
use lib.ListN.{length, drop, length-drop}
use Rattle.rules.specs.Rules.{fine, judge}
use Rattle.header.specs.Places.{order_of, length_of}
use Rattle.header.specs.Values.{block2_of}
use Rattle.accept.specs.Checks.{checks, fields2}
use Rattle.accept.specs.Answers.{facts_of}
use Rattle.accept.proofs.Known.{known}
use Rattle.accept.proofs.Tables.{accepted}
use Rattle.reading.specs.declared.Reading.{Reading}
use Rattle.reading.specs.Counts.{reading_of}
use Rattle.frame.specs.Counts.{counts, counts_of}
use Rattle.frame.proofs.Copying.{counts_length}
use Rattle.totals.specs.declared.Totals.{Totals}
use Rattle.totals.specs.Kinds.{is_radiance, is_error, is_outside, is_over, is_uncalibrated, count_readings}
use Rattle.totals.specs.Counting.{Totalled}
use Rattle.totals.specs.Files.{cal_of, totals_of}
use Rattle.totals.proofs.Number.{number_most}

-- ---- how many counts an accepted file has

pub record Sized (f : List ℕ) : Type 0 where
  pub number : length (counts_of f) ≡ (facts_of f).columns * (facts_of f).lines
  pub most : length (counts_of f) ≤ 484000000

pub sized : (f : List ℕ) → judge fine (checks f) ≡ fine → Sized f
unfolding facts_of fields2 block2_of counts_of
sized f e =
    let a = accepted f e in
    let c : (facts_of f).columns ≤ 22000 = leb-true _ _ ((and-eq-true_iff (leb 1 (facts_of f).columns) (leb (facts_of f).columns 22000)).0 a.fields2.1.0).1 in
    let l : (facts_of f).lines ≤ 22000 = leb-true _ _ ((and-eq-true_iff (leb 1 (facts_of f).lines) (leb (facts_of f).lines 22000)).0 a.fields2.1.1.0).1 in
    let m : (facts_of f).columns * (facts_of f).lines ≤ 484000000 = mul-le-mul c l in
    let b : length (drop (length_of f) f) ≡ (facts_of f).columns * (facts_of f).lines * 2 = length-drop (length_of f) f ∙ (known f e).counts ∙ twice (facts_of f).columns (facts_of f).lines in
    let n : length (counts (order_of f) (drop (length_of f) f)) ≡ (facts_of f).columns * (facts_of f).lines = counts_length (order_of f) (drop (length_of f) f) _ b in
    record { number = n; most = omega (arith, m, n) }
  where
    twice : (c h : ℕ) → 2 * c * h ≡ c * h * 2
    twice c h = omega (arith, mul_comm c h)

-- ---- the totals

pub totals_most : (f : List ℕ) → Sized f
    → ((totals_of f).radiance ≤ 484000000) × ((totals_of f).error ≤ 484000000) × ((totals_of f).outside ≤ 484000000) × ((totals_of f).over ≤ 484000000) × ((totals_of f).uncalibrated ≤ 484000000)
unfolding totals_of
totals_most f s = (most is_radiance, most is_error, most is_outside, most is_over, most is_uncalibrated)
  where
    most : (rule : Reading → Bool) → count_readings rule (cal_of f) (counts_of f) ≤ 484000000
    most rule = omega (arith, s.most, number_most (λ (c : ℕ). rule (reading_of (cal_of f) c)) (counts_of f))

pub totals_are : (f : List ℕ) (t : Totals) → Totalled (cal_of f) (counts_of f) t.radiance t.error t.outside t.over t.uncalibrated → t ≡ totals_of f
unfolding totals_of
totals_are f t k = λ i. record { radiance = k.radiance_count i; error = k.error_count i; outside = k.outside_count i; over = k.over_count i; uncalibrated = k.uncalibrated_count i }
