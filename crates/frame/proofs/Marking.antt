-- Laws of the loops over a record's marks.
-- Assumes nothing.
use mathlib.Core.Path.{◌≡◌, refl, sym, ap}
use mathlib.Core.Bool.{Bool, true, false, not}
use mathlib.Core.List.{List}
use Prim.Native.Nat.{ℕ, zero, suc, ◌+◌, ◌-◌, ◌<◌, ◌≤◌}
use native.Mathlib.Omega.{arith}
use lib.ListN.{get_or, length, drop, drop_of_length-le}
use lib.Seq.{drop-cons}
use native.Mathlib.Numerals.{add-one}
use Rattle.std.specs.Prelude.{count_by}
use Rattle.std.proofs.lemmas.List.Sums.{sum_by-cons}
use Rattle.frame.specs.Records.{pass, none_above, one_of, tallied, tally_of}

-- ---- a test of the 99 elements, from place k on

module _ {A : Type 0} (test : A → Bool) (d : A) (l : List A) (k : ℕ) where
  pub pass_hit : k < 99 → test (get_or l k d) ≡ false → pass test d l k (99 - k) ≡ false
  pass_hit h e = let s : 99 - k ≡ suc (99 - (k + 1)) = omega arith in rw (s, e)

  pub pass_miss : k < 99 → test (get_or l k d) ≡ true → pass test d l k (99 - k) ≡ pass test d l (k + 1) (99 - (k + 1))
  pass_miss h e = let s : 99 - k ≡ suc (99 - (k + 1)) = omega arith in rw (s, e)

  pub pass_end : 99 ≤ k → pass test d l k (99 - k) ≡ true
  pass_end h = let s : 99 - k ≡ 0 = omega arith in rw s

-- what every element of a stretch passes, the stretch does
pub pass_all : {A : Type 0} (test : A → Bool) (d : A) (l : List A) (k n : ℕ) → ((i : ℕ) → k ≤ i → i < k + n → test (get_or l i d) ≡ true) → pass test d l k n ≡ true
pass_all test d l k zero h = refl
pass_all test d l k (suc n) h = rw (h k (omega arith) (omega arith)) (pass_all test d l (k + 1) n (λ i a b. h i (omega arith) (omega arith)))

-- no number above the total: a turn of the loop, from number k + 1 on
pub none_hit : (marks : List Bool) (k : ℕ) → k < 99 → get_or marks k false ≡ true → none_above k marks ≡ false
unfolding none_above
none_hit marks k h e = pass_hit not false marks k h (ap not e)

pub none_miss : (marks : List Bool) (k : ℕ) → k < 99 → get_or marks k false ≡ false → none_above k marks ≡ none_above (k + 1) marks
unfolding none_above
none_miss marks k h e = pass_miss not false marks k h (ap not e)

pub none_end : (marks : List Bool) (k : ℕ) → 99 ≤ k → none_above k marks ≡ true
unfolding none_above
none_end marks k h = pass_end not false marks k h

pub ruleset none_turns = (none_hit, none_miss, none_end)

-- ---- the tally is the library's count

tallied_rest : (marks : List Bool) (k n : ℕ) → k + n ≡ length marks → tallied marks k n ≡ count_by (λ m. m) (drop k marks)
tallied_rest marks k zero h = let e : length marks ≤ k = omega arith in rw (drop_of_length-le marks e)
tallied_rest marks k (suc n) h =
    let l : k < length marks = omega arith in
    rw (drop-cons marks k false, ← add-one k, tallied_rest marks (k + 1) n (omega arith)) (sym (sum_by-cons one_of (get_or marks k false) (drop (k + 1) marks)))

pub tally_is : (marks : List Bool) → length marks ≡ 99 → tally_of marks ≡ count_by (λ m. m) marks
unfolding tally_of
tally_is marks h = tallied_rest marks 0 99 (sym h)

pub ruleset tallies = (tally_is)
