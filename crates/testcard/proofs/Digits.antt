-- A word, digit by digit.
use mathlib.Core.Path.{◌≡◌, refl}
use mathlib.Core.List.{List, [], ◌∷◌}
use Prim.Native.Nat.{ℕ, ◌+◌, ◌≤◌, ◌<◌}
use native.Mathlib.Numerals.{add-one}
use native.Mathlib.Omega.{arith}
use lib.ListN.{length, get_or, drop, drop_of_length-le}
use lib.Seq.{drop-cons}
use Rattle.testcard.specs.Words.{longer_by, number_from, number_of}

pub none : (s : List ℕ) → length s ≡ 0 → 65535 ≡ number_of s
unfolding number_of
none [] e = refl
none (b ∷ s) e = absurd (omega arith)

pub start : (s : List ℕ) → (length s ≡ 0 → ⊥) → number_from 0 s ≡ number_of s
unfolding number_of
start [] h = absurd (h refl)
start (b ∷ s) h = refl

pub turn : (s : List ℕ) (i n : ℕ) → i < length s → number_from n (drop i s) ≡ number_from (longer_by n (get_or s i 0)) (drop (i + 1) s)
unfolding number_from
turn s i n h = rw (add-one, drop-cons s i 0)

pub end : (s : List ℕ) (i n : ℕ) → length s ≤ i → number_from n (drop i s) ≡ n
unfolding number_from
end s i n h = rw drop_of_length-le

pub ruleset digits = (none, start, turn, end)
