-- Blanks at the end of a run of bytes.
-- Assumes nothing.
use Prim.Native.Nat.{ℕ, zero, suc, ◌+◌, ◌≤◌, ◌<◌}
use mathlib.Core.Path.{◌≡◌}
use mathlib.Core.Logic.{⊎_elim}
use mathlib.Core.List.{List, []}
use native.Mathlib.Nat.{eq-or-lt_of_le, le_of_suc-le-suc}
use native.Mathlib.Numerals.{add-one}
use native.Mathlib.Omega.{arith}
use lib.ListN.{length, get_or, take}
use borrow.Author.Tests.{eq-eqb, ne_eqb}
use Rattle.say.specs.Words.{used, trimmed}

-- from place i on, up to n, all are blanks
abbrev Blank : List ℕ → ℕ → ℕ → Type 0
Blank s i n = (k : ℕ) → i ≤ k → k < n → get_or s k 0 ≡ 32

used_blank : (s : List ℕ) (i n : ℕ) → i ≤ n → Blank s i n → used s n ≡ used s i
unfolding used
used_blank s i zero h b = let e : i ≡ 0 = omega arith in rw e
used_blank s i (suc n) h b =
    ⊎_elim
    (λ e. rw e)
    (λ l. rw (eq-eqb _ _ (b n (le_of_suc-le-suc l) (omega arith)), used_blank s i n (le_of_suc-le-suc l) (λ k p q. b k p (omega arith))))
    (eq-or-lt_of_le h)

-- up to the last byte that is no blank
pub trims_last : (s : List ℕ) (i n : ℕ) → i < length s → (get_or s i 0 ≡ 32 → ⊥) → Blank s (i + 1) (length s) → n ≡ i + 1 → take n s ≡ trimmed s
unfolding trimmed used
trims_last s i n h l b e = rw (e, used_blank s (i + 1) (length s) (omega arith) b, add-one, ne_eqb _ _ l)

-- and where there is none, nothing
pub trims_all : (s : List ℕ) → Blank s 0 (length s) → [] ≡ trimmed s
unfolding trimmed used
trims_all s b = rw (used_blank s 0 (length s) (omega arith) b)
