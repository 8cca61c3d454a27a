-- A word, part by part.
use Rattle.std.proofs.Common.{◌≡◌, refl, List, [], ◌∷◌, ℕ, ◌+◌, ◌-◌, ◌≤◌, ◌<◌, length, get_or, take, drop, length-drop, cond, not, arith, Bool, true, false, eq-eqb, ne_eqb, add-one}
use Rattle.std.proofs.Math.Dec.{eqb, ltb}
use Rattle.std.proofs.Math.ListN.{drop_of_length-le}
use Rattle.std.proofs.Math.Seq.{drop-cons, take_all}
use Rattle.std.specs.Prelude.{Option, Some, None}
use Rattle.std.specs.List.{count_by, position_or_len}
use Rattle.std.proofs.lemmas.Grind.{common_steps}
use Rattle.testcard.specs.Words.{pluses_in, ahead_of, behind_of}

abbrev pub plus : ℕ → Bool
plus b = eqb b 43

pub pluses_counted : (s : List ℕ) → pluses_in s ≡ count_by plus s
unfolding pluses_in
pluses_counted [] = refl
pluses_counted (b ∷ s) = grind (arith, common_steps, pluses_counted s)

one_more : (x : Bool) (b n : ℕ) (s t : List ℕ) → t ≡ take n s → cond x [] (b ∷ t) ≡ take (cond (not x) (1 + n) 0) (b ∷ s)
one_more true b n s t e = refl
one_more false b n s t e = grind (arith, common_steps, e)

ahead_first : (s : List ℕ) → ahead_of s ≡ take (position_or_len plus s) s
unfolding ahead_of
ahead_first [] = refl
ahead_first (b ∷ s) = one_more (eqb b 43) b _ s _ (ahead_first s)

abbrev pub Position : List ℕ → Option ℕ → Type 0
Position s r = r ≡ cond (ltb (position_or_len plus s) (length s)) (Some (position_or_len plus s)) None

pub ahead_some : (s : List ℕ) (i : ℕ) → Position s (Some i) → take i s ≡ ahead_of s
ahead_some s i e = rw (ahead_first s) (grind (arith, common_steps))

pub ahead_none : (s : List ℕ) → Position s None → s ≡ ahead_of s
ahead_none s e = rw (ahead_first s) (grind (arith, common_steps))

module _ (s : List ℕ) (i : ℕ) (h : i < length s) where
  pub behind_all : (k : ℕ) → k ≡ 0 → behind_of (drop i s) k ≡ take (length s - i) (drop i s)
  unfolding behind_of
  behind_all k e = rw (take_all (length s - i) (drop i s) (rw length-drop (omega arith)), e, drop-cons s i 0)

  pub behind_one : (k : ℕ) → (k ≡ 0 → ⊥) → get_or s i 0 ≡ 43 → behind_of (drop i s) k ≡ behind_of (drop (i + 1) s) (k - 1)
  unfolding behind_of
  behind_one k n e = rw (add-one i, drop-cons s i 0, ne_eqb k 0 n, eq-eqb (get_or s i 0) 43 e)

  pub behind_same : (k : ℕ) → (k ≡ 0 → ⊥) → (get_or s i 0 ≡ 43 → ⊥) → behind_of (drop i s) k ≡ behind_of (drop (i + 1) s) k
  unfolding behind_of
  behind_same k n e = rw (add-one i, drop-cons s i 0, ne_eqb k 0 n, ne_eqb (get_or s i 0) 43 e)

module _ (s : List ℕ) (i : ℕ) (h : length s ≤ i) where
  pub behind_end : (k : ℕ) → behind_of (drop i s) k ≡ []
  unfolding behind_of
  behind_end k = rw drop_of_length-le

pub ruleset behinds = (behind_all, behind_one, behind_same, behind_end)
