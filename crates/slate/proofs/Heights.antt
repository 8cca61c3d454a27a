-- The heights that a slate keeps.
-- Assumes nothing.
use Rattle.std.proofs.Common.{◌≡◌, ℕ, ◌+◌, ◌-◌, ◌<◌, Bool, true, false, cond, List, ◌++◌, length, get_or, take, drop, replicate, refl, sym, min, arith, ltb}
use Rattle.std.proofs.lemmas.Grind.{common_steps}
use Rattle.std.proofs.lemmas.List.{get_or-append_right, get_or-drop, get_or-replicate, length-take}
use borrow.Author.Tests.{ltb-true, ltb-false}
use Rattle.wire.proofs.Rows.{tab_is}
use Rattle.slate.specs.Slates.{kept_of}

kept_at : (t : Bool) (total n i : ℕ) (heights : List ℕ) → length heights ≡ 99 → n ≡ min total 99 → i < 99 → ltb i total ≡ t
    → cond t (get_or heights i 0) 0 ≡ get_or (take n heights ++ drop n (replicate 99 0)) i 0
kept_at true total n i heights l e h q = let a = ltb-true i total q in grind (arith, common_steps)
kept_at false total n i heights l e h q =
    let a = ltb-false i total q in
    rw (get_or-append_right (take n heights) (drop n (replicate 99 0)) n i 0 (omega (arith, length-take n heights)) (omega arith), get_or-drop)
    (sym (get_or-replicate {A = ℕ} 99 (n + (i - n)) 0 0 (omega arith)))

-- the first n heights, of which there are as many as segments and at most 99, and 0 beyond
pub kept_is : (total n : ℕ) (heights : List ℕ) → length heights ≡ 99 → n ≡ min total 99 → take n heights ++ drop n (replicate 99 0) ≡ kept_of total heights
kept_is total n heights l e = sym (tab_is _ 99 _ (grind (arith, common_steps)) (λ i h. kept_at (ltb i total) total n i heights l e h refl))
