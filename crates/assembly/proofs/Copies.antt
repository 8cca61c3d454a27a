-- Copies among the files: the first that is placed stays, and the total of ALREADY answers does not depend on the order.
-- Assumes nothing.
use mathlib.Core.Path.{◌≡◌, refl, ◌∙◌}
use mathlib.Core.Logic.{⊎_elim}
use mathlib.Core.Bool.{Bool, true, false, not, cond, ◌&&◌, ◌||◌, or-false, or-true}
use mathlib.Core.List.{List, [], ◌∷◌, ◌++◌, Permᴰ}
use Prim.Native.Nat.{ℕ, zero, suc, ◌+◌, ◌≤◌, ◌<◌}
use native.Mathlib.Nat.{eq-or-lt_of_le, le_of_suc-le-suc}
use native.Mathlib.Omega.{arith}
use borrow.Author.Tests.{eq-eqb, ne_eqb}
use lib.Dec.{eqb}
use lib.ListN.{length}
use Rattle.rules.specs.Rules.{turned, checked, Ruling, fine, refused, judge}
use Rattle.accept.specs.Checks.{checks}
use Rattle.accept.specs.Answers.{facts_of}
use Rattle.slate.specs.declared.Slate.{Slate}
use Rattle.slate.specs.Slates.{good_slate, frame_size, matching}
use Rattle.slate.proofs.Cuts.{good}
use Rattle.frame.specs.Counts.{counts_of}
use Rattle.frame.proofs.Putting.{matches}
use Rattle.assembly.specs.History.{File, answers, is_fine, is_already, alreadies, bears, came, segment}
use Rattle.assembly.proofs.Order.{settle, answered, bears_is, bears_bad, bears_other, bears_old, idle_or}
use Rattle.assembly.proofs.Demand.{came_perm}

-- ---- the first placed stays

came_later : (s : Slate) (k : ℕ) (f : File) (newer older : List File) → bears s k f ≡ true → came s k (newer ++ f ∷ older) ≡ true
came_later s k f [] older b = rw b (or-true (came s k older))
came_later s k f (g ∷ newer) older b = rw (came_later s k f newer older b)

pub first_stays : (s : Slate) (k : ℕ) (f : File) (newer older : List File) → bears s k f ≡ true → came s k older ≡ false → segment s (newer ++ f ∷ older) k ≡ counts_of f
first_stays s k f [] older b c = rw (b, c)
first_stays s k f (g ∷ newer) older b c = rw (came_later s k f newer older b) (first_stays s k f newer older b c)

-- ---- how many numbers came

tally : (ℕ → Bool) → ℕ → ℕ
tally p zero = 0
tally p (suc n) = tally p n + cond (p (suc n)) 1 0

tally_ext : (p q : ℕ → Bool) (n : ℕ) → ((k : ℕ) → k ≤ n → p k ≡ q k) → tally p n ≡ tally q n
unfolding tally
tally_ext p q zero e = refl
tally_ext p q (suc n) e = rw (tally_ext p q n (λ k h. e k (omega arith)), e (suc n) (omega arith))

tally_more : (p : ℕ → Bool) (n k : ℕ) → 1 ≤ k → k ≤ n → p k ≡ false → tally (λ j. p j || eqb k j) n ≡ suc (tally p n)
unfolding tally
tally_more p zero k a b e = absurd (omega arith)
tally_more p (suc n) k a b e = ⊎_elim here (λ l. there l (tally_more p n k a (le_of_suc-le-suc l) e)) (eq-or-lt_of_le b)
  where
    here : k ≡ suc n → tally (λ j. p j || eqb k j) (suc n) ≡ suc (tally p (suc n))
    here q =
        let z : p (suc n) ≡ false = (rw q at e) in
        rw (tally_ext (λ j. p j || eqb k j) p n (λ j h. rw (ne_eqb k j (λ x. omega arith)) (or-false (p j))), eq-eqb k (suc n) q, z) (omega arith)

    there : k < suc n → tally (λ j. p j || eqb k j) n ≡ suc (tally p n) → tally (λ j. p j || eqb k j) (suc n) ≡ suc (tally p (suc n))
    there l ih = rw (ih, ne_eqb k (suc n) (λ x. omega arith), or-false (p (suc n))) (omega arith)

none_yet : (n : ℕ) → tally (λ _. false) n ≡ 0
unfolding tally
none_yet zero = refl
none_yet (suc n) = rw (none_yet n)

-- ---- the total of ALREADY answers

-- what a file adds, by itself: 1 if it matches, for it is told ALREADY or marks a number of its own
abbrev weigh : Ruling → Bool → ℕ
weigh v m = cond (is_fine v && m) 1 (cond (is_already (checked v m (turned 15 0 0))) 1 0)

abbrev weight : Slate → List File → ℕ
weight s [] = 0
weight s (f ∷ fs) = weigh (judge fine (checks f)) (matching s (facts_of f)) + weight s fs

weight_perm : (s : Slate) {fs gs : List File} → Permᴰ fs gs → weight s fs ≡ weight s gs
weight_perm s Permᴰ.nil = refl
weight_perm s (Permᴰ.cons e d) = rw (weight_perm s d, e)
weight_perm s (Permᴰ.swap e₁ e₂) = rw (e₁, e₂) (omega arith)
weight_perm s (Permᴰ.trans d₁ d₂) = weight_perm s d₁ ∙ weight_perm s d₂

module _ (s : Slate) (ok : good_slate s ≡ true) (frame : List ℕ) (fits : length frame ≡ frame_size s) where
  balance : (fs : List File) → alreadies (answers s frame fs) + tally (λ k. came s k fs) 99 ≡ weight s fs
  balance [] = let e = none_yet 99 in omega arith
  balance (f ∷ fs) = rw (answered s ok frame fits fs f) (go (judge fine (checks f)) (matching s (facts_of f)) (came s (facts_of f).number fs) refl refl refl (balance fs))
    where
      same : ((k : ℕ) → (not (came s k fs) && bears s k f) ≡ false) → tally (λ k. came s k fs || bears s k f) 99 ≡ tally (λ k. came s k fs) 99
      same i = tally_ext _ _ 99 (λ k _. idle_or (came s k fs) (bears s k f) (i k))

      go : (v : Ruling) (m o : Bool) → judge fine (checks f) ≡ v → matching s (facts_of f) ≡ m → came s (facts_of f).number fs ≡ o
          → alreadies (answers s frame fs) + tally (λ k. came s k fs) 99 ≡ weight s fs
          → cond (is_already (settle v m (not o))) 1 0 + alreadies (answers s frame fs) + tally (λ k. came s k fs || bears s k f) 99 ≡ weigh v m + weight s fs
      go fine true false eg em eo ih =
          let w = matches s f eg em in
          let a = w.some in
          let b = w.most in
          let t = (good s ok).most in
          let e : tally (λ k. came s k fs || bears s k f) 99 ≡ suc (tally (λ k. came s k fs) 99) =
          tally_ext _ _ 99 (λ k _. rw (bears_is s k f eg em)) ∙ tally_more (λ k. came s k fs) 99 (facts_of f).number a (omega arith) eo in
          omega arith
      go fine true true eg em eo ih = let e = same (bears_old s fs f eo) in omega arith
      go fine false o eg em eo ih = let e = same (bears_other s fs f em) in omega arith
      go (refused t) m o eg em eo ih = let e = same (bears_bad s fs f eg) in omega arith

-- whatever the strips held
pub same_total : (s : Slate) → good_slate s ≡ true → (frame other : List ℕ) → length frame ≡ frame_size s → length other ≡ frame_size s
    → {fs gs : List File} → Permᴰ fs gs → alreadies (answers s frame fs) ≡ alreadies (answers s other gs)
same_total s ok frame other fits fits' {fs} {gs} p =
    let a = balance s ok frame fits fs in
    let b = balance s ok other fits' gs in
    let m = weight_perm s p in
    let t = tally_ext (λ k. came s k fs) (λ k. came s k gs) 99 (λ k _. came_perm s k p) in
    omega arith
