-- Laws for a run: the loops over its refusals, its limits, and what a ruling on it means.
-- Assumes nothing.
use mathlib.Core.Path.{◌≡◌, refl, sym, ap, ◌∙◌}
use mathlib.Core.Bool.{Bool, true, false, cond, not, ◌&&◌, and-true, and-false, false≢true, and-eq-true_iff}
use mathlib.Core.List.{List, [], ◌∷◌, ◌++◌}
use mathlib.Core.Logic.{⊎_elim}
use Prim.Native.Nat.{ℕ, zero, suc, ◌+◌, ◌<◌, ◌≤◌}
use native.Mathlib.Nat.{add-zero, eq-or-lt_of_le, le_of_suc-le-suc}
use native.Mathlib.Numerals.{add-one}
use native.Mathlib.Omega.{arith}
use borrow.Author.Tests.{le-leb, lt-leb, ltb-true, ltb-false, leb-false, not-true}
use Rattle.std.specs.List.{list_all}
use Rattle.std.proofs.lemmas.List.Folds.{list_all-append}
use lib.Dec.{ltb, leb}
use lib.ListN.{length, get_or, take}
use lib.Seq.{take-suc, take_all}
use Rattle.rules.specs.Rules.{turned, paper_of, fine, refused, judge, number_of}
use Rattle.rules.specs.declared.Why.{Why}
use Rattle.rules.specs.declared.Why.TheVariants.{Short, Number, Order, Length, Fixed, Packed, HeaderSum, DataSum, Name, Cut, Tail, Slate, Strip, OtherShot, Already, Room, Reel, Run, Satellite, Area, Timeline, Size, Compression, Band, Bits, Segment, Day}
use Rattle.rules.specs.declared.Refusal.{Refusal}
use Rattle.rules.proofs.Judge.{judge_refused, exactly, each_is}
use Rattle.accept.specs.Checks.{checks}
use Rattle.totals.specs.declared.Totals.{Totals}
use Rattle.totals.specs.Files.{totals_of}
use Rattle.totals.proofs.Sizes.{sized, totals_most}
use Rattle.night.specs.declared.Run as R
use Rattle.night.specs.Runs as W
use Rattle.night.specs.Runs.{sum_to, small_to, held_by, within, open_run, opening, adding, added}

-- ---- the loops

pub held_none : (r : R.Run) → r.accepted + sum_to 0 r.refused ≡ r.accepted
unfolding sum_to
held_none r = add-zero _

pub held_more : (xs : List ℕ) (k : ℕ) → sum_to (k + 1) xs ≡ sum_to k xs + get_or xs k 0
unfolding sum_to
held_more xs k = rw add-one

pub held_all : (r : R.Run) (n : ℕ) → n ≡ 64 → r.accepted + sum_to n r.refused ≡ held_by r
unfolding held_by
held_all r n e = rw e

pub ruleset holding = (held_none, held_more, held_all)

pub small_at : (xs : List ℕ) (n at : ℕ) → at < n → small_to n xs ≡ true → get_or xs at 0 ≤ 4096
unfolding small_to
small_at xs zero at h e = absurd (omega arith)
small_at xs (suc n) at h e = go (ltb 4096 (get_or xs n 0)) refl e (λ l s. small_at xs n at l s)
  where
    go : (b : Bool) → ltb 4096 (get_or xs n 0) ≡ b → cond b false (small_to n xs) ≡ true → (at < n → small_to n xs ≡ true → get_or xs at 0 ≤ 4096) → get_or xs at 0 ≤ 4096
    go true q e ih = absurd (false≢true e)
    go false q e ih = ⊎_elim (λ i. rw i (ltb-false 4096 (get_or xs n 0) q)) (λ l. ih l e) (eq-or-lt_of_le (le_of_suc-le-suc h))

below : (b : Bool) (y : ℕ) → (b && (leb y 4096 && true)) ≡ cond (ltb 4096 y) false b
below b y = go (ltb 4096 y) refl
  where
    go : (t : Bool) → ltb 4096 y ≡ t → (b && (leb y 4096 && true)) ≡ cond t false b
    go true e = rw (lt-leb y 4096 (ltb-true 4096 y e)) (and-false b)
    go false e = rw (le-leb y 4096 (ltb-false 4096 y e)) (and-true b)

small_take : (xs : List ℕ) (n : ℕ) → n ≤ length xs → list_all (λ x. leb x 4096) (take n xs) ≡ small_to n xs
unfolding small_to
small_take xs zero h = refl
small_take xs (suc n) h = rw (take-suc xs n 0 (omega arith), list_all-append, small_take xs n (omega arith)) (below (small_to n xs) (get_or xs n 0))

-- each is small
pub small_all : (xs : List ℕ) → length xs ≡ 64 → small_to 64 xs ≡ list_all (λ x. leb x 4096) xs
small_all xs h = sym (small_take xs 64 (omega arith)) ∙ ap (list_all (λ x. leb x 4096)) (take_all 64 xs (omega arith))

-- ---- a run that takes one more

pub record Open (r : R.Run) : Type 0 where
  pub held : held_by r < 4096
  pub radiance : r.totals.radiance ≤ 1982464000000
  pub error : r.totals.error ≤ 1982464000000
  pub outside : r.totals.outside ≤ 1982464000000
  pub over : r.totals.over ≤ 1982464000000
  pub uncalibrated : r.totals.uncalibrated ≤ 1982464000000
  pub refused : small_to 64 r.refused ≡ true

pub opened : (r : R.Run) → open_run r ≡ true → Open r
unfolding open_run
opened r e =
    let e6 = (and-eq-true_iff _ (small_to 64 r.refused)).0 e in
    let e5 = (and-eq-true_iff _ (within r.totals.uncalibrated)).0 e6.0 in
    let e4 = (and-eq-true_iff _ (within r.totals.over)).0 e5.0 in
    let e3 = (and-eq-true_iff _ (within r.totals.outside)).0 e4.0 in
    let e2 = (and-eq-true_iff _ (within r.totals.error)).0 e3.0 in
    let e1 = (and-eq-true_iff (not (leb 4096 (held_by r))) (within r.totals.radiance)).0 e2.0 in
    record {
      held = leb-false 4096 (held_by r) (not-true _ e1.0);
      radiance = ltb-false _ _ (not-true _ e1.1);
      error = ltb-false _ _ (not-true _ e2.1);
      outside = ltb-false _ _ (not-true _ e3.1);
      over = ltb-false _ _ (not-true _ e4.1);
      uncalibrated = ltb-false _ _ (not-true _ e5.1);
      refused = e6.1;
    }

pub few : (r : R.Run) → open_run r ≡ true → r.accepted < 4096
unfolding held_by
few r e = omega (arith, (opened r e).held)

-- a file's totals fit beside its own
pub room : (r : R.Run) (t : Totals) → open_run r ≡ true → (t.radiance ≤ 484000000) × (t.error ≤ 484000000) × (t.outside ≤ 484000000) × (t.over ≤ 484000000) × (t.uncalibrated ≤ 484000000) → W.Room r t
room r t e m =
    let o = opened r e in
    (omega (arith, m.0), omega (arith, m.1), omega (arith, m.2), omega (arith, m.3), omega (arith, m.4), few r e)

-- ---- the ruling

pub number_small : (w : Why) → number_of w < 64
number_small Short = omega arith
number_small Number = omega arith
number_small Order = omega arith
number_small Length = omega arith
number_small Fixed = omega arith
number_small Packed = omega arith
number_small HeaderSum = omega arith
number_small DataSum = omega arith
number_small Name = omega arith
number_small Cut = omega arith
number_small Tail = omega arith
number_small Slate = omega arith
number_small Strip = omega arith
number_small OtherShot = omega arith
number_small Already = omega arith
number_small Room = omega arith
number_small Reel = omega arith
number_small Run = omega arith
number_small Satellite = omega arith
number_small Area = omega arith
number_small Timeline = omega arith
number_small Size = omega arith
number_small Compression = omega arith
number_small Band = omega arith
number_small Bits = omega arith
number_small Segment = omega arith
number_small Day = omega arith

-- another refusal than RUN is given only by a run that takes one more
pub open_of : (r : R.Run) (f : List ℕ) (n b p : ℕ) → added r f ≡ refused (turned n b p) → (n ≡ 19 → ⊥) → open_run r ≡ true
unfolding adding opening
open_of r f n b p e other = go (open_run r) refl
  where
    go : (t : Bool) → open_run r ≡ t → open_run r ≡ true
    go true q = q
    go false q =
        let z : judge (refused (turned 19 0 0)) (checks f ++ []) ≡ refused (turned n b p) = (rw q at e) in
        let y : refused (turned 19 0 0) ≡ refused (turned n b p) = sym (judge_refused (turned 19 0 0) (checks f ++ [])) ∙ z in
        let x : n ≡ 19 = cc in
        absurd (other x)

-- an accepted file
pub taken : (r : R.Run) (f : List ℕ) → added r f ≡ fine → (open_run r ≡ true) × (judge fine (checks f) ≡ fine)
unfolding adding opening
taken r f e =
    let h = each_is (opening r ∷ checks f ∷ []) ((exactly (adding r f)).0 e) in
    (h.0.0, (exactly (checks f)).1 h.1.0)

-- ---- what is counted, of a refusal as the code has it and of an accepted file

pub refused_room : (r : R.Run) (f : List ℕ) (t : Refusal) → refused (paper_of t) ≡ added r f → (number_of t.why ≡ 19 → ⊥) → get_or r.refused (number_of t.why) 0 ≤ 4096
refused_room r f t e other = small_at r.refused 64 (number_of t.why) (number_small t.why) (opened r (open_of r f _ _ _ (sym e) other)).refused

pub accepted_most : (r : R.Run) (f : List ℕ) → fine ≡ added r f → (totals_of f).error ≤ 484000000
accepted_most r f e = (totals_most f (sized f (taken r f (sym e)).1)).1

pub accepted_room : (r : R.Run) (f : List ℕ) → fine ≡ added r f → W.Room r (totals_of f)
accepted_room r f e = let k = taken r f (sym e) in room r (totals_of f) k.0 (totals_most f (sized f k.1))

pub ruleset ruling = (number_small, refused_room, accepted_most, accepted_room)
