-- Laws for `offer`: what it means that a file is placed.
-- Assumes nothing.
use mathlib.Core.Path.{◌≡◌, refl, ◌∙◌}
use mathlib.Core.Bool.{Bool, true}
use mathlib.Core.List.{List, [], ◌∷◌}
use Prim.Native.Nat.{ℕ, ◌+◌, ◌*◌, ◌≤◌}
use native.Mathlib.Nat.{mul_comm, le_trans}
use native.Mathlib.Omega.{arith}
use borrow.Author.Tests.{eqb-true}
use lib.ListN.{length, drop, length-drop}
use Rattle.rules.specs.Rules.{fine, judge}
use Rattle.rules.proofs.Judge.{exactly, each_is}
use Rattle.header.specs.Places.{length_of}
use Rattle.accept.specs.Answers.{facts_of}
use Rattle.accept.specs.Checks.{checks}
use Rattle.accept.proofs.Known.{known}
use Rattle.slate.specs.declared.Slate.{Slate}
use Rattle.slate.specs.Cut.{height_of}
use Rattle.slate.specs.Parts.{shot_parts, cut_parts, parts}
use Rattle.slate.specs.Slates.{slated, good_slate, size_of, start_of, frame_size, matching}
use Rattle.slate.proofs.Cuts.{good, strip_room}
use Rattle.slate.proofs.Parts.{same_exactly}
use Rattle.header.specs.Values.{block1_of}
use Rattle.frame.specs.Counts.{counts, counts_of}
use Rattle.frame.specs.Frames.{ready, placing, offering, offered}

-- ---- an accepted file that matches

pub record Matching (s : Slate) (f : List ℕ) : Type 0 where
  pub some : 1 ≤ (facts_of f).number
  pub most : (facts_of f).number ≤ s.total
  -- its counts are its segment's
  pub bytes : length (drop (length_of f) f) ≡ size_of s (facts_of f).number * 2

pub matches : (s : Slate) (f : List ℕ) → judge fine (checks f) ≡ fine → matching s (facts_of f) ≡ true → Matching s f
unfolding shot_parts cut_parts
matches s f a m =
    let k = known f a in
    let n = (facts_of f).number in
    let cut = ((same_exactly (parts s (facts_of f))).0 m).1.1.1.1.1 in
    record {
      some = k.some;
      most = rw cut.1.0 k.most;
      bytes = length-drop (length_of f) f ∙ k.counts ∙ rw (← cut.0, ← cut.1.1.0) (twice s.columns (height_of s n));
    }
  where
    twice : (c h : ℕ) → 2 * c * h ≡ h * c * 2
    twice c h = omega (arith, mul_comm c h)

-- ---- a file that is placed

pub record Placed (s : Slate) (size : ℕ) (f : List ℕ) : Type 0 where
  pub slate : good_slate s ≡ true
  pub fits : size ≡ frame_size s
  pub file : judge fine (checks f) ≡ fine
  pub match : matching s (facts_of f) ≡ true

pub places : (s : Slate) (marks : List Bool) (size : ℕ) (f : List ℕ) → offered s marks size f ≡ fine → Placed s size f
unfolding offering ready slated placing
places s marks size f e =
    let h = each_is (ready s marks size ∷ checks f ∷ placing s marks f ∷ []) ((exactly (offering s marks size f)).0 e) in
    record {
      slate = h.0.0;
      fits = eqb-true size (frame_size s) h.0.1.1.0;
      file = (exactly (checks f)).1 h.1.0;
      match = h.1.1.0.0;
    }

-- nothing is wrong with an offer, so the file is one of the slate's segments
pub fits : (s : Slate) (marks : List Bool) (size : ℕ) (f : List ℕ) → offered s marks size f ≡ fine → start_of s (facts_of f).number + size_of s (facts_of f).number ≤ size
fits s marks size f e =
    let w = places s marks size f e in
    let m = matches s f w.file w.match in
    rw w.fits (strip_room s (facts_of f).number m.some m.most)

pub fills : (s : Slate) (marks : List Bool) (size : ℕ) (f : List ℕ) → offered s marks size f ≡ fine → length (drop (length_of f) f) ≡ size_of s (facts_of f).number * 2
fills s marks size f e = let w = places s marks size f e in (matches s f w.file w.match).bytes

pub numbered : (s : Slate) (marks : List Bool) (size : ℕ) (f : List ℕ) → offered s marks size f ≡ fine → (1 ≤ (facts_of f).number) × ((facts_of f).number ≤ 99)
numbered s marks size f e =
    let w = places s marks size f e in
    let m = matches s f w.file w.match in
    (m.some, le_trans m.most (good s w.slate).most)

pub counts_are : (f : List ℕ) → counts_of f ≡ counts (facts_of f).order (drop (length_of f) f)
unfolding counts_of facts_of block1_of
counts_are f = refl

pub ruleset placed = (fits, fills, numbered, counts_are)
