-- Laws for `line_of`: what it means that slate, record, frame and line are in order, and that a good line is never empty.
-- Assumes nothing.
use mathlib.Core.Path.{◌≡◌, refl}
use mathlib.Core.Bool.{Bool, true, false, cond, ◌&&◌, ◌||◌, and-eq-true_iff}
use mathlib.Core.List.{List, []}
use Prim.Native.Nat.{ℕ, ◌+◌, ◌*◌, ◌-◌, ◌≤◌}
use native.Mathlib.Nat.{add-zero}
use native.Mathlib.Omega.{arith}
use borrow.Author.Tests.{eqb-true, leb-true}
use lib.Dec.{eqb, leb}
use lib.ListN.{length, take, drop, length-drop}
use lib.Seq.{length-take-le}
use Rattle.slate.specs.declared.Slate.{Slate}
use Rattle.slate.specs.Cut.{cover_of}
use Rattle.slate.specs.Slates.{frame_size, has_line, place_of, cover_or_0}
use Rattle.slate.proofs.Cuts.{Inside, inside, line_room}
use Rattle.frame.specs.Records.{marked, none_above}
use Rattle.frame.specs.Lines.{line_good, line_of, shown}

pub record Asked (s : Slate) (size line : ℕ) : Type 0 where
  pub cover : cover_or_0 s line ≡ cover_of s line
  pub within : Inside s line
  -- the line lies within the frame
  pub room : place_of s line 1 + s.columns ≤ size

pub asked : (s : Slate) (marks : List Bool) (size line : ℕ) → line_good s marks size line ≡ true → Asked s size line
unfolding line_good cover_or_0
asked s marks size line e =
    let e2 = (and-eq-true_iff (has_line s line && none_above s.total marks) (eqb size (frame_size s))).0 e in
    let h = ((and-eq-true_iff (has_line s line) (none_above s.total marks)).0 e2.0).0 in
    let i = inside s line h in
    record {
      cover = rw h;
      within = i;
      room = rw (eqb-true size (frame_size s) e2.1, add-zero ((line - 1) * s.columns)) (line_room s line i.some i.last);
    }

-- a line that can be shown has all its columns, and any other is empty
pub line_length : (s : Slate) (marks : List Bool) (frame leader : List ℕ) (line : ℕ) → length (line_of s marks frame leader line) ≡ cond (shown s marks frame leader line) s.columns 0
unfolding line_of
line_length s marks frame leader line =
    go (line_good s marks (length frame) line) (marked marks (cover_of s line)) (leb s.columns (length leader)) refl refl
  where
    go : (g m l : Bool) → line_good s marks (length frame) line ≡ g → leb s.columns (length leader) ≡ l
        → length (cond g (cond m (take s.columns (drop (place_of s line 1) frame)) (cond l (take s.columns leader) [])) []) ≡ cond (g && (m || l)) s.columns 0
    go true true l eg el = length-take-le _ _ (rw length-drop (omega (arith, (asked s marks (length frame) line eg).room)))
    go true false true eg el = length-take-le _ _ (leb-true _ _ el)
    go true false false eg el = refl
    go false m l eg el = refl

-- and a good slate has a column
pub line_some : (s : Slate) (marks : List Bool) (frame leader : List ℕ) (line : ℕ) → shown s marks frame leader line ≡ true → 1 ≤ length (line_of s marks frame leader line)
line_some s marks frame leader line e =
    let g = ((and-eq-true_iff (line_good s marks (length frame) line) _).0 e).0 in
    rw (line_length s marks frame leader line, e) (asked s marks (length frame) line g).within.slate.columns

-- what `line_of` asks for: the segment that covers the line, and a part that lies within the frame
pub good_cover : (s : Slate) (marks : List Bool) (size line : ℕ) → line_good s marks size line ≡ true → cover_or_0 s line ≡ cover_of s line
good_cover s marks size line e = (asked s marks size line e).cover

pub good_room : (s : Slate) (marks : List Bool) (size line : ℕ) → line_good s marks size line ≡ true → place_of s line 1 + s.columns ≤ size
good_room s marks size line e = (asked s marks size line e).room

pub ruleset asking = (good_cover, good_room)
