-- Ask 7: everything about a frame's lines goes by the N heights of its slate. Assumes nothing.
use Rattle.std.proofs.Common.{◌≡◌, sym, ◌∙◌, ◌↔◌, true, ◌&&◌, ℕ, ◌*◌, ◌-◌, ◌≤◌, leb-true, le-leb, leb}
use Rattle.slate.specs.declared.Slate.{Slate}
use Rattle.slate.specs.Cut.{cover_of}
use Rattle.slate.specs.Slates.{good_slate, frame_lines, has_line, cover_or_0}
use Rattle.slate.proofs.Cuts.{covers, good}
use Rattle.slate.proofs.Slate.height_of.Reads as height_of
use Rattle.slate.proofs.Slate.lines_to.Reads as lines_to
use Rattle.slate.proofs.Slate.size_of.Reads as size_of_reads
use Rattle.slate.proofs.Slate.start_of.Reads as start_of_reads
use Rattle.slate.proofs.Slate.frame_size.Reads as frame_size
use Rattle.slate.proofs.Slate.has_line.Reads as has_line_reads
use Rattle.slate.proofs.Slate.cover_of.Reads as cover_of_reads
use Rattle.assembly.specs.History.{within_of}
use Rattle.assembly.proofs.Order.{not_so}
use Rattle.tiling.proofs.Lawful.{both, and}
use Rattle.promises.specs.Heights.{height, lines_of, Covering}
use Rattle.promises.specs.Slated.{Good, InFrame}
use Rattle.promises.proofs.Heights.{height_is, lines_are, whole_is, covers_is}
use Rattle.promises.proofs.Slated.{good_exactly}

-- ---- what the functions answer

pub height_answered : (κ : _) (a : _) (r : _) (t : _) → height_of.Post κ a r t → r ≡ height a.0 a.1.0
height_answered κ a r t p = p ∙ height_is a.0 a.1.0

pub lines_answered : (κ : _) (a : _) (r : _) (t : _) → lines_to.Post κ a r t → r ≡ lines_of a.0 a.1.0
lines_answered κ a r t p = p ∙ lines_are a.0 a.1.0

pub size : (κ : _) (a : _) (r : _) (t : _) → size_of_reads.Post κ a r t → r ≡ height a.0 a.1.0 * a.0.columns
size κ a r t p = p ∙ rw (height_is a.0 a.1.0)

-- segment k begins one line after segments 1 to k - 1 end
pub start : (κ : _) (a : _) (r : _) (t : _) → start_of_reads.Post κ a r t → r ≡ lines_of a.0 (a.1.0 - 1) * a.0.columns
start κ a r t p = p ∙ rw (lines_are a.0 (a.1.0 - 1))

pub whole : (κ : _) (a : _) (r : _) (t : _) → frame_size.Post κ a r t → r ≡ lines_of a.0 a.0.total * a.0.columns
whole κ a r t p = p ∙ whole_is a.0

-- ---- the segment that covers a line

-- of demand 3: the number, and which of the segment's lines it is
module _ (s : Slate) (g : Good s) (line : ℕ) (some : 1 ≤ line) (most : line ≤ lines_of s s.total) where
  pub covering : Covering s line (cover_of s line)
  covering = covers_is s line (cover_of s line) (covers s line (good s ((good_exactly s).1 g)).cut some (rw (lines_are s s.total) most))

  pub within : within_of s line ≡ line - lines_of s (cover_of s line - 1)
  within = rw (lines_are s (cover_of s line - 1))

-- a line is in the frame exactly where it is one of all segments' lines, and only there a segment covers it
in_frame : (s : Slate) (line : ℕ) → (has_line s line ≡ true) ↔ InFrame s line
in_frame s line = (is, of)
  where
    is : has_line s line ≡ true → InFrame s line
    is e =
        let h = both (good_slate s) (leb 1 line && leb line (frame_lines s)) e in
        let l = both (leb 1 line) (leb line (frame_lines s)) h.1 in
        ((good_exactly s).0 h.0, leb-true 1 line l.0, rw (← lines_are s s.total) (leb-true line (frame_lines s) l.1))

    of : InFrame s line → has_line s line ≡ true
    of h = and ((good_exactly s).1 h.0) (and (le-leb 1 line h.1) (le-leb line (frame_lines s) (rw (lines_are s s.total) h.2)))

pub has : (κ : _) (a : _) (r : _) (t : _) → has_line_reads.Post κ a r t → (r ≡ true) ↔ InFrame a.0 a.1.0.0
has κ a r t p = let w = in_frame a.0 a.1.0.0 in (λ e. w.0 (sym p ∙ e), λ h. p ∙ w.1 h)

module _ (κ : _) (a : _) (r : _) (t : _) (p : cover_of_reads.Post κ a r t) where
  pub cover : InFrame a.0 a.1.0.0 → Covering a.0 a.1.0.0 r
  unfolding cover_or_0
  cover h = let e : r ≡ cover_of a.0 a.1.0.0 = p ∙ rw ((in_frame a.0 a.1.0.0).1 h) in rw e (covering a.0 h.0 a.1.0.0 h.1 h.2)

  pub none : (InFrame a.0 a.1.0.0 → ⊥) → r ≡ 0
  unfolding cover_or_0
  none h = p ∙ rw (not_so (has_line a.0 a.1.0.0) (λ e. h ((in_frame a.0 a.1.0.0).0 e)))
