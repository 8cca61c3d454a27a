-- Demand 3 of the functions' own answers: whatever calls were made, record, frame and verdicts are those of the history.
-- Assumes nothing.
use mathlib.Core.Path.{◌≡◌, refl, sym, ap, ◌∙◌}
use mathlib.Core.Bool.{true, false, cond}
use mathlib.Core.List.{List, [], map, Memᴰ, Permᴰ}
use Prim.Native.Nat.{ℕ, ◌≤◌}
use lib.ListN.{length, get_or, take, drop, replicate}
use lib.Dec.{leb}
use borrow.Author.Tests.{le-leb}
use Rattle.rules.specs.Rules.{Ruling, Turned, fine, refused, paper, after}
use Rattle.rules.proofs.Paper.{paper_one}
use Rattle.slate.specs.declared.Slate.{Slate}
use Rattle.slate.specs.Cut.{cover_of}
use Rattle.slate.specs.Slates.{good_slate, frame_lines, frame_size}
use Rattle.frame.specs.declared.Record.{Record}
use Rattle.frame.specs.Counts.{counts_of}
use Rattle.frame.specs.Records.{marked}
use Rattle.frame.specs.Frames.{unwritten, record_after, frame_after}
use Rattle.frame.proofs.offer.Reads as offering
use Rattle.assembly.specs.History.{File, held_after, answers, alreadies, placed, bears, came, Apart, Agree, alone, segment, line_in, within_of}
use Rattle.assembly.specs.Runs.{Call, files, rulings, Ran, opened, offered, Asked, asked}
use Rattle.assembly.proofs.Demand as demand
use Rattle.assembly.proofs.Copies as copies

record Held (s : Slate) (lent : List ℕ) (cs : List Call) (newest : Record) (frame : List ℕ) : Type 0 where
  marks : newest.marks ≡ (held_after s lent (files cs)).marks
  holds : frame ≡ (held_after s lent (files cs)).frame
  rulings : rulings cs ≡ answers s lent (files cs)

held : {s : Slate} {lent : List ℕ} {cs : List Call} {newest : Record} {frame : List ℕ} → Ran s lent cs newest frame → Held s lent cs newest frame
held (opened κ a r t p es el) = record { marks = p.1.0; holds = p.1.1 ∙ rw (es, el); rulings = refl }
held (offered run κ a r t p es er ef) =
    let h = held run in
    record {
      marks = p.1.0 ∙ rw (es, er, ef, h.marks, h.holds);
      holds = p.1.1 ∙ rw (es, er, ef, h.marks, h.holds);
      rulings = rw (p.0, es, er, ef, h.marks, h.holds, h.rulings);
    }

-- ---- a verdict of a run

each : (s : Slate) {c : Call} {cs : List Call} → rulings cs ≡ map (alone s) (files cs) → Memᴰ c cs → paper c.verdict ≡ alone s c.file
each s e (Memᴰ.head q) = rw q (ap (λ (l : List Ruling). get_or l 0 fine) e)
each s e (Memᴰ.tail m) = each s (ap (drop 1) e) m

-- what a refused offer leaves
pub leaves : (κ : _) (a : _) (r : _) (t : _) (u : Turned) → offering.Post κ a r t → paper r.verdict ≡ refused u
    → (r.rec.marks ≡ a.1.0.marks) × (t.1.1.0.now ≡ a.1.1.0.now)
unfolding record_after frame_after after
leaves κ a r t u p e = let w = sym p.0 ∙ e in (p.1.0 ∙ rw w, p.1.1 ∙ rw w)

-- ---- for a good slate and a strip of its size

module _ (s : Slate) (ok : good_slate s ≡ true) (lent : List ℕ) (fits : length lent ≡ frame_size s)
    {cs : List Call} {newest : Record} {frame : List ℕ} (run : Ran s lent cs newest frame) where
  -- each verdict is that of the file alone
  pub by_itself : Apart s (files cs) → (c : Call) → Memᴰ c cs → paper c.verdict ≡ alone s c.file
  by_itself a c m = each s ((held run).rulings ∙ demand.same_answers s ok lent fits (files cs) a) m

  pub record_is : (k : ℕ) → marked newest.marks k ≡ came s k (files cs)
  record_is k = rw (held run).marks (demand.in_record s ok lent fits (files cs) k)

  pub record_placed : (k : ℕ) → marked newest.marks k ≡ placed k (files cs) (rulings cs)
  record_placed k = record_is k ∙ sym (demand.placed_came s ok lent fits (files cs) k) ∙ ap (placed k (files cs)) (sym (held run).rulings)

  pub line_came : Agree s (files cs) → (line : ℕ) → 1 ≤ line → line ≤ frame_lines s → (f : File) → Memᴰ f (files cs) → bears s (cover_of s line) f ≡ true
      → line_in s frame line ≡ line_in s (counts_of f) (within_of s line)
  line_came a line b c f m e = rw (held run).holds (demand.line_came s ok lent fits (files cs) line f b c a m e)

  pub line_missing : (line : ℕ) → 1 ≤ line → line ≤ frame_lines s → came s (cover_of s line) (files cs) ≡ false → line_in s frame line ≡ replicate s.columns unwritten
  line_missing line b c e = rw (held run).holds (demand.line_missing s ok lent fits (files cs) line b c e)

  asks : {leader part : List ℕ} {line : ℕ} → Asked s newest frame leader line part → 1 ≤ line → line ≤ frame_lines s
      → part ≡ cond (came s (cover_of s line) (files cs)) (line_in s (segment s (files cs) (cover_of s line)) (within_of s line)) (cond (leb s.columns (length leader)) (take s.columns leader) [])
  asks {leader} {line = line} (asked κ a r t p es er ef el en) b c =
      p ∙ rw (es, er, ef, el, en, (held run).marks, (held run).holds) (demand.line_asked s ok lent fits (files cs) leader line b c)

  pub asks_came : Agree s (files cs) → {leader part : List ℕ} (line : ℕ) → Asked s newest frame leader line part → 1 ≤ line → line ≤ frame_lines s
      → (f : File) → Memᴰ f (files cs) → bears s (cover_of s line) f ≡ true → part ≡ line_in s (counts_of f) (within_of s line)
  asks_came ag line q b c f m e =
      asks q b c ∙ rw (demand.member_came s (cover_of s line) m e, demand.brought s (cover_of s line) f (files cs) ag m e)

  pub asks_missing : {leader part : List ℕ} (line : ℕ) → Asked s newest frame leader line part → 1 ≤ line → line ≤ frame_lines s
      → came s (cover_of s line) (files cs) ≡ false → s.columns ≤ length leader → part ≡ take s.columns leader
  asks_missing {leader} line q b c e l = asks q b c ∙ rw (e, le-leb s.columns (length leader) l)

  -- another run over the same files in any order, over any strip
  module _ (other : List ℕ) (fits' : length other ≡ frame_size s) {ds : List Call} {newest' : Record} {frame' : List ℕ} (run' : Ran s other ds newest' frame')
      (p : Permᴰ (files cs) (files ds)) where
    pub same_record : newest ≡ newest'
    same_record =
        let e = (held run).marks ∙ demand.same_record s ok lent fits other fits' p ∙ sym (held run').marks in
        λ i. record { marks = e i }

    pub same_frame : Agree s (files cs) → frame ≡ frame'
    same_frame a = (held run).holds ∙ demand.same_frame s ok lent fits other fits' p a ∙ sym (held run').holds

    pub same_total : alreadies (rulings cs) ≡ alreadies (rulings ds)
    same_total = rw ((held run).rulings, (held run').rulings) (copies.same_total s ok lent other fits fits' p)

-- and each file is answered the same
pub same_verdict : (s : Slate) → good_slate s ≡ true → (lent other : List ℕ) → length lent ≡ frame_size s → length other ≡ frame_size s
    → {cs ds : List Call} {newest newest' : Record} {frame frame' : List ℕ} → Ran s lent cs newest frame → Ran s other ds newest' frame'
    → Permᴰ (files cs) (files ds) → Apart s (files cs) → (c d : Call) → Memᴰ c cs → Memᴰ d ds → c.file ≡ d.file → c.verdict ≡ d.verdict
same_verdict s ok lent other fits fits' run run' p a c d m n e =
    paper_one c.verdict d.verdict
    (by_itself s ok lent fits run a c m ∙ ap (alone s) e ∙ sym (by_itself s ok other fits' run' (demand.apart_perm s p a) d n))
