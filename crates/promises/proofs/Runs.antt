-- A run of C's calls is a run of the library's. Assumes nothing.
use Rattle.std.proofs.Common.{◌≡◌, refl, sym, ap, ◌∙◌, Bool, true, false, List, [], ◌∷◌, map, ℕ, ◌≤◌, ◌<◌, arith, length, get_or, drop, length-set, replicate, ext_get_or, eqb, le-leb, eq-eqb, eqb-true}
use Rattle.std.proofs.Math.Bool.{and-eq-true_iff}
use Rattle.std.proofs.Math.ListN.{length-replicate}
use mathlib.Core.List.{Memᴰ, Permᴰ}
use Rattle.wire.specs.Wire.{tab}
use Rattle.wire.proofs.Rows.{length_tab, get_or_tab}
use Rattle.rules.specs.Rules.{Ruling, Turned, turned, number_of, tables, fine, refused, paper, after}
use Rattle.rules.proofs.Judge.{exactly, each_is, holds}
use Rattle.rules.proofs.Paper.{named, refusal_of, verdict_of}
use Rattle.slate.specs.declared.Slate.{Slate}
use Rattle.slate.specs.Cut.{cover_of}
use Rattle.slate.specs.Slates.{good_slate, slated, frame_lines, frame_size}
use Rattle.frame.specs.Counts.{counts_of}
use Rattle.frame.specs.declared.Record.{Record}
use Rattle.frame.specs.Records.{one_of, no_marks, marked, mark}
use Rattle.frame.proofs.Marking.{pass_all}
use Rattle.frame.specs.Frames as frames
use Rattle.frame.specs.Lines.{line_of}
use Rattle.assembly.specs.History.{File, bears, came, Apart, Agree, alone, line_in, within_of}
use Rattle.assembly.specs.Runs as library
use Rattle.assembly.proofs.Demand.{apart_perm}
use Rattle.assembly.proofs.Runs as runs
use Rattle.plugin_frames.specs.declared.HsdSlate.{HsdSlate}
use Rattle.plugin.specs.declared.HsdAnswer.{HsdAnswer}
use Rattle.plugin.specs.Plugin.{shown_ruling}
use Rattle.plugin_frames.specs.Strips.{long_marks, is_bit, bits_from, good_marks, lent, marks_in, marks_out, opened_c, offered_c, open_marks, open_strip, offer_marks, line_c, copied_of, copy_of}
use Rattle.plugin_frames.proofs.Lending.{length_flags, flags_at, lent_good, offer_strip_lem}
use Rattle.plugin_frames.proofs.hsd_open.Reads as hsd_open
use Rattle.promises.specs.Blocks.{allowed}
use Rattle.promises.specs.Slated.{slate_from}
use Rattle.promises.specs.Runs.{Offer, files_of, answers_of, RanC, opened, offered, AskedC, asked}
use Rattle.promises.proofs.Refusals.{refused_in, of_number, none_fine}
use Rattle.promises.proofs.Demand1.{in_opening, in_offering, in_lent}

-- ---- marks out and in again

one_back : (b : Bool) → eqb (one_of b) 1 ≡ b
one_back true = refl
one_back false = refl

pub marks_back : (marks : List Bool) → length marks ≡ 99 → marks_in (marks_out marks) ≡ marks
marks_back marks h =
    ext_get_or false (marks_in (marks_out marks)) marks (length_flags (marks_out marks) 99 ∙ sym h)
    (λ i l. let k : i < 99 = rw (length_flags (marks_out marks) 99) at l in
    flags_at (marks_out marks) 99 i k ∙ ap (λ (x : ℕ). eqb x 1) (get_or_tab (λ k. one_of (get_or marks k false)) 99 i k) ∙ one_back (get_or marks i false))

one_most : (b : Bool) → one_of b ≤ 1
one_most true = omega arith
one_most false = omega arith

good_out : (marks : List Bool) → good_marks (marks_out marks) ≡ true
unfolding good_marks bits_from
good_out marks = (and-eq-true_iff _ _).1 (eq-eqb _ 99 (length_tab (λ k. one_of (get_or marks k false)) 99), pass_all is_bit 0 (marks_out marks) 0 99 (λ i a b. rw (get_or_tab (λ k. one_of (get_or marks k false)) 99 i b) (le-leb _ 1 (one_most (get_or marks i false)))))

-- ---- a ruling of the paper's table is some verdict's

number_back : (n b p : ℕ) → allowed (turned n b p) ≡ true → number_of (named n) ≡ n
unfolding named
number_back n b p e = eqb-true _ _ (of_number (λ k. eqb (number_of (named k)) k) refl n b p e)

paper_back : (r : Ruling) → ((u : Turned) → r ≡ refused u → allowed u ≡ true) → paper (verdict_of r) ≡ r
unfolding verdict_of refusal_of
paper_back fine h = refl
paper_back (refused (turned n b p)) h = rw (number_back n b p (h (turned n b p) refl))

-- what is shown as no refusal is none
pub shown_fine : (r : Ruling) → ((u : Turned) → r ≡ refused u → allowed u ≡ true) → (shown_ruling r).refusal ≡ 0 → r ≡ fine
unfolding shown_ruling
shown_fine fine h e = refl
shown_fine (refused (turned n b p)) h e = absurd (none_fine n b p (h (turned n b p) refl) e)

-- ---- opening

no_marks_lem : marks_out no_marks ≡ replicate 99 0
unfolding tab
no_marks_lem = refl

pub opens : (κ : _) (a : _) (r : _) (t : _) → hsd_open.Post κ a r t → length a.1.0.now ≡ 99 → good_slate (slate_from a.0) ≡ true → length a.1.1.0.now ≡ frame_size (slate_from a.0)
    → (r.refusal ≡ 0) × (t.1.0.now ≡ replicate 99 0) × (t.1.1.0.now ≡ replicate (length a.1.1.0.now) 65534)
unfolding frames.opening frames.open_frame slated shown_ruling open_marks open_strip after
opens κ a r t p long ok fits =
    let size = length a.1.1.0.now in
    let rows = frames.opening (slate_from a.0) size in
    let free : frames.opened (slate_from a.0) size ≡ fine = (exactly rows).1 (holds ok (holds (eq-eqb _ _ fits) tt)) in
    let good : opened_c a.0 a.1.0.now size ≡ fine = lent_good (long_marks a.1.0.now) rows (eq-eqb _ _ long) ∙ free in
    (ap (λ (h : HsdAnswer). h.refusal) (p.0 ∙ ap shown_ruling good), p.1.0 ∙ rw good no_marks_lem, p.1.1 ∙ rw (good, free))

-- ---- the lifting

-- of a run of C's calls: a run of the library's, with the same files and frame, whose record is the marks and whose verdicts are the answers
pub record Lifted (s : HsdSlate) (lent : List ℕ) (cs : List Offer) (marks frame : List ℕ) : Type 0 where
  pub calls : List library.Call
  pub newest : Record
  pub ran : library.Ran (slate_from s) lent calls newest frame
  pub files : library.files calls ≡ files_of cs
  pub answers : map shown_ruling (library.rulings calls) ≡ answers_of cs
  pub is : marks ≡ marks_out newest.marks
  pub long : length newest.marks ≡ 99
  -- opening was not refused, so that slate and strip were good
  pub good : good_slate (slate_from s) ≡ true
  pub fits : length lent ≡ frame_size (slate_from s)

kept : (r : Ruling) (marks new : List Bool) → after r (marks_out marks) (marks_out (after r marks new)) ≡ marks_out (after r marks new)
unfolding after
kept fine marks new = refl
kept (refused u) marks new = refl

long_after : (r : Ruling) (marks : List Bool) (k : ℕ) → length (after r marks (mark marks k)) ≡ length marks
unfolding after
long_after fine marks k = simp length-set
long_after (refused u) marks k = refl

pub lifted : {s : HsdSlate} {lent : List ℕ} {cs : List Offer} {marks frame : List ℕ} → RanC s lent cs marks frame → Lifted s lent cs marks frame
unfolding open_marks open_strip offer_marks frames.opening slated frames.record_after verdict_of after
lifted (opened κ a r t p es el z) =
    let strip = a.1.1.0.now in
    let m = a.1.0.now in
    let slate = slate_from a.0 in
    let rows = frames.opening slate (length strip) in
    let in_rows = refused_in (tables (lent (long_marks m) ∷ rows ∷ [])) (in_lent (long_marks m) rows (in_opening slate (length strip))) in
    let good : opened_c a.0 m (length strip) ≡ fine = shown_fine _ in_rows (rw p.0 at z) in
    let each = each_is (lent (long_marks m) ∷ rows ∷ []) ((exactly (tables (lent (long_marks m) ∷ rows ∷ []))).0 good) in
    record {
      calls = [];
      newest = record { marks = no_marks };
      ran = library.opened κ.1 (slate, (a.1.1.0, tt)) (record { verdict = verdict_of fine; rec = record { marks = no_marks } }) (slate, (t.1.1.0, tt))
          (sym ((exactly rows).1 each.1.0), (refl, p.1.1 ∙ rw good)) (ap slate_from es) el;
      files = refl;
      answers = refl;
      is = p.1.0 ∙ rw good;
      long = length-replicate 99 false;
      good = rw es at each.1.0.0;
      fits = sym (ap length el) ∙ eqb-true (length strip) (frame_size slate) each.1.0.1.0 ∙ ap (λ (s : HsdSlate). frame_size (slate_from s)) es;
    }
lifted (offered run κ a r t p es em ef) =
    let l = lifted run in
    let marks = l.newest.marks in
    let m = a.1.0.now in
    let strip = a.1.1.0.now in
    let f = a.1.1.1.0.now in
    let slate = slate_from a.0 in
    let ruling = frames.offered slate marks (length strip) f in
    let out : m ≡ marks_out marks = em ∙ l.is in
    let back : marks_in m ≡ marks = ap marks_in out ∙ marks_back marks l.long in
    let good : good_marks m ≡ true = rw out (good_out marks) in
    let same : offered_c a.0 m (length strip) f ≡ ruling =
    lent_good (good_marks m) (frames.offering slate (marks_in m) (length strip) f) good ∙ ap (λ (k : List Bool). frames.offered slate k (length strip) f) back in
    let said : paper (verdict_of ruling) ≡ ruling = paper_back ruling (refused_in (frames.offering slate marks (length strip) f) (in_offering slate marks (length strip) f)) in
    let after_it = frames.record_after slate marks (length strip) f in
    record {
      calls = record { file = f; verdict = verdict_of ruling } ∷ l.calls;
      newest = record { marks = after_it };
      ran = library.offered l.ran κ.1 (slate, (l.newest, (a.1.1.0, (a.1.1.1.0, tt)))) (record { verdict = verdict_of ruling; rec = record { marks = after_it } })
          (slate, (l.newest, (t.1.1.0, (t.1.1.1.0, tt))))
          (said, (refl, p.1.1 ∙ sym (offer_strip_lem a.0 m good strip f) ∙ ap (λ (k : List Bool). frames.frame_after slate k strip f) back)) (ap slate_from es) refl ef;
      files = ap (λ (fs : List File). f ∷ fs) l.files;
      answers = λ i. (ap shown_ruling (said ∙ sym same) ∙ sym p.0) i ∷ l.answers i;
      is = p.1.0 ∙ (λ i. after (same i) (out i) (marks_out (frames.record_after slate (back i) (length strip) f))) ∙ kept ruling marks _;
      long = long_after ruling marks _ ∙ l.long;
      good = l.good;
      fits = l.fits;
    }

-- ---- what is said of the library's runs, said of C's

all_alone : (s : Slate) (cs : List library.Call) → ((c : library.Call) → Memᴰ c cs → paper c.verdict ≡ alone s c.file) → library.rulings cs ≡ map (alone s) (library.files cs)
all_alone s [] h = refl
all_alone s (c ∷ cs) h = λ i. h c (Memᴰ.head refl) i ∷ all_alone s cs (λ d m. h d (Memᴰ.tail m)) i

each : (g : File → HsdAnswer) {c : Offer} {cs : List Offer} → answers_of cs ≡ map g (files_of cs) → Memᴰ c cs → c.answer ≡ g c.file
each g e (Memᴰ.head q) = rw q (ap (λ (l : List HsdAnswer). get_or l 0 (shown_ruling fine)) e)
each g e (Memᴰ.tail m) = each g (ap (drop 1) e) m

map_map : (g : Ruling → HsdAnswer) (h : File → Ruling) (fs : List File) → map g (map h fs) ≡ map (λ f. g (h f)) fs
map_map g h [] = refl
map_map g h (f ∷ fs) = rw (map_map g h fs)

module _ {s : HsdSlate} {lent : List ℕ} {cs : List Offer} {marks frame : List ℕ} (run : RanC s lent cs marks frame) where
  abbrev l : Lifted s lent cs marks frame
  l = lifted run

  pub answer_c : Apart (slate_from s) (files_of cs) → (c : Offer) → Memᴰ c cs → c.answer ≡ shown_ruling (alone (slate_from s) c.file)
  answer_c a c m =
      let h = all_alone (slate_from s) l.calls (runs.by_itself (slate_from s) l.good lent l.fits l.ran (rw l.files a)) in
      each (λ f. shown_ruling (alone (slate_from s) f))
      (sym l.answers ∙ ap (map shown_ruling) h ∙ ap (λ (fs : List File). map shown_ruling (map (alone (slate_from s)) fs)) l.files ∙ map_map shown_ruling (alone (slate_from s)) (files_of cs)) m

  pub numbers_c : (k : ℕ) → marked (marks_in marks) k ≡ came (slate_from s) k (files_of cs)
  numbers_c k =
      ap (λ (m : List ℕ). marked (marks_in m) k) l.is ∙ ap (λ (m : List Bool). marked m k) (marks_back l.newest.marks l.long)
      ∙ runs.record_is (slate_from s) l.good lent l.fits l.ran k ∙ ap (came (slate_from s) k) l.files

  module _ (line : ℕ) (some : 1 ≤ line) (most : line ≤ frame_lines (slate_from s)) where
    pub line_came_c : Agree (slate_from s) (files_of cs) → (f : File) → Memᴰ f (files_of cs) → bears (slate_from s) (cover_of (slate_from s) line) f ≡ true
        → line_in (slate_from s) frame line ≡ line_in (slate_from s) (counts_of f) (within_of (slate_from s) line)
    line_came_c a f m e = runs.line_came (slate_from s) l.good lent l.fits l.ran (rw l.files a) line some most f (rw l.files m) e

    pub line_missing_c : came (slate_from s) (cover_of (slate_from s) line) (files_of cs) ≡ false → line_in (slate_from s) frame line ≡ replicate s.columns 65534
    line_missing_c e = runs.line_missing (slate_from s) l.good lent l.fits l.ran line some most (rw l.files e)

  module _ {other : List ℕ} {ds : List Offer} {marks' frame' : List ℕ} (run' : RanC s other ds marks' frame') (order : Permᴰ (files_of cs) (files_of ds)) where
    abbrev l' : Lifted s other ds marks' frame'
    l' = lifted run'

    perm : Permᴰ (library.files l.calls) (library.files l'.calls)
    perm = rw (l.files, l'.files) order

    pub same_marks_c : marks ≡ marks'
    same_marks_c =
        l.is ∙ ap (λ (r : Record). marks_out r.marks) (runs.same_record (slate_from s) l.good lent l.fits l.ran other l'.fits l'.ran perm) ∙ sym l'.is

    pub same_frame_c : Agree (slate_from s) (files_of cs) → frame ≡ frame'
    same_frame_c a = runs.same_frame (slate_from s) l.good lent l.fits l.ran other l'.fits l'.ran perm (rw l.files a)

-- a line that C asks for is the part that the library gives for it, copied to the output where there is room
pub record Copied (s : Slate) (newest : Record) (frame leader : List ℕ) (line : ℕ) (out : List ℕ) (n : ℕ) (out' : List ℕ) : Type 0 where
  pub part : List ℕ
  pub came : library.Asked s newest frame leader line part
  pub count : n ≡ copied_of part out
  pub copy : out' ≡ copy_of part out

pub copied : {s : HsdSlate} {lent : List ℕ} {cs : List Offer} {marks frame leader out out' : List ℕ} {line n : ℕ} (run : Lifted s lent cs marks frame)
    → AskedC s marks frame leader line out n out' → Copied (slate_from s) run.newest frame leader line out n out'
unfolding line_c
copied {out = out} run (asked κ a r t p es em ef el ei eo) =
    let marks = run.newest.marks in
    let m = a.1.0.now in
    let strip = a.1.1.0.now in
    let leader = a.1.1.1.0.now in
    let line = a.1.1.1.1.0 in
    let part = line_of (slate_from a.0) marks strip leader line in
    let e : m ≡ marks_out marks = em ∙ run.is in
    let good : good_marks m ≡ true = rw e (good_out marks) in
    let back : marks_in m ≡ marks = ap marks_in e ∙ marks_back marks run.long in
    let same : line_c a.0 m strip leader line ≡ part = rw good (ap (λ (k : List Bool). line_of (slate_from a.0) k strip leader line) back) in
    record {
      part = part;
      came = library.asked (κ.0, tt) (slate_from a.0, (run.newest, (a.1.1.0, (a.1.1.1.0, (record { 0 = line }, tt))))) (record { ref_ptr = a.1.1.0.ref_ptr; now = part })
          (slate_from a.0, (run.newest, (a.1.1.0, (a.1.1.1.0, (record { 0 = line }, tt))))) refl (ap slate_from es) refl ef el ei;
      count = p.0 ∙ (λ i. copied_of (same i) (eo i));
      copy = p.1 ∙ (λ i. copy_of (same i) (eo i));
    }

-- and each file is answered the same
pub same_answers_c : {s : HsdSlate} {lent other : List ℕ} {cs ds : List Offer} {marks marks' frame frame' : List ℕ} → RanC s lent cs marks frame → RanC s other ds marks' frame'
    → Permᴰ (files_of cs) (files_of ds) → Apart (slate_from s) (files_of cs) → (c d : Offer) → Memᴰ c cs → Memᴰ d ds → c.file ≡ d.file → c.answer ≡ d.answer
same_answers_c {s} run run' order a c d m n e =
    answer_c run a c m ∙ ap (λ (f : File). shown_ruling (alone (slate_from s) f)) e ∙ sym (answer_c run' (apart_perm (slate_from s) order a) d n)
