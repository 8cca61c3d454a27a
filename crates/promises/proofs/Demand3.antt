-- Demand 3: a frame opened for a good slate and offered files in any order. `Ran` says that the calls were made: of `open` over a strip of
-- the slate's size, then of `offer`, each with that same slate, the newest record and the frame as the call before left it.
-- Assumes nothing.
use Rattle.std.proofs.Common.{◌≡◌, true, false, List, ℕ, ◌≤◌, length, take, replicate, ◌↔◌}
use mathlib.Core.List.{Memᴰ, Permᴰ}
use Rattle.rules.specs.Rules.{Turned, fine, refused, judge, paper}
use Rattle.accept.specs.Checks.{checks}
use Rattle.accept.specs.Answers.{facts_of}
use Rattle.slate.specs.declared.Slate.{Slate}
use Rattle.slate.specs.Cut.{cover_of}
use Rattle.slate.specs.Slates.{good_slate, frame_lines, frame_size}
use Rattle.frame.specs.declared.Record.{Record}
use Rattle.frame.specs.Counts.{counts_of}
use Rattle.frame.specs.Records.{marked}
use Rattle.frame.proofs.offer.Reads as offering
use Rattle.plugin_frames.proofs.hsd_open.Reads as hsd_open
use Rattle.assembly.specs.History.{File, alreadies, placed, bears, came, Apart, Agree, alone, line_in, within_of}
use Rattle.assembly.specs.Runs.{Call, files, rulings, Ran, Asked}
use Rattle.assembly.proofs.Demand.{apart_agree}
use Rattle.assembly.proofs.Runs as runs
use Rattle.plugin_frames.specs.declared.HsdSlate.{HsdSlate}
use Rattle.plugin.specs.Plugin.{shown_ruling}
use Rattle.plugin_frames.specs.Strips.{marks_in}
use Rattle.promises.specs.Slated.{Good, Match, slate_from}
use Rattle.promises.proofs.Slated.{good_exactly, bears_exactly}
use Rattle.promises.proofs.Slated as from_slate
use Rattle.promises.specs.Runs.{Offer, files_of, RanC, AskedC}
use Rattle.promises.proofs.Runs.{Lifted, lifted, Copied}
use Rattle.promises.proofs.Runs as from

-- a slate is good, and a file is one of its segments, exactly where document 01 says so (Slated: `Good`, `Match`)
pub good : (s : Slate) → (good_slate s ≡ true) ↔ Good s
good = good_exactly

pub bearing : (s : Slate) (k : ℕ) (f : File) → (bears s k f ≡ true) ↔ ((judge fine (checks f) ≡ fine) × Match s (facts_of f) × ((facts_of f).number ≡ k))
bearing = bears_exactly

-- whatever call places a file: the slate is good, the file accepted, and all its parts agree with the slate's
pub placing : (κ : _) (a : _) (r : _) (t : _) → offering.Post κ a r t → paper r.verdict ≡ fine
    → Good a.0 × (judge fine (checks a.1.1.1.0.now) ≡ fine) × Match a.0 (facts_of a.1.1.1.0.now)
placing = from_slate.placed

-- a refused offer leaves the record and every count of the frame
pub leaves : (κ : _) (a : _) (r : _) (t : _) (u : Turned) → offering.Post κ a r t → paper r.verdict ≡ refused u
    → (r.rec.marks ≡ a.1.0.marks) × (t.1.1.0.now ≡ a.1.1.0.now)
leaves = runs.leaves

-- what is said below of copies that agree holds where no two matching files bear one number
pub agree : (s : Slate) (fs : List File) → Apart s fs → Agree s fs
agree = apart_agree

module _ (s : Slate) (ok : good_slate s ≡ true) (lent : List ℕ) (fits : length lent ≡ frame_size s)
    {cs : List Call} {newest : Record} {frame : List ℕ} (run : Ran s lent cs newest frame) where
  -- no two matching files bear one number: then each is answered as if it were alone
  pub answer : Apart s (files cs) → (c : Call) → Memᴰ c cs → paper c.verdict ≡ alone s c.file
  answer = runs.by_itself s ok lent fits run

  -- the record equals the numbers of the placed files, and those of the matching files that were offered
  pub numbers : (k : ℕ) → marked newest.marks k ≡ placed k (files cs) (rulings cs)
  numbers = runs.record_placed s ok lent fits run

  pub coming : (k : ℕ) → marked newest.marks k ≡ came s k (files cs)
  coming = runs.record_is s ok lent fits run

  -- each line holds the counts of the one matching segment that covers it, or 65,534 throughout if that segment never came
  module _ (line : ℕ) (some : 1 ≤ line) (most : line ≤ frame_lines s) where
    pub line_came : Agree s (files cs) → (f : File) → Memᴰ f (files cs) → bears s (cover_of s line) f ≡ true → line_in s frame line ≡ line_in s (counts_of f) (within_of s line)
    line_came a = runs.line_came s ok lent fits run a line some most

    pub line_missing : came s (cover_of s line) (files cs) ≡ false → line_in s frame line ≡ replicate s.columns 65534
    line_missing = runs.line_missing s ok lent fits run line some most

    -- asked for, it is that line, or else the first columns of the leader
    pub asked_came : Agree s (files cs) → {leader part : List ℕ} → Asked s newest frame leader line part
        → (f : File) → Memᴰ f (files cs) → bears s (cover_of s line) f ≡ true → part ≡ line_in s (counts_of f) (within_of s line)
    asked_came a q = runs.asks_came s ok lent fits run a line q some most

    pub asked_missing : {leader part : List ℕ} → Asked s newest frame leader line part
        → came s (cover_of s line) (files cs) ≡ false → s.columns ≤ length leader → part ≡ take s.columns leader
    asked_missing q = runs.asks_missing s ok lent fits run line q some most

  -- the same files in any other order, over any strip of that size
  module _ (other : List ℕ) (fits' : length other ≡ frame_size s) {ds : List Call} {newest' : Record} {frame' : List ℕ}
      (run' : Ran s other ds newest' frame') (order : Permᴰ (files cs) (files ds)) where
    -- each file is answered the same, and the record and the frame are the same
    pub same_answers : Apart s (files cs) → (c d : Call) → Memᴰ c cs → Memᴰ d ds → c.file ≡ d.file → c.verdict ≡ d.verdict
    same_answers = runs.same_verdict s ok lent other fits fits' run run' order

    pub same_record : newest ≡ newest'
    same_record = runs.same_record s ok lent fits run other fits' run' order

    pub same_frame : Agree s (files cs) → frame ≡ frame'
    same_frame = runs.same_frame s ok lent fits run other fits' run' order

    -- and as many are told ALREADY, whatever copies there are
    pub same_total : alreadies (rulings cs) ≡ alreadies (rulings ds)
    same_total = runs.same_total s ok lent fits run other fits' run' order

-- ---- from C. Opening makes an empty record of any 99 marks: for a good slate and a strip of its size it is never refused.
pub opens_c : (κ : _) (a : _) (r : _) (t : _) → hsd_open.Post κ a r t → length a.1.0.now ≡ 99 → good_slate (slate_from a.0) ≡ true → length a.1.1.0.now ≡ frame_size (slate_from a.0)
    → (r.refusal ≡ 0) × (t.1.0.now ≡ replicate 99 0) × (t.1.1.0.now ≡ replicate (length a.1.1.0.now) 65534)
opens_c = from.opens

-- `RanC` says that the calls were made: of `hsd_open`, which was not refused, then of `hsd_offer`, each with that same slate and the
-- marks and the frame as the call before left them.
module _ {s : HsdSlate} {lent : List ℕ} {cs : List Offer} {marks frame : List ℕ} (run : RanC s lent cs marks frame) where
  -- it is a run as above, over the same files: the frame is the same, the marks are its record, and the answers its verdicts; the slate is good and the strip fits
  pub from_c : Lifted s lent cs marks frame
  from_c = lifted run

  -- so that what is said above holds of it: of each answer, the marks and the lines
  pub answer_from_c : Apart (slate_from s) (files_of cs) → (c : Offer) → Memᴰ c cs → c.answer ≡ shown_ruling (alone (slate_from s) c.file)
  answer_from_c = from.answer_c run

  pub coming_from_c : (k : ℕ) → marked (marks_in marks) k ≡ came (slate_from s) k (files_of cs)
  coming_from_c = from.numbers_c run

  module _ (line : ℕ) (some : 1 ≤ line) (most : line ≤ frame_lines (slate_from s)) where
    pub line_came_from_c : Agree (slate_from s) (files_of cs) → (f : File) → Memᴰ f (files_of cs) → bears (slate_from s) (cover_of (slate_from s) line) f ≡ true
        → line_in (slate_from s) frame line ≡ line_in (slate_from s) (counts_of f) (within_of (slate_from s) line)
    line_came_from_c = from.line_came_c run line some most

    pub line_missing_from_c : came (slate_from s) (cover_of (slate_from s) line) (files_of cs) ≡ false → line_in (slate_from s) frame line ≡ replicate s.columns 65534
    line_missing_from_c = from.line_missing_c run line some most

    -- and of a line that C asks for: it is the part that the library gives, copied where there is room
    pub asked_from_c : {leader out out' : List ℕ} {n : ℕ} → AskedC s marks frame leader line out n out' → Copied (slate_from s) from_c.newest frame leader line out n out'
    asked_from_c = from.copied from_c

  -- the same files in any other order, over any strip that was not refused: each is answered the same, and marks and frame are the same
  module _ {other : List ℕ} {ds : List Offer} {marks' frame' : List ℕ} (run' : RanC s other ds marks' frame') (order : Permᴰ (files_of cs) (files_of ds)) where
    pub same_answers_from_c : Apart (slate_from s) (files_of cs) → (c d : Offer) → Memᴰ c cs → Memᴰ d ds → c.file ≡ d.file → c.answer ≡ d.answer
    same_answers_from_c = from.same_answers_c run run' order

    pub same_marks_from_c : marks ≡ marks'
    same_marks_from_c = from.same_marks_c run run' order

    pub same_frame_from_c : Agree (slate_from s) (files_of cs) → frame ≡ frame'
    same_frame_from_c = from.same_frame_c run run' order
