-- Demand 1: a refusal carries a number of the paper's table with a block that the table has for it (with block 0 the offset 0; Offsets says the others), and every lent
-- byte, count, mark and number stays as it was. Each theorem is of a function's own answers: `Post` is its contract as the source has it.
-- That every input has one answer is the contracts' having no `requires`, and OneAnswer.
-- Assumes nothing.
use Rattle.std.proofs.Common.{◌≡◌, refl, sym, ap, ◌∙◌, Bool, true, false, cond, List, [], ◌∷◌, ℕ, ◌+◌, ◌*◌, ◌≤◌, arith, length, get_or, pos}
use Rattle.rules.specs.Rules.{Turned, turned, Row, Ruling, after, fine, says, refused, refuses, judge, tables, unplaced, paper, paper_reply}
use Rattle.calendar.specs.Dates.{real, day_at, paper_day, day_of}
use Rattle.calendar.specs.Shots.{shot, slot_of, shots, film_frame_of}
use Rattle.format.specs.Texts.{pair}
use Rattle.format.specs.Names.{digits8, date_of}
use Rattle.header.specs.Places.{a_of, b_of, c_of}
use Rattle.header.specs.Values.{header_of}
use Rattle.accept.specs.Checks.{shape, entries, shape1, fields1, fixed2, fields2, fixed5, fields5, fields7, sums, names, ends, blocks1to4, blocks5to7, blocks8to11, whole, checks}
use Rattle.accept.specs.Answers.{facts_of, answer_of}
use Rattle.slate.specs.Slates.{slated, blank, asking, reason_of}
use Rattle.frame.specs.Frames.{opening, open_frame, ready, placing, offering, record_after, frame_after}
use Rattle.frame.specs.Lines.{shown}
use Rattle.frame.proofs.Asking.{line_length, line_some}
use Rattle.frame.proofs.line_of.Reads as line_of
use Rattle.writer.specs.Given.{orders, lengths8, lengths9, lengths10, room, given}
use Rattle.reader.specs.Reads.{rooms2, rooms3, filled}
use Rattle.reel.specs.Reels.{filed, opened}
use Rattle.reel.specs.Reels as reels
use Rattle.reel.specs.Writing.{writing, written}
use Rattle.plugin.specs.declared.HsdAnswer.{HsdAnswer}
use Rattle.plugin.specs.Plugin.{shown_ruling}
use Rattle.plugin_frames.specs.Strips.{slate_in, long_marks, good_marks, lent, marks_in, opened_c, offered_c, open_marks, open_strip, offer_marks, offer_strip, line_c}
use Rattle.night.specs.Runs as nights
use Rattle.night.proofs.add.Reads as add
use Rattle.plugin_night.specs.Night.{run_in}
use Rattle.plugin_night.proofs.hsd_night_add.Reads as hsd_night_add
use Rattle.calendar.proofs.day_of.Reads as day_of_reads
use Rattle.calendar.proofs.slot.Reads as slot
use Rattle.calendar.proofs.frame_number.Reads as frame_number
use Rattle.format.proofs.date_of.Reads as date_of_reads
use Rattle.accept.proofs.check_file.Reads as check_file
use Rattle.accept.proofs.check_fields1.Reads as check_fields1
use Rattle.accept.proofs.check_fields2.Reads as check_fields2
use Rattle.accept.proofs.check_fields5.Reads as check_fields5
use Rattle.accept.proofs.check_fields7.Reads as check_fields7
use Rattle.accept.proofs.check_name.Reads as check_name
use Rattle.slate.proofs.Slate.check.Reads as check_slate
use Rattle.accept.proofs.verdict.Reads as verdict
use Rattle.accept.proofs.accept.Reads as accept
use Rattle.slate.proofs.Slate.new.Reads as new
use Rattle.slate.proofs.Slate.why.Reads as why
use Rattle.frame.proofs.open.Reads as opens
use Rattle.frame.proofs.offer.Reads as offer
use Rattle.writer.proofs.write.Reads as write
use Rattle.reader.proofs.read.Reads as read
use Rattle.reader.proofs.read_shifts.Reads as read_shifts
use Rattle.reader.proofs.read_times.Reads as read_times
use Rattle.reader.proofs.read_errors.Reads as read_errors
use Rattle.plugin.proofs.hsd_accept.Reads as hsd_accept
use Rattle.plugin.proofs.hsd_frame_number.Reads as hsd_frame_number
use Rattle.reel.proofs.check_reel.Reads as check_reel
use Rattle.reel.proofs.open.Reads as open_reel
use Rattle.reel.proofs.write.Reads as write_reel
use Rattle.reel.proofs.seal.Reads as seal
use Rattle.plugin_reels.proofs.hsd_reel_open.Reads as hsd_reel_open
use Rattle.plugin_reels.proofs.hsd_reel_write.Reads as hsd_reel_write
use Rattle.plugin_reels.proofs.hsd_reel_seal.Reads as hsd_reel_seal
use Rattle.plugin_frames.proofs.hsd_open.Reads as hsd_open
use Rattle.plugin_frames.proofs.hsd_offer.Reads as hsd_offer
use Rattle.plugin_frames.proofs.hsd_line.Reads as hsd_line
use Rattle.plugin_frames.proofs.hsd_why.Reads as hsd_why
use Rattle.promises.specs.Bare.{Bare}
use Rattle.promises.specs.Blocks.{allowed, allowed_c, in_table, Onward}
use Rattle.promises.proofs.Refusals.{refused_in, refuses_in, left, in_append, onward, shown_allowed, shown_left, none_left, reply_allowed, file_shows, number_shows, reel_shows, why_shows, bare, no_number, no_files, no_part}

-- ---- every table is the paper's

pub in_checks : (s : List ℕ) → in_table (checks s) ≡ true
unfolding in_table allowed shape entries shape1 fields1 fixed2 fields2 fixed5 fields5 fields7 sums names ends blocks1to4 blocks5to7 blocks8to11 whole checks
in_checks s = refl

pub in_opening : (s : _) (size : ℕ) → in_table (opening s size) ≡ true
unfolding in_table allowed opening slated
in_opening s size = refl

pub in_offering : (s : _) (marks : _) (size : ℕ) (f : List ℕ) → in_table (offering s marks size f) ≡ true
unfolding in_table allowed ready slated placing offering
in_offering s marks size f = in_append (checks f) _ (in_checks f) refl

in_given : (v : _) (e : _) (n : ℕ) → in_table (given v e n) ≡ true
unfolding in_table allowed unplaced orders fields1 fields2 fields5 fields7 lengths8 lengths9 lengths10 names room given
in_given v e n = refl

in_rooms : (s : List ℕ) (rs : List Row) → in_table rs ≡ true → in_table (tables (checks s ∷ rs ∷ [])) ≡ true
unfolding in_table
in_rooms s rs h = in_append (checks s) _ (in_checks s) (in_append rs [] h refl)

in_filed : (fs : List (List ℕ)) → in_table (filed fs) ≡ true
unfolding filed in_table
in_filed [] = refl
in_filed (f ∷ fs) = in_append (checks f) (filed fs) (in_checks f) (in_filed fs)

pub in_reel : (s : List ℕ) → in_table (reels.opening s) ≡ true
unfolding reels.opening in_table allowed
in_reel s = in_append (filed _) [] (in_filed _) refl

pub in_writing : (s ls : List ℕ) (need room : ℕ) → in_table (writing s ls need room) ≡ true
unfolding writing in_table allowed
in_writing s ls need room = in_append (filed _) _ (in_filed _) refl

-- ---- files

pub of_verdict : (κ : _) (a : _) (r : _) (t : _) → verdict.Post κ a r t → (u : Turned) → paper r ≡ refused u → allowed u ≡ true
of_verdict κ a r t p u e = refused_in (checks a.0.now) (in_checks a.0.now) u (sym p ∙ e)

pub of_accept : (κ : _) (a : _) (r : _) (t : _) → accept.Post κ a r t → (u : Turned) → paper_reply r ≡ refuses u → allowed u ≡ true
unfolding answer_of
of_accept κ a r t p u e = refuses_in (checks a.0.now) (in_checks a.0.now) (facts_of a.0.now) u (sym p ∙ e)

-- checks on top of what was checked before, whose ruling is v
pub of_check_file : (κ : _) (a : _) (r : _) (t : _) → check_file.Post κ a r t → (v : Ruling) → Onward v (after v v (paper r))
of_check_file κ a r t p = onward (checks a.0.now) (in_checks a.0.now) p

pub of_check_fields1 : (κ : _) (a : _) (r : _) (t : _) → check_fields1.Post κ a r t → (v : Ruling) → Onward v (after v v (paper r))
unfolding fields1 in_table allowed
of_check_fields1 κ a r t p = onward (fields1 a.0) refl p

pub of_check_fields2 : (κ : _) (a : _) (r : _) (t : _) → check_fields2.Post κ a r t → (v : Ruling) → Onward v (after v v (paper r))
unfolding fields2 in_table allowed
of_check_fields2 κ a r t p = onward (fields2 a.0) refl p

pub of_check_fields5 : (κ : _) (a : _) (r : _) (t : _) → check_fields5.Post κ a r t → (v : Ruling) → Onward v (after v v (paper r))
unfolding fields5 in_table allowed
of_check_fields5 κ a r t p = onward (fields5 a.0) refl p

pub of_check_fields7 : (κ : _) (a : _) (r : _) (t : _) → check_fields7.Post κ a r t → (v : Ruling) → Onward v (after v v (paper r))
unfolding fields7 in_table allowed
of_check_fields7 κ a r t p = onward (fields7 a.0 a.1.0) refl p

pub of_check_name : (κ : _) (a : _) (r : _) (t : _) → check_name.Post κ a r t → (v : Ruling) → Onward v (after v v (paper r))
unfolding names in_table allowed
of_check_name κ a r t p = onward (names a.0 a.1.0 a.1.1.0) refl p

pub of_check_slate : (κ : _) (a : _) (r : _) (t : _) → check_slate.Post κ a r t → (v : Ruling) → Onward v (after v v (paper r))
unfolding slated in_table allowed
of_check_slate κ a r t p = onward (slated a.0) refl p

-- ---- values

-- a date that is not real is NAME, block 1, of no file
pub no_day : (κ : _) (a : _) (r : _) (t : _) → day_of_reads.Post κ a r t → (u : Turned) → paper_day r ≡ refuses u → u ≡ turned 10 1 0
unfolding day_of
no_day κ a r t p u e = told (real a.0 a.1.0 a.1.1.0) (day_at a.0 a.1.0 a.1.1.0) (sym p ∙ e)
  where
    told : (b : Bool) (n : ℕ) → cond b (says n) (refuses (turned 10 1 0)) ≡ refuses u → u ≡ turned 10 1 0
    told true n e = absurd (let z : ◌≡◌ {A = ℕ} 0 1 = cc in omega arith)
    told false n e = cc

pub of_day : (κ : _) (a : _) (r : _) (t : _) → day_of_reads.Post κ a r t → (u : Turned) → paper_day r ≡ refuses u → allowed u ≡ true
unfolding allowed
of_day κ a r t p u e = rw (no_day κ a r t p u e)

pub no_date : (κ : _) (a : _) (r : _) (t : _) → date_of_reads.Post κ a r t → (u : Turned) → paper_day r ≡ refuses u → u ≡ turned 10 1 0
unfolding date_of day_of
no_date κ a r t p u e =
    let two : ℕ → ℕ = λ at. pair (get_or a.0 at 0) (get_or a.0 (at + 1) 0) in
    let year = two 7 * 100 + two 9 in
    told (digits8 a.0) (real year (two 11) (two 13)) (day_at year (two 11) (two 13)) (sym p ∙ e)
  where
    told : (b c : Bool) (n : ℕ) → cond b (cond c (says n) (refuses (turned 10 1 0))) (refuses (turned 10 1 0)) ≡ refuses u → u ≡ turned 10 1 0
    told true true n e = absurd (let z : ◌≡◌ {A = ℕ} 0 1 = cc in omega arith)
    told true false n e = cc
    told false c n e = cc

pub of_date : (κ : _) (a : _) (r : _) (t : _) → date_of_reads.Post κ a r t → (u : Turned) → paper_day r ≡ refuses u → allowed u ≡ true
unfolding allowed
of_date κ a r t p u e = rw (no_date κ a r t p u e)

pub of_slot : (κ : _) (a : _) (r : _) (t : _) → slot.Post κ a r t → (u : Turned) → paper_reply r ≡ refuses u → allowed u ≡ true
unfolding slot_of shot in_table allowed
of_slot κ a r t p u e = refuses_in (shot a.0 a.1.0) refl _ u (sym p ∙ e)

pub of_frame_number : (κ : _) (a : _) (r : _) (t : _) → frame_number.Post κ a r t → (u : Turned) → paper_reply r ≡ refuses u → allowed u ≡ true
unfolding film_frame_of shots in_table allowed
of_frame_number κ a r t p u e = refuses_in (shots a.0 a.1.0 a.1.1.0 a.1.1.1.0) refl _ u (sym p ∙ e)

-- and refused parts make no slate
pub of_slate : (κ : _) (a : _) (r : _) (t : _) → new.Post κ a r t → (u : Turned) → paper r.verdict ≡ refused u → (allowed u ≡ true) × (r.slate ≡ blank)
unfolding slated in_table allowed
of_slate κ a r t p u e = let q = sym p.says ∙ e in (refused_in (slated _) refl u q, p.is ∙ left _ u _ _ q)

pub in_asking : (s : _) (f : List ℕ) → in_table (asking s f) ≡ true
unfolding asking slated in_table allowed
in_asking s f = in_append (checks f) _ (in_checks f) refl

pub of_why : (κ : _) (a : _) (r : _) (t : _) → why.Post κ a r t → (u : Turned) → paper_reply r ≡ refuses u → allowed u ≡ true
unfolding reason_of
of_why κ a r t p u e = refuses_in (asking a.0 a.1.0.now) (in_asking _ _) _ u (sym p ∙ e)

-- ---- frames: the lent frame and the record

pub of_open : (κ : _) (a : _) (r : _) (t : _) → opens.Post κ a r t → (u : Turned) → paper r.verdict ≡ refused u
    → (allowed u ≡ true) × (t.1.0.now ≡ a.1.0.now)
unfolding open_frame
of_open κ a r t p u e =
    let q = sym p.0 ∙ e in
    (refused_in (opening a.0 (length a.1.0.now)) (in_opening _ _) u q, p.1.1 ∙ left _ u _ _ q)

pub of_offer : (κ : _) (a : _) (r : _) (t : _) → offer.Post κ a r t → (u : Turned) → paper r.verdict ≡ refused u
    → (allowed u ≡ true) × ((r.rec.marks ≡ a.1.0.marks) × (t.1.1.0.now ≡ a.1.1.0.now))
unfolding record_after frame_after
of_offer κ a r t p u e =
    let q = sym p.0 ∙ e in
    (refused_in (offering a.0 a.1.0.marks (length a.1.1.0.now) a.1.1.1.0.now) (in_offering _ _ _ _) u q, (p.1.0 ∙ left _ u _ _ q, p.1.1 ∙ left _ u _ _ q))

-- a line's refusal is an empty part: one that can be shown has all its columns, which are never none, and any other is empty
module _ (κ : _) (a : _) (r : _) (t : _) (p : line_of.Post κ a r t) where
  abbrev seen : Bool
  seen = shown a.0 a.1.0.marks a.1.1.0.now a.1.1.1.0.now a.1.1.1.1.0.0

  pub of_line : length r.now ≡ cond seen a.0.columns 0
  of_line = rw p (line_length a.0 a.1.0.marks a.1.1.0.now a.1.1.1.0.now a.1.1.1.1.0.0)

  pub never_empty : seen ≡ true → 1 ≤ length r.now
  never_empty e = rw p (line_some a.0 a.1.0.marks a.1.1.0.now a.1.1.1.0.now a.1.1.1.1.0.0 e)

-- ---- reels

pub of_check_reel : (κ : _) (a : _) (r : _) (t : _) → check_reel.Post κ a r t → (v : Ruling) → Onward v (after v v (paper r))
of_check_reel κ a r t p = onward (reels.opening a.0.now) (in_reel a.0.now) p

pub of_open_reel : (κ : _) (a : _) (r : _) (t : _) → open_reel.Post κ a r t → (u : Turned) → paper_reply r ≡ refuses u → allowed u ≡ true
unfolding opened
of_open_reel κ a r t p u e = refuses_in (reels.opening a.0.now) (in_reel a.0.now) _ u (sym p ∙ e)

pub of_write_reel : (κ : _) (a : _) (r : _) (t : _) → write_reel.Post κ a r t → (u : Turned) → paper r ≡ refused u
    → (allowed u ≡ true) × (t.1.1.0.now ≡ a.1.1.0.now)
unfolding written
of_write_reel κ a r t p u e =
    let q = sym p.0 ∙ e in
    (refused_in (writing _ _ _ _) (in_writing _ _ _ _) u q, p.1 ∙ left _ u _ _ q)

pub of_seal : (κ : _) (a : _) (r : _) (t : _) → seal.Post κ a r t → (u : Turned) → paper r ≡ refused u
    → (allowed u ≡ true) × (t.1.1.0.now ≡ a.1.1.0.now)
unfolding written
of_seal κ a r t p u e =
    let q = sym p.0 ∙ e in
    (refused_in (writing _ _ _ _) (in_writing _ _ _ _) u q, p.1 ∙ left _ u _ _ q)

pub of_hsd_reel_open : (κ : _) (a : _) (r : _) (t : _) → hsd_reel_open.Post κ a r t → (allowed_c r.refusal r.block r.offset ≡ true) × ((r.refusal ≡ 0 → ⊥) → r.files ≡ 0)
unfolding opened
of_hsd_reel_open κ a r t p =
    let s = a.0.now in
    rw p (reply_allowed reel_shows (reels.opening s) (in_reel s) _ _ refl, no_files (judge fine (reels.opening s)) _)

pub of_hsd_reel_write : (κ : _) (a : _) (r : _) (t : _) → hsd_reel_write.Post κ a r t
    → (allowed_c r.refusal r.block r.offset ≡ true) × ((r.refusal ≡ 0 → ⊥) → t.1.1.0.now ≡ a.1.1.0.now)
unfolding written
of_hsd_reel_write κ a r t p = (
  rw p.0 (shown_allowed (writing _ _ _ _) (in_writing _ _ _ _) _ refl),
  λ h. p.1 ∙ shown_left _ _ _ (λ z. h (ap (λ (x : HsdAnswer). x.refusal) p.0 ∙ z)),
)

pub of_hsd_reel_seal : (κ : _) (a : _) (r : _) (t : _) → hsd_reel_seal.Post κ a r t
    → (allowed_c r.refusal r.block r.offset ≡ true) × ((r.refusal ≡ 0 → ⊥) → t.1.1.0.now ≡ a.1.1.0.now)
unfolding written
of_hsd_reel_seal κ a r t p = (
  rw p.0 (shown_allowed (writing _ _ _ _) (in_writing _ _ _ _) _ refl),
  λ h. p.1 ∙ shown_left _ _ _ (λ z. h (ap (λ (x : HsdAnswer). x.refusal) p.0 ∙ z)),
)

-- ---- the writer's output, and the slices that the reader fills

pub of_write : (κ : _) (a : _) (r : _) (t : _) → write.Post κ a r t → (u : Turned) → paper r ≡ refused u
    → (allowed u ≡ true) × (t.0.now ≡ a.0.now)
of_write κ a r t p u e =
    let q = sym p.says ∙ e in
    (refused_in (given _ _ _) (in_given _ _ _) u q, p.leaves ∙ left _ u _ _ q)

-- the values of a refused file are those of no bytes
pub of_read : (κ : _) (a : _) (r : _) (t : _) → read.Post κ a r t → (u : Turned) → paper r.verdict ≡ refused u
    → (allowed u ≡ true) × (r.header ≡ header_of [])
of_read κ a r t p u e =
    let q = sym p.says ∙ e in
    (refused_in (checks a.0.now) (in_checks a.0.now) u q, p.is ∙ left _ u _ _ q)

pub of_shifts : (κ : _) (a : _) (r : _) (t : _) → read_shifts.Post κ a r t → (u : Turned) → paper r ≡ refused u
    → (allowed u ≡ true) × ((t.1.0.now ≡ a.1.0.now) × ((t.1.1.0.now ≡ a.1.1.0.now) × (t.1.1.1.0.now ≡ a.1.1.1.0.now)))
unfolding filled rooms3 in_table allowed
of_shifts κ a r t p u e =
    let q = sym p.says ∙ e in
    let s = a.0.now in
    let rooms = (rooms3 (a_of a.0.now) (length a.1.0.now) (length a.1.1.0.now) (length a.1.1.1.0.now)) in
    (refused_in (tables (checks s ∷ rooms ∷ [])) (in_rooms s rooms refl) u q, (p.lines ∙ left _ u _ _ q, (p.column_shifts ∙ left _ u _ _ q, p.line_shifts ∙ left _ u _ _ q)))

pub of_times : (κ : _) (a : _) (r : _) (t : _) → read_times.Post κ a r t → (u : Turned) → paper r ≡ refused u
    → (allowed u ≡ true) × ((t.1.0.now ≡ a.1.0.now) × (t.1.1.0.now ≡ a.1.1.0.now))
unfolding filled rooms2 in_table allowed
of_times κ a r t p u e =
    let q = sym p.says ∙ e in
    let s = a.0.now in
    let rooms = (rooms2 (b_of a.0.now) (length a.1.0.now) (length a.1.1.0.now)) in
    (refused_in (tables (checks s ∷ rooms ∷ [])) (in_rooms s rooms refl) u q, (p.lines ∙ left _ u _ _ q, p.times ∙ left _ u _ _ q))

pub of_errors : (κ : _) (a : _) (r : _) (t : _) → read_errors.Post κ a r t → (u : Turned) → paper r ≡ refused u
    → (allowed u ≡ true) × ((t.1.0.now ≡ a.1.0.now) × (t.1.1.0.now ≡ a.1.1.0.now))
unfolding filled rooms2 in_table allowed
of_errors κ a r t p u e =
    let q = sym p.says ∙ e in
    let s = a.0.now in
    let rooms = (rooms2 (c_of a.0.now) (length a.1.0.now) (length a.1.1.0.now)) in
    (refused_in (tables (checks s ∷ rooms ∷ [])) (in_rooms s rooms refl) u q, (p.lines ∙ left _ u _ _ q, p.pixels ∙ left _ u _ _ q))

-- ---- from C: marks, frame and output

pub in_lent : (ok : Bool) (rs : List Row) → in_table rs ≡ true → in_table (tables (lent ok ∷ rs ∷ [])) ≡ true
unfolding lent in_table allowed
in_lent ok rs h = in_append rs [] h refl

pub of_hsd_accept : (κ : _) (a : _) (r : _) (t : _) → hsd_accept.Post κ a r t → (allowed_c r.refusal r.block r.offset ≡ true) × ((r.refusal ≡ 0 → ⊥) → Bare r)
unfolding answer_of
of_hsd_accept κ a r t p =
    rw p (reply_allowed file_shows (checks a.0.now) (in_checks a.0.now) _ (facts_of a.0.now) refl, bare (judge fine (checks a.0.now)) (facts_of a.0.now))

pub of_hsd_frame_number : (κ : _) (a : _) (r : _) (t : _) → hsd_frame_number.Post κ a r t → (allowed_c r.refusal r.block r.offset ≡ true) × ((r.refusal ≡ 0 → ⊥) → r.number ≡ pos 0)
unfolding film_frame_of shots in_table allowed
of_hsd_frame_number κ a r t p =
    let rows = shots a.0 a.1.0 a.1.1.0 a.1.1.1.0 in
    rw p (reply_allowed number_shows rows refl _ _ refl, no_number (judge fine rows) _)

pub of_hsd_open : (κ : _) (a : _) (r : _) (t : _) → hsd_open.Post κ a r t
    → (allowed_c r.refusal r.block r.offset ≡ true) × ((r.refusal ≡ 0 → ⊥) → (t.1.0.now ≡ a.1.0.now) × (t.1.1.0.now ≡ a.1.1.0.now))
unfolding open_marks open_strip
of_hsd_open κ a r t p =
    let m = a.1.0.now in
    let size = length a.1.1.0.now in
    let v = opened_c a.0 m size in (
      rw p.0 (shown_allowed (tables (lent (long_marks m) ∷ opening (slate_in a.0) size ∷ [])) (in_lent (long_marks m) _ (in_opening _ _)) v refl),
      λ h. let n : (shown_ruling v).refusal ≡ 0 → ⊥ = λ z. h (rw p.0 z) in (p.1.0 ∙ shown_left v _ _ n, p.1.1 ∙ shown_left v _ _ n),
    )

pub of_hsd_offer : (κ : _) (a : _) (r : _) (t : _) → hsd_offer.Post κ a r t
    → (allowed_c r.refusal r.block r.offset ≡ true) × ((r.refusal ≡ 0 → ⊥) → (t.1.0.now ≡ a.1.0.now) × (t.1.1.0.now ≡ a.1.1.0.now))
unfolding offer_marks offer_strip
of_hsd_offer κ a r t p =
    let m = a.1.0.now in
    let size = length a.1.1.0.now in
    let f = a.1.1.1.0.now in
    let v = offered_c a.0 m size f in (
      rw p.0 (shown_allowed (tables (lent (good_marks m) ∷ offering (slate_in a.0) (marks_in m) size f ∷ [])) (in_lent (good_marks m) _ (in_offering _ _ _ _)) v refl),
      λ h. let n : (shown_ruling v).refusal ≡ 0 → ⊥ = λ z. h (rw p.0 z) in (p.1.0 ∙ shown_left v _ _ n, p.1.1 ∙ shown_left v _ _ n),
    )

-- a line that is refused, the one refusal without a number, is no count
pub of_hsd_line : (κ : _) (a : _) (r : _) (t : _) → hsd_line.Post κ a r t → r ≡ 0 → t.1.1.1.1.1.0.now ≡ a.1.1.1.1.1.0.now
of_hsd_line κ a r t p e = p.1 ∙ none_left (line_c a.0 a.1.0.now a.1.1.0.now a.1.1.1.0.now a.1.1.1.1.0) a.1.1.1.1.1.0.now (sym p.0 ∙ e)

-- a refusal tells no part and no values
pub of_hsd_why : (κ : _) (a : _) (r : _) (t : _) → hsd_why.Post κ a r t
    → (allowed_c r.refusal r.block r.offset ≡ true) × ((r.refusal ≡ 0 → ⊥) → (r.part ≡ 0) × (r.slate ≡ 0) × (r.file ≡ 0))
unfolding reason_of
of_hsd_why κ a r t p =
    let rows = asking (slate_in a.0) a.1.0.now in
    rw p (reply_allowed why_shows rows (in_asking _ _) _ _ refl, no_part (judge fine rows) _)

-- ---- night totals: what is lent is the file alone, and the run goes by value (Night: `Adds` says what a refusal leaves of it)

in_night : (run : _) (f : List ℕ) → in_table (nights.adding run f) ≡ true
unfolding nights.adding nights.opening in_table allowed
in_night run f = in_append (checks f) [] (in_checks f) refl

pub of_add : (κ : _) (a : _) (r : _) (t : _) → add.Post κ a r t → (u : Turned) → paper r.verdict ≡ refused u → allowed u ≡ true
of_add κ a r t p u e = refused_in (nights.adding a.0 a.1.0.now) (in_night a.0 a.1.0.now) u (sym p.0 ∙ e)

pub of_hsd_night_add : (κ : _) (a : _) (r : _) (t : _) → hsd_night_add.Post κ a r t → allowed_c r.refusal r.block r.offset ≡ true
of_hsd_night_add κ a r t p = rw p (shown_allowed (nights.adding (run_in a.0) a.1.0.now) (in_night (run_in a.0) a.1.0.now) _ refl)
