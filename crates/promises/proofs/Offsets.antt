-- Every refusal of a file says which of its fields is the first at fault, and where that field stands: of every function that refuses, and of C's.
-- Assumes nothing.
use Rattle.night.specs.Runs as nights
use Rattle.night.proofs.add.Reads as add
use Rattle.plugin_night.specs.Night.{run_in}
use Rattle.plugin_night.proofs.hsd_night_add.Reads as hsd_night_add
use Rattle.std.proofs.Common.{◌≡◌, refl, sym, ap, ◌∙◌, Bool, true, false, ◌&&◌, List, [], ◌∷◌, ◌++◌, ◌↔◌, ℕ, ◌≤◌, arith, length, take, drop, take_at, eqb, eqb-true, le-ltb}
use Rattle.std.proofs.Math.Bool.{and-eq-true_iff}
use Rattle.wire.specs.Wire.{join}
use Rattle.rules.specs.Rules.{Turned, turned, Row, test, Ruling, fine, refused, judge, First, here, later, tables, unplaced, paper, paper_reply, refuses}
use Rattle.rules.proofs.Judge.{first_fails, turned_away}
use Rattle.calendar.specs.Shots.{shot, shots, film_frame_of}
use Rattle.header.specs.Values.{block1_of, block2_of, block5_of, block7_of}
use Rattle.accept.specs.Checks.{shape, entries, shape1, fields1, fixed2, fields2, fixed5, fields5, fields7, sums, names, ends, blocks1to4, blocks5to7, blocks8to11, whole, checks}
use Rattle.accept.specs.Answers.{facts_of, answer_of}
use Rattle.slate.specs.Slates.{slated, asking, reason_of}
use Rattle.slate.proofs.Slate.why.Reads as why
use Rattle.frame.specs.Frames.{ready, placing, offering}
use Rattle.reader.specs.Reads.{rooms2, rooms3}
use Rattle.writer.specs.Given.{given}
use Rattle.reel.specs.Reels.{File, filed, parts_of, opened}
use Rattle.reel.specs.Reels as reels
use Rattle.reel.specs.Writing.{writing, listed}
use Rattle.format.specs.Texts.{decimal}
use Rattle.listing.specs.Lines.{width, numeral, refusal_words, line_words, Listed}
use Rattle.listing.specs.Lines as listing
use Rattle.tiling.specs.Lawful.{text}
use Rattle.plugin.specs.Plugin.{shown_ruling}
use Rattle.plugin_frames.specs.Strips.{slate_in, lent, offered_c}
use Rattle.calendar.proofs.slot.Reads as slot
use Rattle.calendar.proofs.frame_number.Reads as frame_number
use Rattle.accept.proofs.verdict.Reads as verdict
use Rattle.accept.proofs.accept.Reads as accept
use Rattle.reader.proofs.read.Reads as read
use Rattle.reader.proofs.read_shifts.Reads as read_shifts
use Rattle.reader.proofs.read_times.Reads as read_times
use Rattle.reader.proofs.read_errors.Reads as read_errors
use Rattle.frame.proofs.offer.Reads as offer
use Rattle.writer.proofs.write.Reads as write
use Rattle.reel.proofs.open.Reads as open_reel
use Rattle.reel.proofs.write.Reads as write_reel
use Rattle.reel.proofs.seal.Reads as seal
use Rattle.listing.proofs.line.Reads as line
use Rattle.plugin.proofs.hsd_accept.Reads as hsd_accept
use Rattle.plugin.proofs.hsd_frame_number.Reads as hsd_frame_number
use Rattle.plugin_frames.proofs.hsd_offer.Reads as hsd_offer
use Rattle.plugin_frames.proofs.hsd_why.Reads as hsd_why
use Rattle.plugin_reels.proofs.hsd_reel_open.Reads as hsd_reel_open
use Rattle.plugin_reels.proofs.hsd_reel_write.Reads as hsd_reel_write
use Rattle.plugin_reels.proofs.hsd_reel_seal.Reads as hsd_reel_seal
use Rattle.promises.specs.Blocks.{allowed}
use Rattle.promises.specs.Fields.{fields, slot_fields, film_fields, Concerns, none, one, offset_of, refused_line}
use Rattle.promises.specs.Reels.{Laid, Handed}
use Rattle.promises.proofs.Refusals.{reply_refused, file_shows, number_shows, reel_shows, why_shows}
use Rattle.promises.proofs.First as first
use Rattle.promises.proofs.Reeled.{laid_has, handed_listed}

-- the checks are these fields' tests
fields_are : (s : List ℕ) → checks s ≡ fields s
unfolding shape entries shape1 fields1 fixed2 fields2 fixed5 fields5 fields7 sums names ends blocks1to4 blocks5to7 blocks8to11 whole checks block1_of block2_of block5_of block7_of
fields_are s = refl

-- 7 is no refusal any more
pub no_seven : (b p : ℕ) → allowed (turned 7 b p) ≡ false
unfolding allowed
no_seven b p = refl

-- ---- files

pub of_verdict : (κ : _) (a : _) (r : _) (t : _) → verdict.Post κ a r t → (u : Turned) → (paper r ≡ refused u) ↔ First (fields a.0.now) u
of_verdict κ a r t p u = rw (← fields_are a.0.now) (first.of_verdict κ a r t p u)

pub of_accept : (κ : _) (a : _) (r : _) (t : _) → accept.Post κ a r t → (u : Turned) → (paper_reply r ≡ refuses u) ↔ First (fields a.0.now) u
of_accept κ a r t p u = rw (← fields_are a.0.now) (first.of_accept κ a r t p u)

pub of_read : (κ : _) (a : _) (r : _) (t : _) → read.Post κ a r t → (u : Turned) → (paper r.verdict ≡ refused u) ↔ First (fields a.0.now) u
of_read κ a r t p u = rw (← fields_are a.0.now) (first.of_read κ a r t p u)

-- ---- among other checks

-- the first row that fails stands in the first table, or every test of that one holds
data Either (xs ys : List Row) (u : Turned) : Type 0 where
  within : First xs u → Either xs ys u
  beyond : judge fine xs ≡ fine → First ys u → Either xs ys u

split : (xs : List Row) {ys : List Row} {u : Turned} → First (xs ++ ys) u → Either xs ys u
split [] f = beyond refl f
split (test ok t ∷ xs) (here e) = within (here e)
split (test ok t ∷ xs) (later e f) = go e (split xs f)
  where
    go : {ys : List Row} {u : Turned} → ok ≡ true → Either xs ys u → Either (test ok t ∷ xs) ys u
    go e (within g) = within (later e g)
    go e (beyond h g) = beyond (rw e h) g

nothing : {u : Turned} → First [] u → ⊥
nothing {u} f = let e : fine ≡ refused u = (first_fails [] u).1 f in let z : ◌≡◌ {A = ℕ} 0 1 = cc in omega arith

-- no row of a table concerns a file
abbrev nowhere : List Row → Bool
nowhere [] = true
nowhere (test ok (turned n b p) ∷ rs) = (eqb b 0 && eqb p 0) && nowhere rs

-- block 0 at offset 0
abbrev AtNone : Turned → Type 0
AtNone (turned n b p) = (b ≡ 0) × (p ≡ 0)

shows_none : {rs : List Row} {u : Turned} → nowhere rs ≡ true → First rs u → AtNone u
shows_none h (here {u = turned n b p} {rs = rs} e) =
    let k = (and-eq-true_iff (eqb b 0) (eqb p 0)).0 ((and-eq-true_iff (eqb b 0 && eqb p 0) (nowhere rs)).0 h).0 in
    (eqb-true b 0 k.0, eqb-true p 0 k.1)
shows_none h (later {t = turned m c q} {rs = rs} e f) = shows_none ((and-eq-true_iff (eqb c 0 && eqb q 0) (nowhere rs)).0 h).1 f

zeros : {rs : List Row} {n b p : ℕ} → nowhere rs ≡ true → First rs (turned n b p) → (b ≡ 0) × (p ≡ 0)
zeros h f = shows_none h f

none_of : (fs : List File) (rs : List Row) (u : Turned) → nowhere rs ≡ true → First rs u → Concerns fs u
none_of fs rs (turned n b p) h f = let z = zeros h f in rw (z.0, z.1) none

-- a table that concerns these files, among rows that concern none
between : (fs : List File) (xs ys zs : List Row) (u : Turned) → nowhere xs ≡ true → nowhere zs ≡ true → (First ys u → Concerns fs u) → First (xs ++ (ys ++ zs)) u → Concerns fs u
between fs xs ys zs u hx hz told h = outer (split xs h)
  where
    inner : Either ys zs u → Concerns fs u
    inner (within g) = told g
    inner (beyond e g) = none_of fs zs u hz g

    outer : Either xs (ys ++ zs) u → Concerns fs u
    outer (within g) = none_of fs xs u hx g
    outer (beyond e g) = inner (split ys g)

-- a file's own checks
alone : (f : File) (u : Turned) → First (checks f) u → Concerns (f ∷ []) u
alone f u h = one [] [] f {u = u} refl tt (rw (← fields_are f) h)

pub of_shifts : (κ : _) (a : _) (r : _) (t : _) → read_shifts.Post κ a r t → (u : Turned) → paper r ≡ refused u → Concerns (a.0.now ∷ []) u
unfolding rooms3
of_shifts κ a r t p u e = between (a.0.now ∷ []) [] (checks a.0.now) _ u refl refl (alone a.0.now u) ((first.of_shifts κ a r t p u).0 e)

pub of_times : (κ : _) (a : _) (r : _) (t : _) → read_times.Post κ a r t → (u : Turned) → paper r ≡ refused u → Concerns (a.0.now ∷ []) u
unfolding rooms2
of_times κ a r t p u e = between (a.0.now ∷ []) [] (checks a.0.now) _ u refl refl (alone a.0.now u) ((first.of_times κ a r t p u).0 e)

pub of_errors : (κ : _) (a : _) (r : _) (t : _) → read_errors.Post κ a r t → (u : Turned) → paper r ≡ refused u → Concerns (a.0.now ∷ []) u
unfolding rooms2
of_errors κ a r t p u e = between (a.0.now ∷ []) [] (checks a.0.now) _ u refl refl (alone a.0.now u) ((first.of_errors κ a r t p u).0 e)

offered_for : (s : _) (marks : _) (size : ℕ) (f : File) (u : Turned) → First (offering s marks size f) u → Concerns (f ∷ []) u
unfolding offering ready slated placing
offered_for s marks size f u h = between (f ∷ []) (ready s marks size) (checks f) _ u refl refl (alone f u) h

pub of_offer : (κ : _) (a : _) (r : _) (t : _) → offer.Post κ a r t → (u : Turned) → paper r.verdict ≡ refused u → Concerns (a.1.1.1.0.now ∷ []) u
of_offer κ a r t p u e = offered_for a.0 a.1.0.marks (length a.1.1.0.now) a.1.1.1.0.now u ((first.of_offer κ a r t p u).0 e)

-- ---- reels: the parts, one after the other

next_one : (f : File) {fs : List File} {u : Turned} → judge fine (checks f) ≡ fine → Concerns fs u → Concerns (f ∷ fs) u
next_one f h none = none
next_one f h (one before after g {u = u} e k w) = one (f ∷ before) after g {u = u} (ap (λ (l : List File). f ∷ l) e) (h, k) w

any_of : (fs : List File) (u : Turned) → First (filed fs) u → Concerns fs u
unfolding filed
any_of [] u f = absurd (nothing f)
any_of (f ∷ fs) u h = go (split (checks f) h) (any_of fs u)
  where
    go : Either (checks f) (filed fs) u → (First (filed fs) u → Concerns fs u) → Concerns (f ∷ fs) u
    go (within g) r = one [] fs f {u = u} refl tt (rw (← fields_are f) g)
    go (beyond e g) r = next_one f e (r g)

opened_of : (s : List ℕ) (u : Turned) → judge fine (reels.opening s) ≡ refused u → Concerns (parts_of s) u
unfolding reels.opening
opened_of s u e = between (parts_of s) (_ ∷ []) (filed (parts_of s)) [] u refl refl (any_of (parts_of s) u) ((first_fails (reels.opening s) u).0 e)

wrote_of : (s ls : List ℕ) (need room : ℕ) (u : Turned) → judge fine (writing s ls need room) ≡ refused u → Concerns (listed s ls) u
unfolding writing
wrote_of s ls need room u e = between (listed s ls) (_ ∷ []) (filed (listed s ls)) (_ ∷ []) u refl refl (any_of (listed s ls) u) ((first_fails (writing s ls need room) u).0 e)

pub of_open_reel : (κ : _) (a : _) (r : _) (t : _) → open_reel.Post κ a r t → {ps : List File} → Laid a.0.now ps → (u : Turned) → paper_reply r ≡ refuses u → Concerns ps u
unfolding opened
of_open_reel κ a r t p l u e = rw (← (laid_has l).parts) (opened_of a.0.now u (turned_away (judge fine (reels.opening a.0.now)) _ u (sym p ∙ e)))

pub of_write_reel : (κ : _) (a : _) (r : _) (t : _) → write_reel.Post κ a r t → {fs : List File} → Handed a.0.now a.1.0.now fs → (u : Turned) → paper r ≡ refused u → Concerns fs u
of_write_reel κ a r t p h u e = rw (← handed_listed h) (wrote_of _ _ _ _ u (sym p.0 ∙ e))

pub of_seal : (κ : _) (a : _) (r : _) (t : _) → seal.Post κ a r t → {fs : List File} → Handed a.0.now a.1.0.now fs → (u : Turned) → paper r ≡ refused u → Concerns fs u
of_seal κ a r t p h u e = rw (← handed_listed h) (wrote_of _ _ _ _ u (sym p.0 ∙ e))

-- ---- why

asked_for : (s : _) (f : File) (u : Turned) → First (asking s f) u → Concerns (f ∷ []) u
unfolding asking slated
asked_for s f u h = between (f ∷ []) (slated s) (checks f) [] u refl refl (alone f u) h

pub of_why : (κ : _) (a : _) (r : _) (t : _) → why.Post κ a r t → (u : Turned) → paper_reply r ≡ refuses u → Concerns (a.1.0.now ∷ []) u
of_why κ a r t p u e = asked_for a.0 a.1.0.now u ((first.of_why κ a r t p u).0 e)

-- ---- night totals

added_for : (run : _) (f : File) (u : Turned) → First (nights.adding run f) u → Concerns (f ∷ []) u
unfolding nights.adding nights.opening
added_for run f u h = between (f ∷ []) (nights.opening run) (checks f) [] u refl refl (alone f u) h

pub of_add : (κ : _) (a : _) (r : _) (t : _) → add.Post κ a r t → (u : Turned) → paper r.verdict ≡ refused u → Concerns (a.1.0.now ∷ []) u
of_add κ a r t p u e = added_for a.0 a.1.0.now u ((first.of_add κ a r t p u).0 e)

-- ---- the listing

stored : (s before after : List ℕ) (r : ℕ) → Listed s before after r → take r after ≡ listing.listed s
stored s before after r l = rw l.is (take_at (listing.listed s) (drop (length (listing.listed s)) before) r (sym l.long))

pub of_line : (κ : _) (a : _) (r : _) (t : _) → line.Post κ a r t → length a.0.now ≤ 65536 → (u : Turned) → answer_of a.0.now ≡ refuses u → take r t.1.0.now ≡ refused_line u
unfolding listing.listed line_words refusal_words join
of_line κ a r t p short (turned n b o) e = stored _ _ _ r p ∙ rw (le-ltb 65536 (length a.0.now) short, e) refl

none_there : answer_of [] ≡ refuses (turned 1 1 0)
unfolding answer_of
none_there = let f : judge fine (checks []) ≡ refused (turned 1 1 0) = (first_fails (checks []) (turned 1 1 0)).1 (rw (fields_are []) (here refl)) in rw f

pub no_bytes : (κ : _) (a : _) (r : _) (t : _) → line.Post κ a r t → a.0.now ≡ [] → take r t.1.0.now ≡ text "NO 1 1 0" ++ (10 ∷ [])
unfolding numeral width decimal join
no_bytes κ a r t p e = of_line κ a r t p (rw e (omega arith)) (turned 1 1 0) (ap answer_of e ∙ none_there)

-- ---- values that come from no file

first_unplaced : (rs : List Row) {u : Turned} → First (unplaced rs) u → offset_of u ≡ 0
unfolding unplaced
first_unplaced [] f = absurd (nothing f)
first_unplaced (test ok (turned n b p) ∷ rs) (here e) = refl
first_unplaced (test ok (turned n b p) ∷ rs) (later e f) = first_unplaced rs f

pub of_slot : (κ : _) (a : _) (r : _) (t : _) → slot.Post κ a r t → (u : Turned) → (paper_reply r ≡ refuses u) ↔ First (slot_fields a.0 a.1.0) u
unfolding shot
of_slot = first.of_slot

pub of_frame_number : (κ : _) (a : _) (r : _) (t : _) → frame_number.Post κ a r t → (u : Turned)
    → (paper_reply r ≡ refuses u) ↔ First (film_fields a.0 a.1.0 a.1.1.0 a.1.1.1.0) u
unfolding shots
of_frame_number = first.of_frame_number

pub of_write : (κ : _) (a : _) (r : _) (t : _) → write.Post κ a r t → (u : Turned) → paper r ≡ refused u → offset_of u ≡ 0
unfolding given
of_write κ a r t p u e = first_unplaced _ ((first.of_write κ a r t p u).0 e)

-- ---- from C: a refusal's three numbers

shown_ruling_lem : (v : Ruling) → ((shown_ruling v).refusal ≡ 0 → ⊥) → v ≡ refused (turned (shown_ruling v).refusal (shown_ruling v).block (shown_ruling v).offset)
unfolding shown_ruling
shown_ruling_lem fine h = absurd (h refl)
shown_ruling_lem (refused (turned n b p)) h = refl

pub of_hsd_accept : (κ : _) (a : _) (r : _) (t : _) → hsd_accept.Post κ a r t → (r.refusal ≡ 0 → ⊥) → First (fields a.0.now) (turned r.refusal r.block r.offset)
unfolding answer_of
of_hsd_accept κ a r t p = rw p (λ h. rw (← fields_are a.0.now) ((first_fails (checks a.0.now) _).0 (reply_refused file_shows (judge fine (checks a.0.now)) (facts_of a.0.now) h)))

lent_for : (ok : Bool) (s : _) (marks : _) (size : ℕ) (f : File) (u : Turned) → First (tables (lent ok ∷ offering s marks size f ∷ [])) u → Concerns (f ∷ []) u
unfolding lent
lent_for ok s marks size f u h = between (f ∷ []) (lent ok) (offering s marks size f) [] u refl refl (offered_for s marks size f u) h

pub of_hsd_offer : (κ : _) (a : _) (r : _) (t : _) → hsd_offer.Post κ a r t → (r.refusal ≡ 0 → ⊥) → Concerns (a.1.1.1.0.now ∷ []) (turned r.refusal r.block r.offset)
of_hsd_offer κ a r t p = rw p.0 (λ h. lent_for _ _ _ _ _ _ ((first_fails _ _).0 (shown_ruling_lem (offered_c a.0 a.1.0.now (length a.1.1.0.now) a.1.1.1.0.now) h)))

pub of_hsd_why : (κ : _) (a : _) (r : _) (t : _) → hsd_why.Post κ a r t → (r.refusal ≡ 0 → ⊥) → Concerns (a.1.0.now ∷ []) (turned r.refusal r.block r.offset)
unfolding reason_of
of_hsd_why κ a r t p = rw p (λ h. asked_for _ _ _ ((first_fails _ _).0 (reply_refused why_shows (judge fine (asking (slate_in a.0) a.1.0.now)) _ h)))

pub of_hsd_reel_open : (κ : _) (a : _) (r : _) (t : _) → hsd_reel_open.Post κ a r t → {ps : List File} → Laid a.0.now ps → (r.refusal ≡ 0 → ⊥) → Concerns ps (turned r.refusal r.block r.offset)
unfolding opened
of_hsd_reel_open κ a r t p l = rw (p, ← (laid_has l).parts) (λ h. opened_of a.0.now _ (reply_refused reel_shows (judge fine (reels.opening a.0.now)) _ h))

pub of_hsd_reel_write : (κ : _) (a : _) (r : _) (t : _) → hsd_reel_write.Post κ a r t → {fs : List File} → Handed a.0.now a.1.0.now fs → (r.refusal ≡ 0 → ⊥) → Concerns fs (turned r.refusal r.block r.offset)
of_hsd_reel_write κ a r t p h = rw (p.0, ← handed_listed h) (λ z. wrote_of _ _ _ _ _ (shown_ruling_lem _ z))

pub of_hsd_reel_seal : (κ : _) (a : _) (r : _) (t : _) → hsd_reel_seal.Post κ a r t → {fs : List File} → Handed a.0.now a.1.0.now fs → (r.refusal ≡ 0 → ⊥) → Concerns fs (turned r.refusal r.block r.offset)
of_hsd_reel_seal κ a r t p h = rw (p.0, ← handed_listed h) (λ z. wrote_of _ _ _ _ _ (shown_ruling_lem _ z))

pub of_hsd_frame_number : (κ : _) (a : _) (r : _) (t : _) → hsd_frame_number.Post κ a r t → (r.refusal ≡ 0 → ⊥)
    → First (film_fields a.0 a.1.0 a.1.1.0 a.1.1.1.0) (turned r.refusal r.block r.offset)
unfolding film_frame_of shots
of_hsd_frame_number κ a r t p = rw p (λ h. (first_fails (shots a.0 a.1.0 a.1.1.0 a.1.1.1.0) _).0 (reply_refused number_shows (judge fine (shots a.0 a.1.0 a.1.1.0 a.1.1.1.0)) _ h))

pub of_hsd_night_add : (κ : _) (a : _) (r : _) (t : _) → hsd_night_add.Post κ a r t → (r.refusal ≡ 0 → ⊥) → Concerns (a.1.0.now ∷ []) (turned r.refusal r.block r.offset)
of_hsd_night_add κ a r t p = rw p (λ h. added_for _ _ _ ((first_fails _ _).0 (shown_ruling_lem (nights.added (run_in a.0) a.1.0.now) h)))
