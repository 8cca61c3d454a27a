-- Laws of lent marks and lent lines.
-- Assumes nothing.
use Rattle.std.proofs.Common.{◌≡◌, refl, sym, ap, ◌∙◌, Bool, true, false, ◌&&◌, List, [], ◌∷◌, ◌++◌, append-nil, ℕ, zero, suc, ◌+◌, ◌-◌, ◌<◌, ◌≤◌, add-one, arith, eqb-true, le-leb, eqb, leb, length, get_or, length-append}
use Rattle.std.proofs.Math.Bool.{and-eq-true_iff}
use Rattle.std.proofs.Math.Seq.{get_or_at, ext_get_or}
use mathlib.Core.Logic.{⊎_elim}
use native.Mathlib.Nat.{le_of_suc-le-suc, eq-or-lt_of_le}
use lib.ListN.{get_or-append}
use Rattle.wire.proofs.Rows.{tab_is}
use Rattle.frame.specs.Records.{pass, none_above, one_of}
use Rattle.frame.proofs.Marking.{pass_hit, pass_miss, pass_end}
use Rattle.rules.specs.Rules.{Row, row, Turned, turned, fine, Ruling, refused, tables, judge, checked, after, refuses}
use Rattle.rules.proofs.Judge.{judge_append, judge_refused}
use Rattle.accept.specs.Checks.{checks}
use Rattle.slate.specs.Slates.{good_slate, slated, frame_size, asking, reason_of}
use Rattle.frame.specs.Frames.{opening, opened, open_frame, ready, placing, offering, offered, frame_after}
use Rattle.frame.specs.Lines.{line_good, line_of}
use Rattle.plugin_frames.specs.declared.HsdSlate.{HsdSlate}
use Rattle.plugin_frames.specs.Strips.{slate_in, long_marks, is_bit, bits_from, good_marks, lent, flags, marks_in, marks_out, slate_c, opened_c, open_strip, offered_c, offer_strip, line_c, copied_of, copy_of}

-- ---- the loop of `good_marks`

pub bits_more : (m : List ℕ) (k x : ℕ) → k < 99 → x ≡ get_or m k 0 → bits_from m k ≡ (leb x 1 && bits_from m (k + 1))
unfolding bits_from
bits_more m k x h e = rw e (go (leb (get_or m k 0) 1) refl)
  where
    go : (b : Bool) → leb (get_or m k 0) 1 ≡ b → pass is_bit 0 m k (99 - k) ≡ (b && pass is_bit 0 m (k + 1) (99 - (k + 1)))
    go true q = pass_miss is_bit 0 m k h q
    go false q = pass_hit is_bit 0 m k h q

-- past the end there is nothing that could be no mark
pub bits_end : (m : List ℕ) (k : ℕ) → 99 ≤ k → bits_from m k ≡ true
unfolding bits_from
bits_end m k h = pass_end is_bit 0 m k h

-- ---- marks and their bytes, each by its place

pub length_flags : (m : List ℕ) (n : ℕ) → length (flags m n) ≡ n
unfolding flags
length_flags m zero = refl
length_flags m (suc n) = rw (length-append, length_flags m n, add-one)

pub flags_at : (m : List ℕ) (n k : ℕ) → k < n → get_or (flags m n) k false ≡ eqb (get_or m k 0) 1
unfolding flags
flags_at m zero k h = absurd (omega arith)
flags_at m (suc n) k h =
    ⊎_elim
    (λ e. rw e (get_or_at (flags m n) _ [] false n (length_flags m n)))
    (λ l. get_or-append (flags m n) _ false k (rw length_flags l) ∙ flags_at m n k l)
    (eq-or-lt_of_le (le_of_suc-le-suc h))

-- what has each flag is the flags
pub flags_from_each : (m : List ℕ) (marks : List Bool) → length marks ≡ 99 → ((k : ℕ) → k < 99 → get_or marks k false ≡ eqb (get_or m k 0) 1) → marks ≡ flags m 99
flags_from_each m marks l e = ext_get_or false marks (flags m 99) (l ∙ sym (length_flags m 99)) (λ k h. let q : k < 99 = rw l at h in e k q ∙ sym (flags_at m 99 k q))

pub marks_from_each : (marks : List Bool) (out : List ℕ) (n : ℕ) → n ≡ 99 → length out ≡ n → ((k : ℕ) → k < n → get_or out k 0 ≡ one_of (get_or marks k false)) → out ≡ marks_out marks
marks_from_each marks out n z l e = sym (tab_is _ 99 out (l ∙ z) (λ k h. sym (e k (omega arith))))

-- ---- marks and slate: both are good, or SLATE is said before anything else

two : (xs ys : List Row) → judge fine (tables (xs ∷ ys ∷ [])) ≡ judge (judge fine xs) ys
two xs ys = judge_append fine xs (ys ++ []) ∙ rw append-nil

-- with marks that will do the rest of the checks answer
pub lent_good : (ok : Bool) (rs : List Row) → ok ≡ true → judge fine (tables (lent ok ∷ rs ∷ [])) ≡ judge fine rs
unfolding lent
lent_good ok rs e = two (lent ok) rs ∙ rw e

-- good marks are 99
pub good_long : (m : List ℕ) → good_marks m ≡ true → length m ≡ 99
unfolding good_marks
good_long m g = eqb-true (length m) 99 ((and-eq-true_iff (long_marks m) (bits_from m 0)).0 g).0

module _ (s : HsdSlate) (ok : Bool) (t : Turned) (e : slate_c s ok ≡ refused t) where
  first : checked (checked fine ok (turned 13 0 0)) (good_slate (slate_in s)) (turned 13 0 0) ≡ refused t
  unfolding lent slated
  first = sym (two (lent ok) (slated (slate_in s))) ∙ e

  -- a refusal of marks or slate is that of every table that begins with them
  pub lent_refused : (rest : List Row) → judge fine (tables (lent ok ∷ (slated (slate_in s) ++ rest) ∷ [])) ≡ refused t
  unfolding lent slated
  lent_refused rest = two (lent ok) (slated (slate_in s) ++ rest) ∙ ap (λ (v : Ruling). judge v rest) first ∙ judge_refused t rest

module _ (s : HsdSlate) (m : List ℕ) (t : Turned) where
  pub lent_opened : slate_c s (long_marks m) ≡ refused t → (size : ℕ) → opened_c s m size ≡ refused t
  unfolding opening
  lent_opened e size = lent_refused s (long_marks m) t e _

  pub lent_offered : slate_c s (good_marks m) ≡ refused t → (size : ℕ) (f : List ℕ) → offered_c s m size f ≡ refused t
  unfolding offering ready slated
  lent_offered e size f = lent_refused s (good_marks m) t e (row (none_above s.total (marks_in m)) 13 0 0 ∷ row (eqb size (frame_size (slate_in s))) 14 0 0 ∷ (checks f ++ (placing (slate_in s) (marks_in m) f ++ [])))

  pub lent_line : slate_c s (good_marks m) ≡ refused t → (frame leader : List ℕ) (n : ℕ) → line_c s m frame leader n ≡ []
  unfolding line_c line_of line_good
  lent_line e frame leader n = go (good_marks m) (good_slate (slate_in s)) refl refl (first s (good_marks m) t e)
    where
      go : (g h : Bool) → good_marks m ≡ g → good_slate (slate_in s) ≡ h → checked (checked fine g (turned 13 0 0)) h (turned 13 0 0) ≡ refused t → line_c s m frame leader n ≡ []
      go true true eg eh x = absurd (let z : ◌≡◌ {A = ℕ} 0 1 = cc in omega arith)
      go true false eg eh x = rw (eg, eh)
      go false h eg eh x = rw eg

-- a bad slate is told before the file is looked at
pub lent_why : (s : HsdSlate) (t : Turned) → slate_c s true ≡ refused t → (f : List ℕ) → reason_of (slate_in s) f ≡ refuses t
unfolding asking reason_of
lent_why s t e f = rw (sym (lent_good true (slated (slate_in s) ++ (checks f ++ [])) refl) ∙ lent_refused s true t e (checks f ++ []))

-- ---- what a refusal leaves is left

after_twice : {A : Type 0} (r : Ruling) (old new : A) → after r old new ≡ after r old (after r old new)
unfolding after
after_twice fine old new = refl
after_twice (refused t) old new = refl

pub open_strip_lem : (s : HsdSlate) (m : List ℕ) → long_marks m ≡ true → (frame : List ℕ) → open_frame (slate_in s) frame ≡ open_strip s m frame
unfolding open_frame open_strip
open_strip_lem s m g frame =
    after_twice (opened (slate_in s) (length frame)) frame _
    ∙ ap (λ (r : Ruling). after r frame (open_frame (slate_in s) frame)) (sym (lent_good (long_marks m) (opening (slate_in s) (length frame)) g))

pub offer_strip_lem : (s : HsdSlate) (m : List ℕ) → good_marks m ≡ true → (frame f : List ℕ) → frame_after (slate_in s) (marks_in m) frame f ≡ offer_strip s m frame f
unfolding frame_after offer_strip
offer_strip_lem s m g frame f =
    after_twice (offered (slate_in s) (marks_in m) (length frame) f) frame _
    ∙ ap (λ (r : Ruling). after r frame (frame_after (slate_in s) (marks_in m) frame f)) (sym (lent_good (good_marks m) (offering (slate_in s) (marks_in m) (length frame) f) g))

-- ---- a line

-- of an empty line nothing is copied
pub none_copied : (out : List ℕ) → (0 ≡ copied_of [] out) × (out ≡ copy_of [] out)
none_copied out = rw (le-leb 0 (length out) (omega arith)) (refl, refl)
