-- What a frame holds after any history of offers, by the files alone. The cut is known by its laws only.
-- Assumes nothing.
use mathlib.Core.Path.{◌≡◌, refl, sym, ap, ◌∙◌}
use mathlib.Core.Logic.{⊎_elim}
use mathlib.Core.Bool.{Bool, true, false, not, cond, ◌&&◌, ◌||◌, false≢true, and-false, and-eq-true_iff}
use mathlib.Core.List.{List, [], ◌∷◌}
use Prim.Native.Nat.{ℕ, zero, suc, ◌+◌, ◌*◌, ◌-◌, ◌<◌}
use native.Mathlib.Nat.{eq-or-lt_of_le, le_of_suc-le-suc, add-mul}
use native.Mathlib.Omega.{arith}
use borrow.Author.Tests.{eq-eqb, eqb-true, le-leb, leb-true, leb-false}
use lib.Dec.{eqb, leb}
use lib.ListN.{length, take, drop, get_or, set, replicate, length-replicate, replicate-append-replicate, get_or-append}
use lib.Seq.{get_or_at, set_split, append_snoc}
use Rattle.rules.specs.Rules.{turned, checked, Ruling, fine, refused, judge, after}
use Rattle.rules.proofs.Judge.{holds, exactly, tried, table, last}
use Rattle.header.specs.Places.{order_of, length_of}
use Rattle.accept.specs.Checks.{checks}
use Rattle.accept.specs.Answers.{facts_of}
use Rattle.slate.specs.declared.Slate.{Slate}
use Rattle.slate.specs.Cut.{height_of, lines_to}
use Rattle.slate.specs.Slates.{good_slate, slated, size_of, start_of, frame_size, matching}
use Rattle.slate.proofs.Cuts.{lines_none, lines_more, good}
use Rattle.frame.specs.Counts.{counts_of}
use Rattle.frame.specs.Records.{marked, mark, none_above}
use Rattle.frame.specs.Frames.{opening, open_frame, unwritten, ready, placing, offering, offered, put_at, record_after, frame_after}
use Rattle.frame.proofs.Copying.{counts_length}
use Rattle.frame.proofs.Marking.{pass_all}
use Rattle.frame.proofs.Putting.{matches}
use Rattle.assembly.specs.History.{File, State, next, held_after, answer, is_fine, bears, came, segment, joined}
use Rattle.assembly.proofs.Joined.{sizes, sizes_even, joined_ext, joined_length, joined_put, with}

-- ---- tests

pub not_so : (b : Bool) → (b ≡ true → ⊥) → b ≡ false
not_so true h = absurd (h refl)
not_so false h = refl

is_fine_lem : (v : Ruling) → is_fine v ≡ true → v ≡ fine
is_fine_lem fine e = refl
is_fine_lem (refused t) e = absurd (false≢true e)

-- ---- lists

joined_replicate : {A : Type 0} (a : A) (z : ℕ → ℕ) (n : ℕ) → joined (λ k. replicate (z k) a) n ≡ replicate (sizes z n) a
joined_replicate a z zero = refl
joined_replicate a z (suc n) = rw (joined_replicate a z n) (replicate-append-replicate (sizes z n) (z (suc n)) a)

-- where segment n + 1 begins
pub sizes_lines : (s : Slate) (n : ℕ) → sizes (size_of s) n ≡ lines_to s n * s.columns
sizes_lines s zero = rw (lines_none s) (omega arith)
sizes_lines s (suc n) = rw (sizes_lines s n, lines_more s n) (sym (add-mul (lines_to s n) (height_of s (suc n)) s.columns))

-- a row of single marks
abbrev row : (ℕ → Bool) → ℕ → List Bool
row p n = joined (λ j. p j ∷ []) n

row_length : (p : ℕ → Bool) (n : ℕ) → length (row p n) ≡ n
row_length p n = joined_length (λ _. 1) (λ j. p j ∷ []) n (λ _. refl) ∙ sizes_even 1 n ∙ omega arith

row_at : (p : ℕ → Bool) (n k : ℕ) → k < n → get_or (row p n) k false ≡ p (suc k)
row_at p zero k h = absurd (omega arith)
row_at p (suc n) k h =
    ⊎_elim
    (λ e. rw e (get_or_at (row p n) (p (suc n)) [] false n (row_length p n)))
    (λ l. get_or-append (row p n) (p (suc n) ∷ []) false k (rw (row_length p n) l) ∙ row_at p n k l)
    (eq-or-lt_of_le (le_of_suc-le-suc h))

set_put : {A : Type 0} (l : List A) (i : ℕ) (a : A) → i < length l → set l i a ≡ put_at l i (a ∷ [])
set_put l i a h = let e : i + 1 ≡ suc i = omega arith in rw e (set_split l i a h ∙ sym (append_snoc (take i l) a (drop (suc i) l)))

pick : (a b : Bool) → cond b (true ∷ []) (a ∷ []) ≡ (a || b) ∷ []
pick true true = refl
pick true false = refl
pick false true = refl
pick false false = refl

row_set : (p : ℕ → Bool) (n k : ℕ) → k < n → set (row p n) k true ≡ row (λ j. p j || eqb (suc k) j) n
row_set p n k h =
    let e : sizes (λ _. 1) k ≡ k = sizes_even 1 k ∙ omega arith in
    set_put (row p n) k true (rw (row_length p n) h)
    ∙ (rw e at (joined_put (λ _. 1) (λ j. p j ∷ []) n k (true ∷ []) (λ _. refl) refl h))
    ∙ joined_ext (with (λ j. p j ∷ []) (suc k) (true ∷ [])) (λ j. (p j || eqb (suc k) j) ∷ []) n (λ j _ _. pick (p j) (eqb (suc k) j))

-- ---- a file that bears a number

pub record Bears (s : Slate) (k : ℕ) (f : File) : Type 0 where
  pub good : judge fine (checks f) ≡ fine
  pub match : matching s (facts_of f) ≡ true
  pub number : (facts_of f).number ≡ k

pub bears_true : (s : Slate) (k : ℕ) (f : File) → bears s k f ≡ true → Bears s k f
unfolding bears
bears_true s k f e =
    let e2 = (and-eq-true_iff (is_fine (judge fine (checks f)) && matching s (facts_of f)) _).0 e in
    let e1 = (and-eq-true_iff (is_fine (judge fine (checks f))) (matching s (facts_of f))).0 e2.0 in
    record { good = is_fine_lem _ e1.0; match = e1.1; number = eqb-true _ _ e2.1 }

pub bears_is : (s : Slate) (k : ℕ) (f : File) → judge fine (checks f) ≡ fine → matching s (facts_of f) ≡ true → bears s k f ≡ eqb (facts_of f).number k
unfolding bears
bears_is s k f g m = rw (g, m)

counts_fit : (s : Slate) (k : ℕ) (f : File) → bears s k f ≡ true → length (counts_of f) ≡ size_of s k
unfolding counts_of
counts_fit s k f e =
    let b = bears_true s k f e in
    rw (← b.number) (counts_length (order_of f) (drop (length_of f) f) (size_of s (facts_of f).number) (matches s f b.good b.match).bytes)

pub segment_length : (s : Slate) (fs : List File) (k : ℕ) → length (segment s fs k) ≡ size_of s k
segment_length s [] k = length-replicate (size_of s k) unwritten
segment_length s (f ∷ fs) k = go (not (came s k fs) && bears s k f) refl (segment_length s fs k)
  where
    go : (b : Bool) → (not (came s k fs) && bears s k f) ≡ b → length (segment s fs k) ≡ size_of s k → length (cond b (counts_of f) (segment s fs k)) ≡ size_of s k
    go true e h = counts_fit s k f ((and-eq-true_iff (not (came s k fs)) (bears s k f)).0 e).1
    go false e h = h

-- ---- the closed form

abbrev pub marks_of : Slate → List File → List Bool
marks_of s fs = row (λ k. came s k fs) 99

abbrev pub frame_of : Slate → List File → List ℕ
frame_of s fs = joined (segment s fs) s.total

pub record Closed (s : Slate) (fs : List File) (h : State) : Type 0 where
  pub marks : h.marks ≡ marks_of s fs
  pub frame : h.frame ≡ frame_of s fs

pub frame_length : (s : Slate) (fs : List File) → length (frame_of s fs) ≡ frame_size s
frame_length s fs = joined_length (size_of s) (segment s fs) s.total (segment_length s fs) ∙ sizes_lines s s.total

-- no number above the slate's total comes
came_within : (s : Slate) (k : ℕ) (fs : List File) → s.total < k → came s k fs ≡ false
came_within s k [] h = refl
came_within s k (f ∷ fs) h =
    rw (came_within s k fs h)
    (not_so (bears s k f) (λ e. let b = bears_true s k f e in let m = matches s f b.good b.match in let n = b.number in let l = m.most in omega arith))

pub marks_none : (s : Slate) (fs : List File) → none_above s.total (marks_of s fs) ≡ true
unfolding none_above
marks_none s fs =
    pass_all not false (marks_of s fs) s.total (99 - s.total)
    (λ j a b. rw (row_at (λ k. came s k fs) 99 j (omega arith) ∙ came_within s (suc j) fs (omega arith)))

-- nor 0
came_some : (s : Slate) (fs : List File) → came s 0 fs ≡ false
came_some s [] = refl
came_some s (f ∷ fs) =
    rw (came_some s fs)
    (not_so (bears s 0 f) (λ e. let b = bears_true s 0 f e in let n = b.number in let l = (matches s f b.good b.match).some in omega arith))

-- a number is marked exactly where it came
pub marks_marked : (s : Slate) → good_slate s ≡ true → (fs : List File) (k : ℕ) → marked (marks_of s fs) k ≡ came s k fs
unfolding marked
marks_marked s ok fs zero = sym (came_some s fs)
marks_marked s ok fs (suc k) = rw (le-leb 1 (suc k) (omega arith)) (go (leb (suc k) 99) refl)
  where
    go : (b : Bool) → leb (suc k) 99 ≡ b → (b && get_or (marks_of s fs) (suc k - 1) false) ≡ came s (suc k) fs
    go true e = let i : suc k - 1 ≡ k = omega arith in rw i (row_at (λ j. came s j fs) 99 k (leb-true (suc k) 99 e))
    go false e = sym (came_within s (suc k) fs (omega (arith, (good s ok).most, leb-false (suc k) 99 e)))

-- the file's own verdict, and then 15 and 16
abbrev pub settle : Ruling → Bool → Bool → Ruling
settle v match new = checked (checked v match (turned 15 0 0)) new (turned 16 0 0)

-- what a file is answered after a history
abbrev pub settled : Slate → List File → File → Ruling
settled s fs f = settle (judge fine (checks f)) (matching s (facts_of f)) (not (came s (facts_of f).number fs))

module _ (s : Slate) (ok : good_slate s ≡ true) (fs : List File) (f : File) where
  is_ready : judge fine (ready s (marks_of s fs) (length (frame_of s fs))) ≡ fine
  unfolding ready slated
  is_ready = (exactly (ready s (marks_of s fs) (length (frame_of s fs)))).1 (holds ok (holds (marks_none s fs) (holds (eq-eqb _ _ (frame_length s fs)) tt)))

  pub answer_is : (h : State) → Closed s fs h → offered s h.marks (length h.frame) f ≡ settled s fs f
  unfolding offering placing
  answer_is h c =
      rw (c.marks, c.frame)
      (sym (tried {ts = ready s (marks_of s fs) (length (frame_of s fs)) ∷ checks f ∷ placing s (marks_of s fs) f ∷ []} (table (sym is_ready) (table refl (table refl last))))
      ∙ go (judge fine (checks f)) (matching s (facts_of f)) refl refl)
    where
      go : (v : Ruling) (m : Bool) → judge fine (checks f) ≡ v → matching s (facts_of f) ≡ m
          → settle v m (not (marked (marks_of s fs) (facts_of f).number)) ≡ settle v m (not (came s (facts_of f).number fs))
      go fine true eg em =
          rw (marks_marked s ok fs (facts_of f).number)
      go fine false eg em = refl
      go (refused t) true eg em = refl
      go (refused t) false eg em = refl

-- ---- an offer keeps the closed form

-- a file that adds nothing: it bears no number that has not come
abbrev Idle : Slate → List File → File → Type 0
Idle s fs f = (k : ℕ) → (not (came s k fs) && bears s k f) ≡ false

pub idle_or : (a b : Bool) → (not a && b) ≡ false → (a || b) ≡ a
idle_or true b e = refl
idle_or false b e = e

idle : (s : Slate) (fs : List File) (f : File) (h : State) → Idle s fs f → Closed s fs h → Closed s (f ∷ fs) h
idle s fs f h i c = record {
  marks = c.marks ∙ joined_ext (λ k. came s k fs ∷ []) (λ k. came s k (f ∷ fs) ∷ []) 99 (λ k _ _. ap (λ (b : Bool). b ∷ []) (sym (idle_or _ _ (i k))));
  frame = c.frame ∙ joined_ext (segment s fs) (segment s (f ∷ fs)) s.total (λ k _ _. rw (i k));
}

-- a file that is placed
module _ (s : Slate) (ok : good_slate s ≡ true) (fs : List File) (f : File)
    (g : judge fine (checks f) ≡ fine) (m : matching s (facts_of f) ≡ true) (new : came s (facts_of f).number fs ≡ false) where
  placed_at : (k : ℕ) → (not (came s k fs) && bears s k f) ≡ eqb (facts_of f).number k
  placed_at k = rw (bears_is s k f g m) (go (eqb (facts_of f).number k) refl)
    where
      go : (b : Bool) → eqb (facts_of f).number k ≡ b → (not (came s k fs) && b) ≡ b
      go true e = let q : came s k fs ≡ false = (rw (eqb-true (facts_of f).number k e) at new) in rw q
      go false e = and-false (not (came s k fs))

  placed_marks : mark (marks_of s fs) (facts_of f).number ≡ marks_of s (f ∷ fs)
  placed_marks =
      let k = (facts_of f).number - 1 in
      let a = (matches s f g m).some in
      let b = (matches s f g m).most in
      let t = (good s ok).most in
      let e : suc k ≡ (facts_of f).number = omega arith in
      row_set (λ j. came s j fs) 99 k (omega arith)
      ∙ joined_ext (λ j. (came s j fs || eqb (suc k) j) ∷ []) (λ j. came s j (f ∷ fs) ∷ []) 99 (λ j _ _. rw (e, bears_is s j f g m))

  placed_frame : put_at (frame_of s fs) (start_of s (facts_of f).number) (counts_of f) ≡ frame_of s (f ∷ fs)
  placed_frame =
      let k = (facts_of f).number - 1 in
      let a = (matches s f g m).some in
      let b = (matches s f g m).most in
      let e : suc k ≡ (facts_of f).number = omega arith in
      let l = counts_fit s (facts_of f).number f (bears_is s (facts_of f).number f g m ∙ eq-eqb (facts_of f).number (facts_of f).number refl) in
      (rw (sizes_lines s k) at (joined_put (size_of s) (segment s fs) s.total k (counts_of f) (segment_length s fs) (rw e l) (omega arith)))
      ∙ joined_ext (with (segment s fs) (suc k) (counts_of f)) (segment s (f ∷ fs)) s.total (λ j _ _. rw (e, placed_at j))

module _ (s : Slate) (fs : List File) (f : File) where
  pub bears_bad : {t : _} → judge fine (checks f) ≡ refused t → Idle s fs f
  unfolding bears
  bears_bad e k = rw e (and-false (not (came s k fs)))

  pub bears_other : matching s (facts_of f) ≡ false → Idle s fs f
  bears_other e k =
      not_so _ (λ b. false≢true (sym e ∙ (bears_true s k f ((and-eq-true_iff (not (came s k fs)) (bears s k f)).0 b).1).match))

  pub bears_old : came s (facts_of f).number fs ≡ true → Idle s fs f
  bears_old e k =
      not_so _ (λ b.
      let q = (and-eq-true_iff (not (came s k fs)) (bears s k f)).0 b in
      let c : came s k fs ≡ true = (rw (bears_true s k f q.1).number at e) in
      false≢true (rw c at q.0))

  closed_next : good_slate s ≡ true → (h : State) → Closed s fs h → Closed s (f ∷ fs) (next s h f)
  unfolding record_after frame_after after
  closed_next ok h c = rw (answer_is s ok fs f h c) (go (judge fine (checks f)) (matching s (facts_of f)) (came s (facts_of f).number fs) refl refl refl)
    where
      go : (v : Ruling) (m o : Bool) → judge fine (checks f) ≡ v → matching s (facts_of f) ≡ m → came s (facts_of f).number fs ≡ o
          → Closed s (f ∷ fs) (record {
            marks = after (settle v m (not o)) h.marks (mark h.marks (facts_of f).number);
            frame = after (settle v m (not o)) h.frame (put_at h.frame (start_of s (facts_of f).number) (counts_of f));
          })
      go fine true false eg em eo = record {
        marks = rw c.marks (placed_marks s ok fs f eg em eo);
        frame = rw c.frame (placed_frame s ok fs f eg em eo);
      }
      go fine true true eg em eo = idle s fs f h (bears_old eo) c
      go fine false o eg em eo = idle s fs f h (bears_other em) c
      go (refused t) m o eg em eo = idle s fs f h (bears_bad eg) c

module _ (s : Slate) (ok : good_slate s ≡ true) (frame : List ℕ) (fits : length frame ≡ frame_size s) where
  opens : open_frame s frame ≡ frame_of s []
  unfolding open_frame opening slated after
  opens =
      rw ((exactly (opening s (length frame))).1 (holds ok (holds (eq-eqb _ _ fits) tt)), fits, ← sizes_lines s s.total)
      (sym (joined_replicate unwritten (size_of s) s.total))

  -- after any history at all, copies and strangers among it, record and frame are those of the files
  pub closed : (fs : List File) → Closed s fs (held_after s frame fs)
  closed [] = record { marks = refl; frame = opens }
  closed (f ∷ fs) = closed_next s fs f ok (held_after s frame fs) (closed fs)

  pub answered : (fs : List File) (f : File) → answer s frame fs f ≡ settled s fs f
  answered fs f = answer_is s ok fs f (held_after s frame fs) (closed fs)
