-- Laws on the cut of a slate. The first part opens its definitions; the second, and every other file, knows only the first.
-- Assumes nothing.
use mathlib.Core.Path.{◌≡◌, refl}
use mathlib.Core.Logic.{⊎_elim}
use mathlib.Core.Bool.{Bool, true, false, cond, ◌&&◌, and-false, and-eq-true_iff}
use Prim.Native.Nat.{ℕ, zero, suc, ◌+◌, ◌*◌, ◌-◌, ◌<◌, ◌≤◌}
use native.Mathlib.Nat.{eq-or-lt_of_le, le_of_suc-le-suc, le_trans, mul-le-mul_right, suc-mul, add-mul}
use native.Mathlib.Numerals.{add-one}
use native.Mathlib.Omega.{arith}
use lib.Dec.{leb, ltb}
use borrow.Author.Tests.{leb-true, leb-false, ltb-true, ltb-false, le-leb, lt-leb}
use Rattle.format.specs.Ranges.{good_size, good_total}
use Rattle.slate.specs.Cut.{height_of, lines_to, all_tall, good_cut, last_to, cover_of}
use Rattle.slate.specs.Slates.{good_shot, good_slate, size_of, start_of, frame_lines, frame_size, has_line, cover_or_0}
use Rattle.slate.specs.declared.Slate.{Slate}

-- what grows from each number to the next grows from each to every later one
pub rising : (f : ℕ → ℕ) → ((n : ℕ) → f n ≤ f (suc n)) → (k n : ℕ) → k ≤ n → f k ≤ f n
rising f up k zero h = let e : k ≡ 0 = omega arith in rw e (omega arith)
rising f up k (suc n) h = ⊎_elim (λ e. rw e (omega arith)) (λ l. le_trans (rising f up k n (le_of_suc-le-suc l)) (up n)) (eq-or-lt_of_le h)

pub lines_none : (s : Slate) → lines_to s 0 ≡ 0
unfolding lines_to
lines_none s = refl

pub lines_more : (s : Slate) (n : ℕ) → lines_to s (suc n) ≡ lines_to s n + height_of s (suc n)
unfolding lines_to
lines_more s n = refl

-- a turn of a loop over the heights: k is the number before, and then this one
pub lines_next : (s : Slate) (k : ℕ) → lines_to s (k + 1) ≡ lines_to s k + height_of s (k + 1)
lines_next s k = rw (add-one k, lines_more s k)

pub lines_step : (s : Slate) (k : ℕ) → 1 ≤ k → lines_to s k ≡ lines_to s (k - 1) + height_of s k
lines_step s k h = let e : k - 1 + 1 ≡ k = omega arith in (rw e at (lines_next s (k - 1)))

pub tall_none : (s : Slate) → all_tall s 0 ≡ true
unfolding all_tall
tall_none s = refl

pub tall_next : (s : Slate) (k : ℕ) → all_tall s k ≡ true → 1 ≤ height_of s (k + 1) → all_tall s (k + 1) ≡ true
unfolding all_tall
tall_next s k e h = rw add-one (rw (e, le-leb 1 _ (rw add-one at h)))

pub tall_not : (s : Slate) (k n : ℕ) → k < n → height_of s (k + 1) < 1 → all_tall s n ≡ false
unfolding all_tall
tall_not s k zero h e = absurd (omega arith)
tall_not s k (suc n) h e = ⊎_elim here (λ l. rw (tall_not s k n l e)) (eq-or-lt_of_le (le_of_suc-le-suc h))
  where
    here : k ≡ n → (all_tall s n && leb 1 (height_of s (suc n))) ≡ false
    here q = let z : height_of s (suc n) < 1 = (rw (q, add-one) at e) in rw (lt-leb 1 _ z) (and-false (all_tall s n))

-- the turns of a loop over the heights
pub ruleset turns = (lines_none, lines_next, tall_none, tall_next, tall_not)

-- segment k is one of the slate's, and covers the line
pub record Covers (s : Slate) (line k : ℕ) : Type 0 where
  pub some : 1 ≤ k
  pub most : k ≤ s.total
  pub after : lines_to s (k - 1) < line
  pub upto : line ≤ lines_to s k

covers_to : (s : Slate) (line n : ℕ) → n ≤ s.total → 1 ≤ line → line ≤ lines_to s n → Covers s line (last_to s line n)
unfolding last_to
covers_to s line zero h a b = absurd (omega (arith, lines_none s))
covers_to s line (suc n) h a b = go (ltb (lines_to s n) line) refl (covers_to s line n (omega arith) a)
  where
    go : (t : Bool) → ltb (lines_to s n) line ≡ t → (line ≤ lines_to s n → Covers s line (last_to s line n)) → Covers s line (cond t (suc n) (last_to s line n))
    go true e ih = let i : suc n - 1 ≡ n = omega arith in record { some = omega arith; most = h; after = rw i (ltb-true (lines_to s n) line e); upto = b }
    go false e ih = ih (ltb-false (lines_to s n) line e)

pub covers : (s : Slate) (line : ℕ) → good_cut s ≡ true → 1 ≤ line → line ≤ frame_lines s → Covers s line (cover_of s line)
unfolding cover_of
covers s line g a b = covers_to s line s.total (omega arith) a b

-- ---- of any cut

lines_below : (s : Slate) (k n : ℕ) → k ≤ n → lines_to s k ≤ lines_to s n
lines_below s = rising (lines_to s) (λ n. omega (arith, lines_more s n))

not_above : {j k : ℕ} → (k < j → ⊥) → j ≤ k
not_above {j} {k} f = go (leb j k) refl
  where
    go : (b : Bool) → leb j k ≡ b → j ≤ k
    go true e = leb-true j k e
    go false e = absurd (f (leb-false j k e))

-- a line has one segment that covers it
pub cover_one : (s : Slate) (line j k : ℕ) → Covers s line j → Covers s line k → j ≡ k
cover_one s line j k p q = ⊎_elim (λ e. e) (λ l. absurd (low l)) (eq-or-lt_of_le high)
  where
    low : j < k → ⊥
    low h = let c = lines_below s j (k - 1) (omega arith) in omega (arith, q.after, p.upto)

    high : j ≤ k
    high = not_above (λ h. let c = lines_below s k (j - 1) (omega arith) in omega (arith, p.after, q.upto))

-- segment n lies within the frame
pub strip_room : (s : Slate) (n : ℕ) → 1 ≤ n → n ≤ s.total → start_of s n + size_of s n ≤ frame_size s
strip_room s n h k =
    rw (← add-mul (lines_to s (n - 1)) (height_of s n) s.columns, ← lines_step s n h) (mul-le-mul_right s.columns (lines_below s n s.total k))

-- a line lies within the frame
pub line_room : (s : Slate) (line : ℕ) → 1 ≤ line → line ≤ frame_lines s → (line - 1) * s.columns + s.columns ≤ frame_size s
line_room s line a b =
    let l : line - 1 < frame_lines s = omega arith in
    rw (← suc-mul (line - 1) s.columns) (mul-le-mul_right s.columns l)

-- ---- what a good slate says

pub record Good (s : Slate) : Type 0 where
  pub columns : 1 ≤ s.columns
  pub total : 1 ≤ s.total
  pub most : s.total ≤ 99
  pub cut : good_cut s ≡ true

pub good : (s : Slate) → good_slate s ≡ true → Good s
unfolding good_slate
good s e =
    let e7 = (and-eq-true_iff _ (good_cut s)).0 e in
    let e6 = (and-eq-true_iff _ (good_total s.total)).0 e7.0 in
    let t = (and-eq-true_iff (leb 1 s.total) _).0 e6.1 in
    let w = (and-eq-true_iff (leb 1 s.columns) _).0 ((and-eq-true_iff (good_shot s) (good_size s.columns)).0 e6.0).1 in
    record {
      columns = leb-true 1 s.columns w.0;
      total = leb-true 1 s.total t.0;
      most = leb-true s.total 99 t.1;
      cut = e7.1;
    }

-- a line of a good slate's frame, and the segment that covers it
pub record Inside (s : Slate) (line : ℕ) : Type 0 where
  pub ok : good_slate s ≡ true
  pub slate : Good s
  pub some : 1 ≤ line
  pub last : line ≤ frame_lines s
  pub cover : Covers s line (cover_of s line)

pub inside : (s : Slate) (line : ℕ) → has_line s line ≡ true → Inside s line
inside s line e =
    let e1 = (and-eq-true_iff (good_slate s) (leb 1 line && leb line (frame_lines s))).0 e in
    let e2 = (and-eq-true_iff (leb 1 line) (leb line (frame_lines s))).0 e1.1 in
    let a = leb-true 1 line e2.0 in
    let b = leb-true line (frame_lines s) e2.1 in
    let g = good s e1.0 in
    record { ok = e1.0; slate = g; some = a; last = b; cover = covers s line g.cut a b }

-- what covers a line of the frame is the answer
pub cover_is : (s : Slate) (line k : ℕ) → has_line s line ≡ true → 1 ≤ k → k ≤ s.total → lines_to s (k - 1) < line → line ≤ lines_to s k → cover_or_0 s line ≡ k
unfolding cover_or_0
cover_is s line k e a b c d = rw e (cover_one s line _ k (inside s line e).cover (record { some = a; most = b; after = c; upto = d }))

pub cover_none : (s : Slate) (line : ℕ) → has_line s line ≡ false → cover_or_0 s line ≡ 0
unfolding cover_or_0
cover_none s line e = rw e

pub line_from : (s : Slate) (line : ℕ) → has_line s line ≡ true → (1 ≤ line) × (1 ≤ s.total) × (line ≤ lines_to s s.total)
line_from s line e = let i = inside s line e in (i.some, i.slate.total, i.last)

-- a turn of the loop that looks for it
pub ruleset covering = (lines_none, lines_step, cover_is, cover_none, line_from)
