-- Demand 3, of the definitions: what is in a frame does not depend on the order of the offers, and what each line holds.
-- Assumes nothing.
use mathlib.Core.Path.{◌≡◌, refl, sym, ap, ◌∙◌}
use mathlib.Core.Bool.{Bool, true, false, not, cond, ◌&&◌, ◌||◌, false≢true, true≢false, or-true, and-false}
use mathlib.Core.List.Permᴰ
use mathlib.Core.List.{List, [], ◌∷◌, map, Memᴰ, Permᴰ}
use Prim.Native.Nat.{ℕ, zero, suc, ◌+◌, ◌*◌, ◌-◌, ◌≤◌}
use native.Mathlib.Nat.{suc-mul, add-mul, add-zero, mul-le-mul_right}
use native.Mathlib.Omega.{arith}
use borrow.Author.Tests.{eq-eqb, eqb-true, le-leb}
use lib.Dec.{eqb, leb}
use lib.ListN.{length, take, drop, replicate}
use Rattle.rules.specs.Rules.{row, turned, checked, Ruling, fine, refused, judge}
use Rattle.rules.proofs.Judge.{tried, table, last}
use Rattle.accept.specs.Checks.{checks}
use Rattle.accept.specs.Answers.{facts_of}
use Rattle.slate.specs.declared.Slate.{Slate}
use Rattle.slate.specs.Cut.{height_of, lines_to, cover_of}
use Rattle.slate.specs.Slates.{good_slate, size_of, frame_lines, frame_size, matching}
use Rattle.slate.proofs.Cuts.{lines_more, Covers, covers, good}
use Rattle.frame.specs.Counts.{counts_of}
use Rattle.frame.specs.Records.{marked, none_above}
use Rattle.frame.specs.Frames.{unwritten}
use Rattle.frame.specs.Lines.{line_good, line_of}
use Rattle.assembly.specs.History.{File, held_after, answers, is_fine, placed, bears, came, bearers, Apart, Agree, alone, empty, segment, Source, line_in, within_of}
use Rattle.assembly.proofs.Joined.{joined_ext, joined_part}
use Rattle.assembly.proofs.Order.{settle, sizes_lines, closed, answered, frame_length, segment_length, marks_none, marks_marked, bears_is}

-- ---- what order cannot change

or_swap : (x y z : Bool) → (x || y || z) ≡ (x || z || y)
or_swap true y z = refl
or_swap false true true = refl
or_swap false true false = refl
or_swap false false true = refl
or_swap false false false = refl

pub came_perm : (s : Slate) (k : ℕ) {fs gs : List File} → Permᴰ fs gs → came s k fs ≡ came s k gs
came_perm s k Permᴰ.nil = refl
came_perm s k (Permᴰ.cons e d) = rw (came_perm s k d, e)
came_perm s k (Permᴰ.swap {l = l} e₁ e₂) = rw (e₁, e₂) (or_swap (came s k l) _ _)
came_perm s k (Permᴰ.trans d₁ d₂) = came_perm s k d₁ ∙ came_perm s k d₂

bearers_perm : (s : Slate) (k : ℕ) {fs gs : List File} → Permᴰ fs gs → bearers s k fs ≡ bearers s k gs
bearers_perm s k Permᴰ.nil = refl
bearers_perm s k (Permᴰ.cons e d) = rw (bearers_perm s k d, e)
bearers_perm s k (Permᴰ.swap e₁ e₂) = rw (e₁, e₂) (omega arith)
bearers_perm s k (Permᴰ.trans d₁ d₂) = bearers_perm s k d₁ ∙ bearers_perm s k d₂

pub apart_perm : (s : Slate) {fs gs : List File} → Permᴰ fs gs → Apart s fs → Apart s gs
apart_perm s p a k = rw (← bearers_perm s k p) (a k)

perm_mem : {f : File} {fs gs : List File} → Permᴰ fs gs → Memᴰ f fs → Memᴰ f gs
perm_mem Permᴰ.nil m = m
perm_mem (Permᴰ.cons e d) (Memᴰ.head q) = Memᴰ.head (q ∙ e)
perm_mem (Permᴰ.cons e d) (Memᴰ.tail m) = Memᴰ.tail (perm_mem d m)
perm_mem (Permᴰ.swap e₁ e₂) (Memᴰ.head q) = Memᴰ.tail (Memᴰ.head (q ∙ e₁))
perm_mem (Permᴰ.swap e₁ e₂) (Memᴰ.tail (Memᴰ.head q)) = Memᴰ.head (q ∙ e₂)
perm_mem (Permᴰ.swap e₁ e₂) (Memᴰ.tail (Memᴰ.tail m)) = Memᴰ.tail (Memᴰ.tail m)
perm_mem (Permᴰ.trans d₁ d₂) m = perm_mem d₂ (perm_mem d₁ m)

-- ---- where a segment's counts come from

pub source : (s : Slate) (k : ℕ) (fs : List File) → came s k fs ≡ true → Source s k fs
source s k [] e = absurd (false≢true e)
source s k (f ∷ fs) e = go (came s k fs) refl (source s k fs) e
  where
    go : (c : Bool) → came s k fs ≡ c → (came s k fs ≡ true → Source s k fs) → (c || bears s k f) ≡ true → Source s k (f ∷ fs)
    go true q ih e =
        let w = ih q in
        record { file = w.file; member = Memᴰ.tail w.member; bearing = w.bearing; counts = rw q w.counts }
    go false q ih e = record { file = f; member = Memᴰ.head refl; bearing = e; counts = rw (q, e) }

pub missing : (s : Slate) (k : ℕ) (fs : List File) → came s k fs ≡ false → segment s fs k ≡ empty s k
missing s k [] e = refl
missing s k (f ∷ fs) e = go (came s k fs) refl (missing s k fs) e
  where
    go : (c : Bool) → came s k fs ≡ c → (came s k fs ≡ false → segment s fs k ≡ empty s k) → (c || bears s k f) ≡ false → segment s (f ∷ fs) k ≡ empty s k
    go true q ih e = absurd (true≢false e)
    go false q ih e = rw (q, e) (ih q)

segment_perm : (s : Slate) (k : ℕ) {fs gs : List File} → Permᴰ fs gs → Agree s fs → segment s fs k ≡ segment s gs k
segment_perm s k {fs} {gs} p a = go (came s k fs) refl
  where
    go : (c : Bool) → came s k fs ≡ c → segment s fs k ≡ segment s gs k
    go true e =
        let v = source s k fs e in
        let w = source s k gs (sym (came_perm s k p) ∙ e) in
        v.counts ∙ a k v.file w.file v.member (perm_mem (Permᴰ.symm p) w.member) v.bearing w.bearing ∙ sym w.counts
    go false e = missing s k fs e ∙ sym (missing s k gs (sym (came_perm s k p) ∙ e))

pub member_came : (s : Slate) (k : ℕ) {f : File} {fs : List File} → Memᴰ f fs → bears s k f ≡ true → came s k fs ≡ true
member_came s k (Memᴰ.head {xs = xs} e) b = rw (← e, b) (or-true (came s k xs))
member_came s k (Memᴰ.tail m) b = rw (member_came s k m b)

-- the counts of any file that bears k are the segment's
pub brought : (s : Slate) (k : ℕ) (f : File) (fs : List File) → Agree s fs → Memᴰ f fs → bears s k f ≡ true → segment s fs k ≡ counts_of f
brought s k f fs a m b = let w = source s k fs (member_came s k m b) in w.counts ∙ a k w.file f w.member m w.bearing b

-- ---- files of which no two bear one number

some : (s : Slate) (k : ℕ) {f : File} {fs : List File} → Memᴰ f fs → bears s k f ≡ true → 1 ≤ bearers s k fs
some s k (Memᴰ.head e) b = rw (← e, b) (omega arith)
some s k (Memᴰ.tail m) b = let h = some s k m b in omega arith

unique : (s : Slate) (k : ℕ) {f g : File} {fs : List File} → bearers s k fs ≤ 1 → Memᴰ f fs → Memᴰ g fs → bears s k f ≡ true → bears s k g ≡ true → f ≡ g
unique s k h (Memᴰ.head e) (Memᴰ.head e') bf bg = e ∙ sym e'
unique s k h (Memᴰ.head e) (Memᴰ.tail m') bf bg = let i = some s k m' bg in absurd (omega (arith, rw (← e, bf) at h))
unique s k h (Memᴰ.tail m) (Memᴰ.head e') bf bg = let i = some s k m bf in absurd (omega (arith, rw (← e', bg) at h))
unique s k h (Memᴰ.tail m) (Memᴰ.tail m') bf bg = unique s k (omega arith) m m' bf bg

pub apart_agree : (s : Slate) (fs : List File) → Apart s fs → Agree s fs
apart_agree s fs a k f g m n bf bg = ap counts_of (unique s k (a k) m n bf bg)

none_came : (s : Slate) (k : ℕ) (fs : List File) → bearers s k fs ≡ 0 → came s k fs ≡ false
none_came s k [] e = refl
none_came s k (f ∷ fs) e = go (bears s k f) refl (none_came s k fs) e
  where
    go : (b : Bool) → bears s k f ≡ b → (bearers s k fs ≡ 0 → came s k fs ≡ false) → cond b 1 0 + bearers s k fs ≡ 0 → came s k (f ∷ fs) ≡ false
    go true q ih e = absurd (omega arith)
    go false q ih e = rw (q, ih (omega arith))

-- ---- lists

-- a part of a run that is the same throughout
part_replicate : {A : Type 0} (a : A) (m n k : ℕ) → m + n ≤ k → take n (drop m (replicate k a)) ≡ replicate n a
part_replicate a m zero k h = refl
part_replicate a zero (suc n) zero h = absurd (omega arith)
part_replicate a zero (suc n) (suc k) h = ap (λ (l : List _). a ∷ l) (part_replicate a zero n k (omega arith))
part_replicate a (suc m) (suc n) zero h = absurd (omega arith)
part_replicate a (suc m) (suc n) (suc k) h = part_replicate a m (suc n) k (omega arith)

-- a line's counts are among those of the segment that covers it
line_within : (s : Slate) (line : ℕ) → Covers s line (cover_of s line) → (within_of s line - 1) * s.columns + s.columns ≤ size_of s (cover_of s line)
line_within s line g =
    let e : suc (cover_of s line - 1) ≡ cover_of s line = omega (arith, g.some) in
    let m = (rw e at (lines_more s (cover_of s line - 1))) in
    let h : suc (within_of s line - 1) ≤ height_of s (cover_of s line) = omega (arith, g.after, g.upto) in
    rw suc-mul at (mul-le-mul_right s.columns h)

-- ---- the promises, for a good slate and a frame of its size

module _ (s : Slate) (ok : good_slate s ≡ true) (frame : List ℕ) (fits : length frame ≡ frame_size s) where
  -- the record and the frame are the same for every order, and whatever the strip held: of copies it is asked that they agree
  module _ (other : List ℕ) (fits' : length other ≡ frame_size s) where
    pub same_record : {fs gs : List File} → Permᴰ fs gs → (held_after s frame fs).marks ≡ (held_after s other gs).marks
    same_record {fs} {gs} p =
        (closed s ok frame fits fs).marks
        ∙ joined_ext (λ k. came s k fs ∷ []) (λ k. came s k gs ∷ []) 99 (λ k _ _. ap (λ (b : Bool). b ∷ []) (came_perm s k p))
        ∙ sym (closed s ok other fits' gs).marks

    pub same_frame : {fs gs : List File} → Permᴰ fs gs → Agree s fs → (held_after s frame fs).frame ≡ (held_after s other gs).frame
    same_frame {fs} {gs} p a =
        (closed s ok frame fits fs).frame
        ∙ joined_ext (segment s fs) (segment s gs) s.total (λ k _ _. segment_perm s k p a)
        ∙ sym (closed s ok other fits' gs).frame

  -- each file's answer is that of the file alone
  pub same_answers : (fs : List File) → Apart s fs → answers s frame fs ≡ map (alone s) fs
  same_answers [] a = refl
  same_answers (f ∷ fs) a =
      rw (answered s ok frame fits fs f, same_answers fs (λ k. let h = a k in omega arith))
      (ap (λ (x : Ruling). x ∷ map (alone s) fs) (go (judge fine (checks f)) (matching s (facts_of f)) refl refl ∙ tried {ts = checks f ∷ (row (matching s (facts_of f)) 15 0 0 ∷ []) ∷ []} (table refl (table refl last))))
    where
      go : (v : Ruling) (m : Bool) → judge fine (checks f) ≡ v → matching s (facts_of f) ≡ m
          → settle v m (not (came s (facts_of f).number fs)) ≡ checked v m (turned 15 0 0)
      go fine true eg em =
          let n = (facts_of f).number in
          let b = bears_is s n f eg em ∙ eq-eqb n n refl in
          let h = (rw b at (a n)) in
          rw (none_came s n fs (omega arith))
      go fine false eg em = refl
      go (refused t) true eg em = refl
      go (refused t) false eg em = refl

  -- each line of the frame is that line of the segment that covers it
  pub line_held : (fs : List File) (line : ℕ) → 1 ≤ line → line ≤ frame_lines s
      → line_in s (held_after s frame fs).frame line ≡ line_in s (segment s fs (cover_of s line)) (within_of s line)
  line_held fs line a b =
      let g = covers s line (good s ok).cut a b in
      let k = cover_of s line - 1 in
      let r = within_of s line - 1 in
      let c : suc k ≡ cover_of s line = omega (arith, g.some) in
      let p : line - 1 ≡ lines_to s k + r = omega (arith, g.after) in
      let e : (line - 1) * s.columns ≡ lines_to s k * s.columns + r * s.columns = ap (λ (n : ℕ). n * s.columns) p ∙ add-mul (lines_to s k) r s.columns in
      rw ((closed s ok frame fits fs).frame, add-zero ((line - 1) * s.columns), add-zero (r * s.columns), e, ← sizes_lines s k)
      (joined_part (size_of s) (segment s fs) s.total k (r * s.columns) s.columns (segment_length s fs) (omega (arith, g.most)) (rw c (line_within s line g))
      ∙ ap (λ (n : ℕ). take s.columns (drop (r * s.columns) (segment s fs n))) c)

  -- where the segment came, the line is that of any file that brought it
  pub line_came : (fs : List File) (line : ℕ) (f : File) → 1 ≤ line → line ≤ frame_lines s → Agree s fs → Memᴰ f fs → bears s (cover_of s line) f ≡ true
      → line_in s (held_after s frame fs).frame line ≡ line_in s (counts_of f) (within_of s line)
  line_came fs line f a b ag m e = line_held fs line a b ∙ ap (λ (l : List ℕ). line_in s l (within_of s line)) (brought s (cover_of s line) f fs ag m e)

  -- where it never came, it is 65,534 throughout
  pub line_missing : (fs : List File) (line : ℕ) → 1 ≤ line → line ≤ frame_lines s → came s (cover_of s line) fs ≡ false
      → line_in s (held_after s frame fs).frame line ≡ replicate s.columns unwritten
  line_missing fs line a b e =
      let r = within_of s line - 1 in
      line_held fs line a b
      ∙ rw (missing s (cover_of s line) fs e, add-zero (r * s.columns))
      (part_replicate unwritten (r * s.columns) s.columns (size_of s (cover_of s line)) (line_within s line (covers s line (good s ok).cut a b)))

  -- the record marks exactly the numbers that came
  pub in_record : (fs : List File) (k : ℕ) → marked (held_after s frame fs).marks k ≡ came s k fs
  in_record fs k = ap (λ (m : List Bool). marked m k) (closed s ok frame fits fs).marks ∙ marks_marked s ok fs k

  -- and those are the numbers of the placed files
  pub placed_came : (fs : List File) (k : ℕ) → placed k fs (answers s frame fs) ≡ came s k fs
  unfolding bears
  placed_came [] k = refl
  placed_came (f ∷ fs) k =
      rw (placed_came fs k, answered s ok frame fits fs f)
      (go (judge fine (checks f)) (matching s (facts_of f)) (came s k fs) (eqb (facts_of f).number k) refl refl)
    where
      go : (v : Ruling) (m c e : Bool) → came s k fs ≡ c → eqb (facts_of f).number k ≡ e
          → (c || (is_fine (settle v m (not (came s (facts_of f).number fs))) && e)) ≡ (c || (is_fine v && m && e))
      go v m true e qc qe = refl
      go fine true false true qc qe = let h : came s (facts_of f).number fs ≡ false = rw (eqb-true _ k qe) qc in rw h
      go fine true false false qc qe = and-false (is_fine (settle fine true (not (came s (facts_of f).number fs))))
      go fine false false e qc qe = refl
      go (refused t) true false e qc qe = refl
      go (refused t) false false e qc qe = refl

  -- a line that is asked for: the covering segment's if it came, else the leader's; none where the leader is too short
  pub line_asked : (fs : List File) (leader : List ℕ) (line : ℕ) → 1 ≤ line → line ≤ frame_lines s
      → line_of s (held_after s frame fs).marks (held_after s frame fs).frame leader line
      ≡ cond (came s (cover_of s line) fs) (line_in s (segment s fs (cover_of s line)) (within_of s line)) (cond (leb s.columns (length leader)) (take s.columns leader) [])
  unfolding line_of line_good
  line_asked fs leader line a b =
      let c = closed s ok frame fits fs in
      let n : none_above s.total (held_after s frame fs).marks ≡ true = rw c.marks (marks_none s fs) in
      let l : length (held_after s frame fs).frame ≡ frame_size s = rw c.frame (frame_length s fs) in
      rw (ok, le-leb 1 line a, le-leb line (frame_lines s) b, n, eq-eqb _ _ l, in_record fs (cover_of s line), line_held fs line a b)
