-- Ask 7: of an even slate all that document 01 said holds with one height, L. Every promise on slates is over all heights; these put L back.
-- Assumes nothing.
use Rattle.std.proofs.Common.{◌≡◌, sym, ap, ◌∙◌, ◌↔◌, true, List, ℕ, zero, suc, ◌+◌, ◌*◌, ◌-◌, ◌/◌, ◌<◌, ◌≤◌, suc-mul, mod-lt, div-add-mod', div-lt_iff_lt-mul, arith, get_or}
use Rattle.rules.specs.Rules.{fine, judge}
use Rattle.accept.specs.declared.Facts.{Facts}
use Rattle.accept.specs.Checks.{checks}
use Rattle.accept.specs.Answers.{facts_of}
use Rattle.accept.proofs.Known.{known}
use Rattle.slate.specs.declared.Slate.{Slate}
use Rattle.slate.proofs.Slate.size_of.Reads as size_of_reads
use Rattle.slate.proofs.Slate.start_of.Reads as start_of_reads
use Rattle.slate.proofs.Slate.frame_size.Reads as frame_size
use Rattle.slate.proofs.Slate.cover_of.Reads as cover_of_reads
use Rattle.slate.proofs.Slate.matches.Reads as matching
use Rattle.slate.specs.Cut.{cover_of}
use Rattle.assembly.specs.History.{bears, within_of}
use Rattle.promises.specs.Heights.{height, lines_of, Covering, given}
use Rattle.promises.specs.Slated.{Good, Match}
use Rattle.promises.specs.Even.{Even, lines_each, GoodEven, MatchEven}
use Rattle.promises.proofs.Slated.{match_exactly, bears_exactly}
use Rattle.promises.proofs.Heights.{one_covers}
use Rattle.promises.proofs.Cut as cut
use Rattle.promises.proofs.Room.{held}

-- heights that are all l make an even slate, and l is its L
module _ (satellite day timeline band area columns total l : ℕ) (heights : List ℕ) (most : total ≤ 99) (all : (k : ℕ) → k < total → get_or heights k 0 ≡ l) where
  abbrev made : Slate
  made = given satellite day timeline band area columns total heights

  is_l : (k : ℕ) → 1 ≤ k → k ≤ total → height made k ≡ l
  is_l k a b = held satellite day timeline band area columns total heights k most a b ∙ all (k - 1) (omega arith)

  pub even_made : Even made
  even_made j k a b c d = is_l j a b ∙ sym (is_l k c d)

  pub each_made : 1 ≤ total → lines_each made ≡ l
  each_made a = is_l 1 (omega arith) a

module _ (s : Slate) (ev : Even s) where
  each : (k : ℕ) → 1 ≤ k → k ≤ s.total → height s k ≡ lines_each s
  each k a b = ev k 1 a b (omega arith) (omega arith)

  lines : (n : ℕ) → n ≤ s.total → lines_of s n ≡ n * lines_each s
  lines zero b = omega arith
  lines (suc n) b = omega (arith, lines n (omega arith), each (suc n) (omega arith) b, suc-mul n (lines_each s))

  -- where a segment begins
  pub first_line : (k : ℕ) → k ≤ s.total → 1 + lines_of s (k - 1) ≡ 1 + (k - 1) * lines_each s
  first_line k b = rw (lines (k - 1) (omega arith))

  -- which slates are good
  good_is : Good s → GoodEven s
  good_is g =
      let n = g.parts.some_total in
      record { parts = g.parts; some_lines = g.tall 1 (omega arith) n; most_lines = rw (← lines s.total (omega arith)) g.most_lines }

  good_of : GoodEven s → Good s
  good_of g = record { parts = g.parts; tall = λ k a b. rw (each k a b) g.some_lines; most_lines = rw (lines s.total (omega arith)) g.most_lines }

  pub good : Good s ↔ GoodEven s
  good = (good_is, good_of)

  -- which files match: a file's number is at most its total
  module _ (f : Facts) (some : 1 ≤ f.number) (most : f.number ≤ f.total) where
    match_is : Match s f → MatchEven s f
    match_is m =
        let b : f.number ≤ s.total = omega (arith, m.parts.total) in
        record { parts = m.parts; lines = m.lines ∙ each f.number some b; first = m.first ∙ first_line f.number b }

    match_of : MatchEven s f → Match s f
    match_of m =
        let b : f.number ≤ s.total = omega (arith, m.parts.total) in
        record { parts = m.parts; lines = m.lines ∙ sym (each f.number some b); first = m.first ∙ sym (first_line f.number b) }

    pub match : Match s f ↔ MatchEven s f
    match = (match_is, match_of)

  -- an accepted file is a segment of the slate's exactly so
  pub bearing : (k : ℕ) (f : List ℕ) → (bears s k f ≡ true) ↔ ((judge fine (checks f) ≡ fine) × MatchEven s (facts_of f) × ((facts_of f).number ≡ k))
  bearing k f = (
    λ e. let h = (bears_exactly s k f).0 e in let w = known f h.0 in (h.0, (match (facts_of f) w.some w.most).0 h.1, h.2),
    λ h. let w = known f h.0 in (bears_exactly s k f).1 (h.0, (match (facts_of f) w.some w.most).1 h.1, h.2),
  )

  -- the segment that covers a line
  covered : (line k : ℕ) → GoodEven s → 1 ≤ line → line ≤ s.total * lines_each s → Covering s line k → k ≡ (line - 1) / lines_each s + 1
  covered line k g a b c =
      let l = lines_each s in
      let q = (line - 1) / l in
      let t : 1 ≤ l = g.some_lines in
      let m : line - 1 < s.total * l = omega arith in
      let qt : q < s.total = (div-lt_iff_lt-mul t).1 m in
      let d = div-add-mod' (line - 1) l in
      let r = mod-lt (line - 1) t in
      let i : q + 1 - 1 ≡ q = omega arith in
      let before : lines_of s (q + 1 - 1) ≡ q * l = ap (lines_of s) i ∙ lines q (omega arith) in
      one_covers s line k (q + 1) c
      (record {
        some = omega arith;
        most = omega arith;
        begins = omega arith;
        ends = omega (arith, each (q + 1) (omega arith) (omega arith));
      })

  -- and which of its lines that is
  pub within : (line : ℕ) → GoodEven s → 1 ≤ line → line ≤ s.total * lines_each s → within_of s line ≡ line - (line - 1) / lines_each s * lines_each s
  within line g a b =
      let most : line ≤ lines_of s s.total = rw (lines s.total (omega arith)) b in
      let c = cut.covering s (good.1 g) line a most in
      let k = covered line (cover_of s line) g a b c in
      let n : cover_of s line - 1 ≡ (line - 1) / lines_each s = omega arith in
      cut.within s (good.1 g) line a most ∙ ap (λ (m : ℕ). line - m) (ap (lines_of s) n ∙ lines ((line - 1) / lines_each s) (omega (arith, c.most)))

-- ---- so the functions' answers are document 01's formulas

module _ (κ : _) (a : _) (r : _) (t : _) (p : size_of_reads.Post κ a r t) (ev : Even a.0) where
  pub size : 1 ≤ a.1.0 → a.1.0 ≤ a.0.total → r ≡ lines_each a.0 * a.0.columns
  size b c = cut.size κ a r t p ∙ rw (each a.0 ev a.1.0 b c)

module _ (κ : _) (a : _) (r : _) (t : _) (p : start_of_reads.Post κ a r t) (ev : Even a.0) where
  pub start : a.1.0 ≤ a.0.total → r ≡ (a.1.0 - 1) * lines_each a.0 * a.0.columns
  start b = cut.start κ a r t p ∙ rw (lines a.0 ev (a.1.0 - 1) (omega arith))

module _ (κ : _) (a : _) (r : _) (t : _) (p : frame_size.Post κ a r t) (ev : Even a.0) where
  pub whole : r ≡ a.0.total * lines_each a.0 * a.0.columns
  whole = cut.whole κ a r t p ∙ rw (lines a.0 ev a.0.total (omega arith))

module _ (κ : _) (a : _) (r : _) (t : _) (p : cover_of_reads.Post κ a r t) (ev : Even a.0) where
  pub cover : GoodEven a.0 → 1 ≤ a.1.0.0 → a.1.0.0 ≤ a.0.total * lines_each a.0 → r ≡ (a.1.0.0 - 1) / lines_each a.0 + 1
  cover g b c =
      let s = a.0 in
      covered s ev a.1.0.0 r g b c (cut.cover κ a r t p ((good s ev).1 g, b, rw (lines s ev s.total (omega arith)) c))

module _ (κ : _) (a : _) (r : _) (t : _) (p : matching.Post κ a r t) (ev : Even a.0) where
  pub matches : 1 ≤ a.1.0.number → a.1.0.number ≤ a.1.0.total → (r ≡ true) ↔ MatchEven a.0 a.1.0
  matches b c =
      let f = a.1.0 in (
        λ e. (match a.0 ev f b c).0 ((match_exactly a.0 f).0 (sym p ∙ e)),
        λ m. p ∙ (match_exactly a.0 f).1 ((match a.0 ev f b c).1 m),
      )
