-- A slate is good, and a file matches it, exactly where document 01 says so. Assumes nothing.
use Rattle.std.proofs.Common.{◌≡◌, refl, sym, ◌∙◌, ◌↔◌, ⊎_elim, inl, inr, Bool, true, false, ◌&&◌, ◌||◌, ℕ, zero, suc, ◌+◌, ◌-◌, ◌≤◌, ◌<◌, arith, List, [], ◌∷◌, eqb, leb, length, get_or, leb-true, le-leb, eqb-true, eq-eqb}
use Rattle.wire.specs.Wire.{digits}
use Rattle.wire.proofs.Numbers.{length_digits}
use Rattle.calendar.specs.Shots.{good_day, good_timeline}
use Rattle.format.specs.Ranges.{good_area, good_size, good_total}
use Rattle.format.specs.Bands.{good_band}
use Rattle.accept.specs.declared.Facts.{Facts}
use Rattle.slate.specs.declared.Slate.{Slate}
use Rattle.slate.specs.Cut.{lines_to, all_tall, good_cut}
use Rattle.slate.specs.Parts.{shot_parts, cut_parts, parts}
use Rattle.slate.specs.Slates.{good_shot, good_slate, slated, matching, asking}
use Rattle.slate.proofs.Parts.{same_exactly}
use Rattle.tiling.proofs.Lawful.{both, and, either, or_left, or_right, timeline_is, timeline_of, area_is, area_of}
use Rattle.rules.specs.Rules.{Turned, turned, Ruling, fine, refused, judge, here, paper}
use Rattle.rules.proofs.Judge.{exactly, each_is, each_of, holds, first_fails, first_table}
use Rattle.accept.specs.Checks.{checks}
use Rattle.accept.specs.Answers.{facts_of}
use Rattle.frame.specs.Frames.{ready, placing, offering}
use Rattle.frame.specs.Records.{marked, tallied, tally_of}
use Rattle.frame.proofs.offer.Reads as offer
use Rattle.frame.proofs.tally.Reads as tally
use Rattle.assembly.specs.History.{is_fine, bears}
use Rattle.assembly.proofs.Order.{not_so}
use Rattle.promises.specs.Reels.{Own}
use Rattle.promises.specs.Slated.{Good, Match, how_many}
use Rattle.promises.proofs.Heights.{height_is, lines_are, begin_is, tall_exactly}

within : (least n most : ℕ) → (leb least n && leb n most) ≡ true → (least ≤ n) × (n ≤ most)
within least n most e = let h = both (leb least n) (leb n most) e in (leb-true least n h.0, leb-true n most h.1)

between : {least n most : ℕ} → least ≤ n → n ≤ most → (leb least n && leb n most) ≡ true
between a b = and (le-leb _ _ a) (le-leb _ _ b)

-- ---- the match

module _ (s : Slate) (f : Facts) where
  match_is : matching s f ≡ true → Match s f
  unfolding shot_parts cut_parts
  match_is e =
      let h = (same_exactly (parts s f)).0 e in
      let cut = h.1.1.1.1.1 in
      record {
        parts = record {
          satellite = sym h.0;
          day = sym h.1.0;
          timeline = sym h.1.1.0;
          band = sym h.1.1.1.0;
          area = sym h.1.1.1.1.0;
          columns = sym cut.0;
          total = sym cut.1.0;
        };
        lines = sym cut.1.1.0 ∙ height_is s f.number;
        first = sym cut.1.1.1.0 ∙ begin_is s f.number;
      }

  match_of : Match s f → matching s f ≡ true
  unfolding shot_parts cut_parts
  match_of m =
      let p = m.parts in
      (same_exactly (parts s f)).1
      (holds (sym p.satellite)
      (holds (sym p.day)
      (holds (sym p.timeline)
      (holds (sym p.band)
      (holds (sym p.area)
      (holds (sym p.columns)
      (holds (sym p.total)
      (holds (height_is s f.number ∙ sym m.lines)
      (holds (begin_is s f.number ∙ sym m.first) tt)))))))))

  pub match_exactly : (matching s f ≡ true) ↔ Match s f
  match_exactly = (match_is, match_of)

-- ---- a good slate

module _ (s : Slate) where
  good_is : good_slate s ≡ true → Good s
  unfolding good_slate good_cut
  good_is e =
      let satellite = eqb s.satellite 8 || eqb s.satellite 9 in
      let day = good_day s.day in
      let timeline = good_timeline s.timeline in
      let band = good_band s.band in
      let area = good_area (digits 1 4 s.area) in
      let h8 = both (good_shot s && good_size s.columns && good_total s.total) (good_cut s) e in
      let h7 = both (good_shot s && good_size s.columns) (good_total s.total) h8.0 in
      let h6 = both (good_shot s) (good_size s.columns) h7.0 in
      let h5 = both (satellite && day && timeline && band) area h6.0 in
      let h4 = both (satellite && day && timeline) band h5.0 in
      let h3 = both (satellite && day) timeline h4.0 in
      let h2 = both satellite day h3.0 in
      let cut = both (all_tall s s.total) (leb (lines_to s s.total) 22000) h8.1 in
      record {
        parts = record {
          satellite = ⊎_elim (λ q. inl (eqb-true _ _ q)) (λ q. inr (eqb-true _ _ q)) (either (eqb s.satellite 8) (eqb s.satellite 9) h2.0);
          first_day = (within 51544 s.day 88068 h2.1).0;
          last_day = (within 51544 s.day 88068 h2.1).1;
          timeline = timeline_is s.timeline h3.1;
          some_band = (within 1 s.band 16 h4.1).0;
          last_band = (within 1 s.band 16 h4.1).1;
          area = area_is (digits 1 4 s.area) (length_digits _ _ _) h5.1;
          some_columns = (within 1 s.columns 22000 h6.1).0;
          most_columns = (within 1 s.columns 22000 h6.1).1;
          some_total = (within 1 s.total 99 h7.1).0;
          most_total = (within 1 s.total 99 h7.1).1;
        };
        tall = (tall_exactly s s.total).0 cut.0;
        most_lines = rw (← lines_are s s.total) (leb-true _ _ cut.1);
      }

  good_of : Good s → good_slate s ≡ true
  unfolding good_slate good_cut
  good_of g =
      let p = g.parts in
      and
      (and
      (and
      (and
      (and
      (and
      (and (⊎_elim (λ e. or_left _ (eqb s.satellite 9) (eq-eqb _ _ e)) (λ e. or_right (eqb s.satellite 8) _ (eq-eqb _ _ e)) p.satellite) (between p.first_day p.last_day))
      (timeline_of s.timeline p.timeline))
      (between p.some_band p.last_band))
      (area_of (digits 1 4 s.area) p.area))
      (between p.some_columns p.most_columns))
      (between p.some_total p.most_total))
      (and ((tall_exactly s s.total).1 g.tall) (le-leb (lines_to s s.total) 22000 (rw (lines_are s s.total) g.most_lines)))

  pub good_exactly : (good_slate s ≡ true) ↔ Good s
  good_exactly = (good_is, good_of)

  pub not_good : (Good s → ⊥) → good_slate s ≡ false
  not_good h = not_so (good_slate s) (λ e. h (good_exactly.0 e))

-- ---- asking why: the slate's refusal, then the file's own

module _ (s : Slate) (f : List ℕ) where
  pub slate_first : (Good s → ⊥) → judge fine (asking s f) ≡ refused (turned 13 0 0)
  unfolding asking slated
  slate_first h = (first_fails (asking s f) (turned 13 0 0)).1 (here (not_good s h))

  pub then_file : Good s → (u : Turned) → Own f u → judge fine (asking s f) ≡ refused u
  unfolding asking slated
  then_file g u o = (first_fails (asking s f) u).1 (first_table (slated s ∷ []) (checks f) [] (holds (holds ((good_exactly s).1 g) tt) tt) ((first_fails (checks f) u).0 o))

  -- nothing is refused exactly where both are good
  pub both_good : Good s → judge fine (checks f) ≡ fine → judge fine (asking s f) ≡ fine
  unfolding asking slated
  both_good g a = (exactly (asking s f)).1 (each_of (slated s ∷ checks f ∷ []) (holds (holds ((good_exactly s).1 g) tt) (holds ((exactly (checks f)).0 a) tt)))

  pub good_both : judge fine (asking s f) ≡ fine → Good s × (judge fine (checks f) ≡ fine)
  unfolding asking slated
  good_both e = let h = each_is (slated s ∷ checks f ∷ []) ((exactly (asking s f)).0 e) in ((good_exactly s).0 h.0.0, (exactly (checks f)).1 h.1.0)

-- ---- what it is that a file bears a number of a slate, and that it is placed

is_fine_lem : (r : Ruling) → is_fine r ≡ true → r ≡ fine
is_fine_lem fine e = refl
is_fine_lem (refused t) e = absurd (let z : ◌≡◌ {A = ℕ} 0 1 = cc in omega arith)

module _ (s : Slate) (k : ℕ) (f : List ℕ) where
  bears_is : bears s k f ≡ true → (judge fine (checks f) ≡ fine) × Match s (facts_of f) × ((facts_of f).number ≡ k)
  unfolding bears
  bears_is e =
      let h = both (is_fine (judge fine (checks f)) && matching s (facts_of f)) (eqb (facts_of f).number k) e in
      let g = both (is_fine (judge fine (checks f))) (matching s (facts_of f)) h.0 in
      (is_fine_lem _ g.0, (match_exactly s (facts_of f)).0 g.1, eqb-true _ _ h.1)

  bears_of : (judge fine (checks f) ≡ fine) × Match s (facts_of f) × ((facts_of f).number ≡ k) → bears s k f ≡ true
  unfolding bears
  bears_of h = and (and {a = is_fine (judge fine (checks f))} (rw h.0) ((match_exactly s (facts_of f)).1 h.1)) (eq-eqb _ _ h.2)

  pub bears_exactly : (bears s k f ≡ true) ↔ ((judge fine (checks f) ≡ fine) × Match s (facts_of f) × ((facts_of f).number ≡ k))
  bears_exactly = (bears_is, bears_of)

-- a file of which an offer says nothing is wrong is accepted and matches the slate, which is good
pub placed : (κ : _) (a : _) (r : _) (t : _) → offer.Post κ a r t → paper r.verdict ≡ fine
    → Good a.0 × (judge fine (checks a.1.1.1.0.now) ≡ fine) × Match a.0 (facts_of a.1.1.1.0.now)
unfolding offering ready slated placing
placed κ a r t p q =
    let f = a.1.1.1.0.now in
    let e = sym p.0 ∙ q in
    let rows = offering a.0 a.1.0.marks (length a.1.1.0.now) f in
    let h = each_is (ready a.0 a.1.0.marks (length a.1.1.0.now) ∷ checks f ∷ placing a.0 a.1.0.marks f ∷ []) ((exactly rows).0 e) in
    ((good_exactly a.0).0 h.0.0, (exactly (checks f)).1 h.1.0, (match_exactly a.0 (facts_of f)).0 h.1.1.0.0)

-- ---- the record tells how many numbers are marked

pub mark_at : (marks : List Bool) (k : ℕ) → k < 99 → marked marks (k + 1) ≡ get_or marks k false
unfolding marked
mark_at marks k h = let e : k + 1 - 1 ≡ k = omega arith in rw (le-leb 1 (k + 1) (omega arith), le-leb (k + 1) 99 (omega arith), e)

counted : (marks : List Bool) (k n : ℕ) → k + n ≤ 99 → tallied marks k n ≡ how_many marks (k + 1) n
counted marks k zero h = refl
counted marks k (suc n) h = rw (mark_at marks k (omega arith), counted marks (k + 1) n (omega arith))

pub tallies : (κ : _) (a : _) (r : _) (t : _) → tally.Post κ a r t → r ≡ how_many a.0.marks 1 99
unfolding tally_of
tallies κ a r t p = p ∙ counted a.0.marks 0 99 (omega arith)
