-- Ask 7: a slate is made of its N heights, and what stands beyond the Nth changes no answer. Assumes nothing.
use Rattle.std.proofs.Common.{◌≡◌, refl, sym, ap, subst, ◌∙◌, Bool, true, false, cond, List, [], ◌∷◌, ℕ, ◌-◌, ◌≤◌, arith, le-leb, ltb-true, lt-ltb, ltb, length, get_or}
use Rattle.wire.specs.Wire.{tab}
use Rattle.wire.proofs.Rows.{get_or_tab}
use Rattle.rules.specs.Rules.{turned, Ruling, fine, refused, judge, here, after, tables, paper}
use Rattle.rules.proofs.Judge.{exactly, holds, first_fails}
use Rattle.slate.specs.declared.Slate.{Slate}
use Rattle.slate.specs.declared.Slated.{Slated}
use Rattle.slate.specs.Slates.{slated, blank, SlatedAs, reason_of}
use Rattle.slate.proofs.Paper.{slated_one}
use Rattle.slate.proofs.Slate.new.Reads as new
use Rattle.frame.specs.Records.{no_marks}
use Rattle.frame.specs.Frames.{opening, open_frame, offering, record_after, frame_after}
use Rattle.frame.specs.Lines.{line_of}
use Rattle.plugin.specs.Plugin.{shown_ruling}
use Rattle.plugin_frames.specs.declared.HsdSlate.{HsdSlate}
use Rattle.plugin_frames.specs.Reasons.{shown_reason}
use Rattle.plugin_frames.specs.Strips.{long_marks, good_marks, lent, marks_in, marks_out, open_marks, open_strip, offer_marks, offer_strip, line_c, copied_of, copy_of}
use Rattle.plugin_frames.proofs.hsd_open.Reads as hsd_open
use Rattle.plugin_frames.proofs.hsd_offer.Reads as hsd_offer
use Rattle.plugin_frames.proofs.hsd_line.Reads as hsd_line
use Rattle.plugin_frames.proofs.hsd_why.Reads as hsd_why
use Rattle.promises.specs.Heights.{height, given, SameTo, SameBut}
use Rattle.promises.specs.Slated.{Good, Makes, slate_from}
use Rattle.promises.proofs.Slated.{good_exactly, not_good}

no_slate : Good blank → ⊥
unfolding blank
no_slate g = omega (arith, g.parts.some_total)

makes : (s : Slate) (r : Slated) → SlatedAs s r → Makes s r
unfolding slated after
makes s r p = record { made = λ g. good_so ((exactly (slated s)).1 (holds ((good_exactly s).1 g) tt)); refused = λ b. bad_so ((first_fails (slated s) (turned 13 0 0)).1 (here (not_good s b))) }
  where
    good_so : judge fine (slated s) ≡ fine → (paper r.verdict ≡ fine) × (r.slate ≡ s)
    good_so e = (p.says ∙ e, p.is ∙ rw e)

    bad_so : judge fine (slated s) ≡ refused (turned 13 0 0) → (paper r.verdict ≡ refused (turned 13 0 0)) × (Good r.slate → ⊥)
    bad_so e = (p.says ∙ e, λ g. no_slate (subst Good (p.is ∙ rw e) g))

pub made : (κ : _) (a : _) (r : _) (t : _) → new.Post κ a r t
    → Makes (given a.0 a.1.0 a.1.1.0 a.1.1.1.0 a.1.1.1.1.0 a.1.1.1.1.1.0 a.1.1.1.1.1.1.0 a.1.1.1.1.1.1.1.0) r
made κ a r t p = makes _ r p

-- what is made of given parts holds the N heights that were given
pub held : (satellite day timeline band area columns total : ℕ) (heights : List ℕ) (k : ℕ) → total ≤ 99 → 1 ≤ k → k ≤ total
    → height (given satellite day timeline band area columns total heights) k ≡ get_or heights (k - 1) 0
held satellite day timeline band area columns total heights k m a b =
    let f : ℕ → ℕ = λ i. cond (ltb i total) (get_or heights i 0) 0 in
    rw (le-leb 1 k a, le-leb k 99 (omega arith)) (get_or_tab f 99 (k - 1) (omega arith) ∙ rw (lt-ltb (k - 1) total (omega arith)))

-- ---- what stands beyond the Nth height changes no answer

kept_same : (n : ℕ) (xs ys : List ℕ) → SameTo n xs ys → tab (λ k. cond (ltb k n) (get_or xs k 0) 0) 99 ≡ tab (λ k. cond (ltb k n) (get_or ys k 0) 0) 99
kept_same n xs ys e = λ i. tab (λ k. at k i) 99
  where
    at : (k : ℕ) → cond (ltb k n) (get_or xs k 0) 0 ≡ cond (ltb k n) (get_or ys k 0) 0
    at k = go (ltb k n) refl
      where
        go : (b : Bool) → ltb k n ≡ b → cond b (get_or xs k 0) 0 ≡ cond b (get_or ys k 0) 0
        go true q = e k (ltb-true k n q)
        go false q = refl

-- a slate is made the same, and every other function takes the slate that was made
pub ignored : (κ κ' : _) (a : _) (ys : List ℕ) (r r' : _) (t t' : _) → new.Post κ a r t
    → new.Post κ' (a.0, (a.1.0, (a.1.1.0, (a.1.1.1.0, (a.1.1.1.1.0, (a.1.1.1.1.1.0, (a.1.1.1.1.1.1.0, (ys, tt)))))))) r' t'
    → SameTo a.1.1.1.1.1.1.0 a.1.1.1.1.1.1.1.0 ys → r ≡ r'
ignored κ κ' a ys r r' t t' p q e =
    slated_one r r' p (subst (λ (h : List ℕ). SlatedAs (record { satellite = a.0; day = a.1.0; timeline = a.1.1.0; band = a.1.1.1.0; area = a.1.1.1.1.0; columns = a.1.1.1.1.1.0; total = a.1.1.1.1.1.1.0; heights = h }) r') (sym (kept_same a.1.1.1.1.1.1.0 a.1.1.1.1.1.1.1.0 ys e)) q)

-- from C: the four functions that take a slate
same_slate : (s z : HsdSlate) → SameBut s z → slate_from s ≡ slate_from z
same_slate s z e = λ i. record {
  satellite = e.satellite i;
  day = e.day i;
  timeline = e.timeline i;
  band = e.band i;
  area = e.area i;
  columns = e.columns i;
  total = e.total i;
  heights = (kept_same s.total s.heights z.heights e.heights ∙ ap (λ (n : ℕ). tab (λ k. cond (ltb k n) (get_or z.heights k 0) 0) 99) e.total) i;
}

pub ignored_open : (κ κ' : _) (a b : _) (r r' : _) (t t' : _) → hsd_open.Post κ a r t → hsd_open.Post κ' b r' t' → SameBut a.0 b.0
    → a.1.0.now ≡ b.1.0.now → a.1.1.0.now ≡ b.1.1.0.now
    → (r ≡ r') × (t.1.0.now ≡ t'.1.0.now) × (t.1.1.0.now ≡ t'.1.1.0.now)
unfolding open_marks open_strip
ignored_open κ κ' a b r r' t t' p q e em ef =
    let s = same_slate a.0 b.0 e in
    let m = b.1.0.now in
    let f = b.1.1.0.now in
    let said : Slate → Ruling = λ x. judge fine (tables (lent (long_marks m) ∷ opening x (length f) ∷ [])) in (
      p.0 ∙ rw (em, ef) (ap (λ (x : Slate). shown_ruling (said x)) s) ∙ sym q.0,
      p.1.0 ∙ rw (em, ef) (ap (λ (x : Slate). after (said x) m (marks_out no_marks)) s) ∙ sym q.1.0,
      p.1.1 ∙ rw (em, ef) (ap (λ (x : Slate). after (said x) f (open_frame x f)) s) ∙ sym q.1.1,
    )

pub ignored_offer : (κ κ' : _) (a b : _) (r r' : _) (t t' : _) → hsd_offer.Post κ a r t → hsd_offer.Post κ' b r' t' → SameBut a.0 b.0
    → a.1.0.now ≡ b.1.0.now → a.1.1.0.now ≡ b.1.1.0.now → a.1.1.1.0.now ≡ b.1.1.1.0.now
    → (r ≡ r') × (t.1.0.now ≡ t'.1.0.now) × (t.1.1.0.now ≡ t'.1.1.0.now)
unfolding offer_marks offer_strip
ignored_offer κ κ' a b r r' t t' p q e em ef eg =
    let s = same_slate a.0 b.0 e in
    let m = b.1.0.now in
    let f = b.1.1.0.now in
    let g = b.1.1.1.0.now in
    let said : Slate → Ruling = λ x. judge fine (tables (lent (good_marks m) ∷ offering x (marks_in m) (length f) g ∷ [])) in (
      p.0 ∙ rw (em, ef, eg) (ap (λ (x : Slate). shown_ruling (said x)) s) ∙ sym q.0,
      p.1.0 ∙ rw (em, ef, eg) (ap (λ (x : Slate). after (said x) m (marks_out (record_after x (marks_in m) (length f) g))) s) ∙ sym q.1.0,
      p.1.1 ∙ rw (em, ef, eg) (ap (λ (x : Slate). after (said x) f (frame_after x (marks_in m) f g)) s) ∙ sym q.1.1,
    )

pub ignored_line : (κ κ' : _) (a b : _) (r r' : _) (t t' : _) → hsd_line.Post κ a r t → hsd_line.Post κ' b r' t' → SameBut a.0 b.0
    → a.1.0.now ≡ b.1.0.now → a.1.1.0.now ≡ b.1.1.0.now → a.1.1.1.0.now ≡ b.1.1.1.0.now → a.1.1.1.1.0 ≡ b.1.1.1.1.0
    → a.1.1.1.1.1.0.now ≡ b.1.1.1.1.1.0.now
    → (r ≡ r') × (t.1.1.1.1.1.0.now ≡ t'.1.1.1.1.1.0.now)
unfolding line_c
ignored_line κ κ' a b r r' t t' p q e em ef el en eo =
    let s = same_slate a.0 b.0 e in
    let m = b.1.0.now in
    let part : Slate → List ℕ = λ x. cond (good_marks m) (line_of x (marks_in m) b.1.1.0.now b.1.1.1.0.now b.1.1.1.1.0) [] in
    let out = b.1.1.1.1.1.0.now in (
      p.0 ∙ rw (em, ef, el, en, eo) (ap (λ (x : Slate). copied_of (part x) out) s) ∙ sym q.0,
      p.1 ∙ rw (em, ef, el, en, eo) (ap (λ (x : Slate). copy_of (part x) out) s) ∙ sym q.1,
    )

pub ignored_why : (κ κ' : _) (a b : _) (r r' : _) (t t' : _) → hsd_why.Post κ a r t → hsd_why.Post κ' b r' t' → SameBut a.0 b.0 → a.1.0.now ≡ b.1.0.now → r ≡ r'
ignored_why κ κ' a b r r' t t' p q e ef = p ∙ rw ef (ap (λ (x : Slate). shown_reason (reason_of x b.1.0.now)) (same_slate a.0 b.0 e)) ∙ sym q
