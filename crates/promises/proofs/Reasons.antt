-- Laws of what is said: the first disagreement of a list of parts, and the refusals before it.
-- Assumes nothing.
use Rattle.std.proofs.Common.{◌≡◌, refl, sym, ap, subst, ◌∙◌, Bool, true, false, cond, List, [], ◌∷◌, ℕ, arith, eqb, eqb-true, eq-eqb, ne_eqb, Option, Some, None, is_none}
use borrow.Author.Tests.{eqb-false}
use Rattle.rules.specs.Rules.{turned, fine, judge, Reply, says, refuses}
use Rattle.rules.proofs.Judge.{said}
use Rattle.accept.specs.declared.Facts.{Facts}
use Rattle.accept.specs.Answers.{facts_of}
use Rattle.slate.specs.declared.Slate.{Slate}
use Rattle.slate.specs.declared.Part.{Part}
use Rattle.slate.specs.declared.Part.TheVariants.{Satellite, Day, Timeline, Band, Area, Columns, Total, Lines, FirstLine}
use Rattle.slate.specs.declared.Difference.{Difference}
use Rattle.slate.proofs.Parts.{compare_differs}
use Rattle.slate.specs.Parts.{Sides, sides, compare_all, shot_parts, cut_parts, parts, comparing}
use Rattle.slate.specs.Slates.{asking, reason_of}
use Rattle.plugin_frames.specs.Reasons.{shown_reason}
use Rattle.promises.specs.Slated.{Match}
use Rattle.promises.specs.Why.{nine, Disagreement, Reasoned, Agreed, Differed, rank, ShownWhy}
use Rattle.promises.specs.Why as words
use Rattle.promises.proofs.Heights.{height_is, begin_is}
use Rattle.promises.proofs.Slated.{match_exactly, slate_first, then_file, both_good, good_both}

-- ---- the first disagreement

first_is : (ps : List Sides) (d : Difference) → compare_all None ps ≡ Some d → Disagreement ps d
first_is [] d e = absurd (let z : ◌≡◌ {A = ℕ} 0 1 = cc in omega arith)
first_is (sides part slate file ∷ ps) d e = go (eqb slate file) refl (first_is ps d) e
  where
    told : Difference
    told = record { part = part; slate = slate; file = file }

    go : (b : Bool) → eqb slate file ≡ b → (compare_all None ps ≡ Some d → Disagreement ps d) → compare_all (cond b None (Some told)) ps ≡ Some d → Disagreement (sides part slate file ∷ ps) d
    go true q ih e = words.later (eqb-true slate file q) (ih e)
    go false q ih e =
        let f : Some told ≡ Some d = sym (compare_differs told ps) ∙ e in
        let z : told ≡ d = cc in
        rw (← z) (words.here (eqb-false slate file q))

first_differs : {ps : List Sides} {d : Difference} → Disagreement ps d → compare_all None ps ≡ Some d
first_differs (words.here {part} {slate} {file} {ps} h) = rw (ne_eqb slate file h) (compare_differs _ ps)
first_differs (words.later {slate = slate} {file = file} e f) = rw (eq-eqb slate file e) (first_differs f)

nine_are : (s : Slate) (f : Facts) → parts s f ≡ nine s f
unfolding shot_parts cut_parts
nine_are s f = rw (height_is s f.number, begin_is s f.number)

agrees_is : (c : Option Difference) → is_none c ≡ true → c ≡ None
agrees_is None e = refl
agrees_is (Some d) e = absurd (let z : ◌≡◌ {A = ℕ} 0 1 = cc in omega arith)

-- ---- what is said

module _ (s : Slate) (f : List ℕ) where
  pub all_agree : Match s (facts_of f) → comparing s (facts_of f) ≡ None
  all_agree m = agrees_is (comparing s (facts_of f)) ((match_exactly s (facts_of f)).1 m)

  pub one_differs : {d : Difference} → Disagreement (nine s (facts_of f)) d → comparing s (facts_of f) ≡ Some d
  one_differs h = rw (nine_are s (facts_of f)) (first_differs h)

  pub reasoned : (Says : Reply (Option Difference) → Type 0) → Says (reason_of s f) → Reasoned Says s f
  unfolding reason_of
  reasoned Says h = record {
    bad = λ b. (rw (slate_first s f b) at h);
    own = λ g u o. (rw (then_file s f g u o) at h);
    agrees = λ g a m. (rw (both_good s f g a, all_agree m) at h);
    differs = λ g a d q. (rw (both_good s f g a, one_differs q) at h);
  }

  pub agreed : reason_of s f ≡ says None → Agreed s f
  unfolding reason_of
  agreed e =
      let r = said (judge fine (asking s f)) (comparing s (facts_of f)) None e in
      let g = good_both s f r.0 in
      record { slate = g.0; file = g.1; match = (match_exactly s (facts_of f)).0 (ap is_none r.1) }

  pub differed : {d : Difference} → reason_of s f ≡ says (Some d) → Differed s f d
  unfolding reason_of
  differed {d} e =
      let r = said (judge fine (asking s f)) (comparing s (facts_of f)) (Some d) e in
      let g = good_both s f r.0 in
      record { slate = g.0; file = g.1; first = subst (λ (ps : List Sides). Disagreement ps d) (nine_are s (facts_of f)) (first_is (parts s (facts_of f)) d r.1) }

-- ---- in C's numbers

pub shown_as : (x : Reply (Option Difference)) → ShownWhy (shown_reason x) x
unfolding shown_reason
shown_as (says None) = refl
shown_as (says (Some d)) = refl
shown_as (refuses (turned n b p)) = refl

pub rank_some : (p : Part) → rank p ≡ 0 → ⊥
rank_some Satellite e = omega arith
rank_some Day e = omega arith
rank_some Timeline e = omega arith
rank_some Band e = omega arith
rank_some Area e = omega arith
rank_some Columns e = omega arith
rank_some Total e = omega arith
rank_some Lines e = omega arith
rank_some FirstLine e = omega arith
