-- Ask 6, why a file is not a segment of a slate's frame, in the words of specs/Why: what is said of any slate and any bytes (`Reasoned`), what that means (`Agreed`,
-- `Differed`), and what an offer then answers (`Never`, `Always`). Each theorem is of the functions' own answers: `Post` is a function's contract as its source has it.
-- Assumes nothing.
use Rattle.std.proofs.Common.{◌≡◌, refl, sym, ap, subst, ◌∙◌, ◌↔◌, List, ℕ, length, Option, Some, None, is_none}
use Rattle.rules.specs.Rules.{fine, judge, paper, paper_reply, says}
use Rattle.accept.specs.Answers.{facts_of}
use Rattle.slate.specs.declared.Slate.{Slate}
use Rattle.slate.specs.declared.Difference.{Difference}
use Rattle.slate.specs.Parts.{comparing}
use Rattle.slate.specs.Slates.{asking, reason_of}
use Rattle.slate.proofs.Slate.why.Reads as why
use Rattle.frame.specs.Frames.{offered}
use Rattle.frame.proofs.offer.Reads as offer
use Rattle.plugin.specs.declared.HsdAnswer.{HsdAnswer}
use Rattle.plugin.specs.Plugin.{shown_ruling}
use Rattle.plugin_frames.specs.declared.HsdSlate.{HsdSlate}
use Rattle.plugin_frames.specs.declared.HsdWhy.{HsdWhy}
use Rattle.plugin_frames.specs.Strips.{offered_c}
use Rattle.plugin_frames.proofs.hsd_offer.Reads as hsd_offer
use Rattle.plugin_frames.proofs.hsd_why.Reads as hsd_why
use Rattle.promises.specs.Slated.{Good, slate_from}
use Rattle.promises.specs.Why.{Accepted, Reasoned, Agreed, Differed, Never, Always, rank, ShownWhy, NeverC, AlwaysC}
use Rattle.promises.proofs.Refusals.{reply_fine, why_shows}
use Rattle.promises.proofs.Demand1.{in_asking}
use Rattle.promises.proofs.Slated.{match_exactly}
use Rattle.promises.proofs.Reasons.{one_differs, reasoned, agreed, differed, shown_as, rank_some}
use Rattle.promises.proofs.Offers.{none_above_lem, not_other, other, size_is, never_match, not_other_c, other_c, never_match_c}

-- what an offer of this slate and this file answers
answered : {s : Slate} {f : List ℕ} (κ : _) (a : _) (r : _) (t : _) → offer.Post κ a r t → a.0 ≡ s → a.1.1.1.0.now ≡ f → offered s a.1.0.marks (length a.1.1.0.now) f ≡ paper r.verdict
answered κ a r t p es ef = sym (p.0 ∙ (λ i. offered (es i) a.1.0.marks (length a.1.1.0.now) (ef i)))

module _ (κ : _) (a : _) (r : _) (t : _) (p : why.Post κ a r t) where
  pub reasons : Reasoned (λ x. paper_reply r ≡ x) a.0 a.1.0.now
  reasons = reasoned a.0 a.1.0.now (λ x. paper_reply r ≡ x) p

  pub agrees : paper_reply r ≡ says None → Agreed a.0 a.1.0.now
  agrees e = agreed a.0 a.1.0.now (sym p ∙ e)

  pub differs : {d : Difference} → paper_reply r ≡ says (Some d) → Differed a.0 a.1.0.now d
  differs e = differed a.0 a.1.0.now (sym p ∙ e)

  -- they agree: no offer answers 15
  pub never : paper_reply r ≡ says None → Never a.0 a.1.0.now
  never e κ' o r' t' p' es ef b q z =
      let h = agrees e in
      not_other a.0 a.1.0.now h.slate h.file o.1.0.marks (length o.1.1.0.now) h.match b q (answered κ' o r' t' p' es ef ∙ z)

  -- they differ: every offer that gets so far answers 15
  pub always : {d : Difference} → paper_reply r ≡ says (Some d) → Always a.0 a.1.0.now
  always {d} e κ' o r' t' p' es ef h =
      let w = differs e in
      sym (answered κ' o r' t' p' es ef)
      ∙ other a.0 a.1.0.now w.slate w.file o.1.0.marks (length o.1.1.0.now) (ap is_none (one_differs a.0 a.1.0.now w.first))
      (none_above_lem o.1.0.marks a.0.total w.slate.parts.most_total h.above)
      (size_is a.0 h.frame)

  -- of a good slate and an accepted file "agrees" is said exactly when offering could not answer 15
  pub agrees_exactly : Good a.0 → Accepted a.1.0.now → (paper_reply r ≡ says None) ↔ Never a.0 a.1.0.now
  agrees_exactly g ok = (never, λ h. reasons.agrees g ok ((match_exactly a.0 (facts_of a.1.0.now)).0 (never_match κ.0 a.0 a.1.0 g ok h)))

-- ---- from C

answered_c : {s : HsdSlate} {f : List ℕ} (κ : _) (a : _) (r : _) (t : _) → hsd_offer.Post κ a r t → a.0 ≡ s → a.1.1.1.0.now ≡ f → r ≡ shown_ruling (offered_c s a.1.0.now (length a.1.1.0.now) f)
answered_c κ a r t p es ef = p.0 ∙ (λ i. shown_ruling (offered_c (es i) a.1.0.now (length a.1.1.0.now) (ef i)))

module _ (κ : _) (a : _) (r : _) (t : _) (p : hsd_why.Post κ a r t) where
  shown_so : ShownWhy r (reason_of (slate_from a.0) a.1.0.now)
  shown_so = subst (λ (x : HsdWhy). ShownWhy x (reason_of (slate_from a.0) a.1.0.now)) (sym p) (shown_as (reason_of (slate_from a.0) a.1.0.now))

  pub reasons_c : Reasoned (ShownWhy r) (slate_from a.0) a.1.0.now
  reasons_c = reasoned (slate_from a.0) a.1.0.now (ShownWhy r) shown_so

  -- where C is told of no refusal it is told what comparing says
  told_c : r.refusal ≡ 0 → reason_of (slate_from a.0) a.1.0.now ≡ says (comparing (slate_from a.0) (facts_of a.1.0.now))
  unfolding reason_of
  told_c z = rw (reply_fine why_shows (asking (slate_from a.0) a.1.0.now) (in_asking (slate_from a.0) a.1.0.now) (judge fine (asking (slate_from a.0) a.1.0.now)) (comparing (slate_from a.0) (facts_of a.1.0.now)) refl (ap (λ (w : HsdWhy). w.refusal) (sym p) ∙ z))

  -- no refusal and no part: they agree
  pub agrees_c : r.refusal ≡ 0 → r.part ≡ 0 → Agreed (slate_from a.0) a.1.0.now
  agrees_c z y = go (comparing (slate_from a.0) (facts_of a.1.0.now)) (told_c z) (subst (ShownWhy r) (told_c z) shown_so)
    where
      go : (c : Option Difference) → reason_of (slate_from a.0) a.1.0.now ≡ says c → ShownWhy r (says c) → Agreed (slate_from a.0) a.1.0.now
      go None e h = agreed (slate_from a.0) a.1.0.now e
      go (Some d) e h = absurd (rank_some d.part (sym (ap (λ (w : HsdWhy). w.part) h) ∙ y))

  -- no refusal and a part: it is the first disagreement, with the values told
  pub differs_c : r.refusal ≡ 0 → (r.part ≡ 0 → ⊥) → (d : Difference) × (Differed (slate_from a.0) a.1.0.now d × (r.part ≡ rank d.part) × (r.slate ≡ d.slate) × (r.file ≡ d.file))
  differs_c z y = go (comparing (slate_from a.0) (facts_of a.1.0.now)) (told_c z) (subst (ShownWhy r) (told_c z) shown_so)
    where
      go : (c : Option Difference) → reason_of (slate_from a.0) a.1.0.now ≡ says c → ShownWhy r (says c)
          → (d : Difference) × (Differed (slate_from a.0) a.1.0.now d × (r.part ≡ rank d.part) × (r.slate ≡ d.slate) × (r.file ≡ d.file))
      go None e h = absurd (y (ap (λ (w : HsdWhy). w.part) h))
      go (Some d) e h = (d, (differed (slate_from a.0) a.1.0.now e, ap (λ (w : HsdWhy). w.part) h, ap (λ (w : HsdWhy). w.slate) h, ap (λ (w : HsdWhy). w.file) h))

  pub never_c : r.refusal ≡ 0 → r.part ≡ 0 → NeverC a.0 a.1.0.now
  never_c z y κ' o r' t' p' es ef e =
      let h = agrees_c z y in
      not_other_c a.0 a.1.0.now h.slate h.file o.1.0.now (length o.1.1.0.now) h.match (ap (λ (x : HsdAnswer). x.refusal) (sym (answered_c κ' o r' t' p' es ef)) ∙ e)

  pub always_c : r.refusal ≡ 0 → (r.part ≡ 0 → ⊥) → AlwaysC a.0 a.1.0.now
  unfolding shown_ruling
  always_c z y κ' o r' t' p' es ef h =
      let w = (differs_c z y).1.0 in
      let e = answered_c κ' o r' t' p' es ef ∙ ap shown_ruling (other_c a.0 a.1.0.now w.slate w.file o.1.0.now (length o.1.1.0.now) (ap is_none (one_differs (slate_from a.0) a.1.0.now w.first)) h) in
      (ap (λ (x : HsdAnswer). x.refusal) e, ap (λ (x : HsdAnswer). x.block) e, ap (λ (x : HsdAnswer). x.offset) e)

  pub agrees_exactly_c : Good (slate_from a.0) → Accepted a.1.0.now → ((r.refusal ≡ 0) × (r.part ≡ 0)) ↔ NeverC a.0 a.1.0.now
  agrees_exactly_c g ok = (
    λ h. never_c h.0 h.1,
    λ h. let e = reasons_c.agrees g ok ((match_exactly (slate_from a.0) (facts_of a.1.0.now)).0 (never_match_c κ.0 a.0 a.1.0 g ok h)) in
        (ap (λ (x : HsdWhy). x.refusal) e, ap (λ (x : HsdWhy). x.part) e),
  )
