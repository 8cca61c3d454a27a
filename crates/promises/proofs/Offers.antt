-- Laws of what an offer answers of a good slate and an accepted file. Assumes nothing.
use Rattle.std.proofs.Common.{◌≡◌, refl, sym, ap, ◌∙◌, Bool, true, false, not, List, [], ◌∷◌, ◌++◌, ℕ, zero, suc, ◌+◌, ◌*◌, ◌-◌, ◌≤◌, ◌<◌, arith, eqb, length, get_or, replicate, eq-eqb, le-leb, Err}
use Rattle.std.proofs.Math.ListN.{length-replicate, get_or-replicate}
use base.Fml.{Lft}
use denote.Ref.{Bor, MutBor}
use Rattle.rules.specs.Rules.{turned, Row, row, Ruling, fine, refused, judge, tables, paper}
use Rattle.rules.specs.declared.Why.TheVariants.{OtherShot}
use Rattle.rules.proofs.Judge.{judge_append, judge_refused}
use Rattle.accept.specs.Checks.{checks}
use Rattle.accept.specs.Answers.{facts_of}
use Rattle.slate.specs.declared.Slate.{Slate}
use Rattle.slate.specs.Slates.{slated, frame_size, matching}
use Rattle.frame.specs.declared.Record.{Record}
use Rattle.frame.specs.declared.Held.{Held}
use Rattle.frame.specs.Records.{no_marks, marked, none_above}
use Rattle.frame.specs.Frames.{ready, placing, offering, offered, record_after, frame_after}
use Rattle.frame.proofs.Marking.{pass_all}
use Rattle.frame.proofs.offer.Reads as offer
use Rattle.plugin.specs.Plugin.{shown_ruling}
use Rattle.plugin_frames.specs.declared.HsdSlate.{HsdSlate}
use Rattle.plugin_frames.specs.Strips.{is_bit, bits_from, good_marks, lent, marks_in, offered_c, offer_marks, offer_strip}
use Rattle.plugin_frames.proofs.Lending.{flags_at, lent_good}
use Rattle.plugin_frames.proofs.hsd_offer.Reads as hsd_offer
use Rattle.tiling.proofs.Lawful.{and}
use Rattle.promises.specs.Heights.{lines_of}
use Rattle.promises.specs.Slated.{Good, Match, slate_from}
use Rattle.promises.specs.Night.{answer_of}
use Rattle.promises.specs.Why.{Accepted, Never, SoFarC, NeverC}
use Rattle.promises.proofs.Heights.{whole_is}
use Rattle.promises.proofs.Refusals.{left, shown_number}
use Rattle.promises.proofs.Slated.{good_exactly, match_exactly, mark_at}

-- where all tests of a table hold, it changes no ruling
passed : (v : Ruling) (rs : List Row) → judge fine rs ≡ fine → judge v rs ≡ v
passed fine rs e = e
passed (refused u) rs e = judge_refused u rs

-- record and frame are in order, the file matches, and its number is not in
abbrev four : (x y m z : Bool) → List Row
four x y m z = row x 13 0 0 ∷ row y 14 0 0 ∷ row m 15 0 0 ∷ row z 16 0 0 ∷ []

never_15 : (x y z : Bool) (b p : ℕ) → judge fine (four x y true z) ≡ refused (turned 15 b p) → ⊥
never_15 false y z b p e = let q : ◌≡◌ {A = ℕ} 13 15 = ap answer_of e in omega arith
never_15 true false z b p e = let q : ◌≡◌ {A = ℕ} 14 15 = ap answer_of e in omega arith
never_15 true true false b p e = let q : ◌≡◌ {A = ℕ} 16 15 = ap answer_of e in omega arith
never_15 true true true b p e = let q : ◌≡◌ {A = ℕ} 0 15 = ap answer_of e in omega arith

pub none_above_lem : (marks : List Bool) (total : ℕ) → total ≤ 99 → ((k : ℕ) → total < k → marked marks k ≡ false) → none_above total marks ≡ true
unfolding none_above
none_above_lem marks total l h = pass_all not false marks total (99 - total) (λ i a b. rw (sym (mark_at marks i (omega arith)) ∙ h (i + 1) (omega arith)))

none_at_all : (total : ℕ) → total ≤ 99 → none_above total no_marks ≡ true
unfolding none_above
none_at_all total l = pass_all not false no_marks total (99 - total) (λ i a b. rw (get_or-replicate 99 i false false (omega arith)))

module _ (s : Slate) (f : List ℕ) (g : Good s) (ok : Accepted f) (marks : List Bool) (size : ℕ) where
  -- slate and file are good: these four are left
  left_four : offered s marks size f ≡ judge fine (four (none_above s.total marks) (eqb size (frame_size s)) (matching s (facts_of f)) (not (marked marks (facts_of f).number)))
  unfolding offering ready slated placing
  left_four = rw ((good_exactly s).1 g, judge_append (judge fine (row (none_above s.total marks) 13 0 0 ∷ row (eqb size (frame_size s)) 14 0 0 ∷ [])) (checks f) _, passed _ (checks f) ok)

  pub not_other : Match s (facts_of f) → (b p : ℕ) → offered s marks size f ≡ refused (turned 15 b p) → ⊥
  not_other m b p e = never_15 _ _ _ b p (rw ((match_exactly s (facts_of f)).1 m) at (sym left_four ∙ e))

  pub other : matching s (facts_of f) ≡ false → none_above s.total marks ≡ true → size ≡ frame_size s → offered s marks size f ≡ refused (turned 15 0 0)
  other m n e = left_four ∙ rw (m, n, eq-eqb size (frame_size s) e)

-- ---- some offer answers 15

pub size_is : (s : Slate) {n : ℕ} → n ≡ lines_of s s.total * s.columns → n ≡ frame_size s
size_is s e = e ∙ sym (whole_is s)

-- where a test's failing is absurd it holds
so : (b : Bool) → (b ≡ false → ⊥) → b ≡ true
so true h = refl
so false h = absurd (h refl)

-- An offer to a frame that was just opened: an empty record and a strip of the slate's size, which lies apart from the file.
abbrev fresh : Slate → Bor (List ℕ) → Slate × (Record × (MutBor (List ℕ) × (Bor (List ℕ) × Unit {0})))
fresh s file = (s, (record { marks = no_marks }, (record { ref_ptr = (suc file.ref_ptr.0, 0); ghost_name = 0; now = replicate (frame_size s) 65534 }, (file, tt))))

abbrev told : Held
told = record { verdict = Err (record { why = OtherShot; block = 0; offset = 0 }); rec = record { marks = no_marks } }

offers_fresh : (κ : _) (s : Slate) (file : Bor (List ℕ)) → Good s → Accepted file.now → matching s (facts_of file.now) ≡ false → offer.Post κ (fresh s file) told (fresh s file)
unfolding record_after frame_after
offers_fresh κ s file g ok m =
    let e = other s file.now g ok no_marks _ m (none_at_all s.total g.parts.most_total) (length-replicate {A = ℕ} (frame_size s) 65534) in
    (sym e, (sym (left _ _ _ _ e), sym (left _ _ _ _ e)))

told_15 : paper told.verdict ≡ refused (turned 15 0 0)
told_15 = refl

pub never_match : (κ : Lft) (s : Slate) (file : Bor (List ℕ)) → Good s → Accepted file.now → Never s file.now → matching s (facts_of file.now) ≡ true
never_match κ s file g ok h =
    so (matching s (facts_of file.now)) (λ e. h (κ, (κ, tt)) (fresh s file) told (fresh s file) (offers_fresh (κ, (κ, tt)) s file g ok e) refl refl 0 0 told_15)

-- ---- from C

-- marks that will not do are 13
never_lent : (ok : Bool) (rs : List Row) → ((b p : ℕ) → judge fine rs ≡ refused (turned 15 b p) → ⊥) → (b p : ℕ) → judge fine (tables (lent ok ∷ rs ∷ [])) ≡ refused (turned 15 b p) → ⊥
unfolding lent
never_lent true rs h b p e = h b p (sym (lent_good true rs refl) ∙ e)
never_lent false rs h b p e = let q : ◌≡◌ {A = ℕ} 13 15 = ap answer_of (sym (judge_refused (turned 13 0 0) (rs ++ [])) ∙ e) in omega arith

good_marks_lem : (m : List ℕ) → length m ≡ 99 → ((i : ℕ) → get_or m i 0 ≤ 1) → good_marks m ≡ true
unfolding good_marks bits_from
good_marks_lem m l h = and (eq-eqb (length m) 99 l) (pass_all is_bit 0 m 0 99 (λ i a b. le-leb (get_or m i 0) 1 (h i)))

none_above_c : (m : List ℕ) (total : ℕ) → total ≤ 99 → ((i : ℕ) → total ≤ i → get_or m i 0 ≡ 0) → none_above total (marks_in m) ≡ true
unfolding none_above
none_above_c m total l h = pass_all not false (marks_in m) total (99 - total) (λ i a b. rw (flags_at m 99 i (omega arith), h i a))

module _ (s : HsdSlate) (f : List ℕ) (g : Good (slate_from s)) (ok : Accepted f) (m : List ℕ) (size : ℕ) where
  pub not_other_c : Match (slate_from s) (facts_of f) → (shown_ruling (offered_c s m size f)).refusal ≡ 15 → ⊥
  not_other_c h e =
      shown_number 15 (λ i. omega arith) (offered_c s m size f) e (never_lent (good_marks m) (offering (slate_from s) (marks_in m) size f) (not_other (slate_from s) f g ok (marks_in m) size h))

  pub other_c : matching (slate_from s) (facts_of f) ≡ false → SoFarC s m size → offered_c s m size f ≡ refused (turned 15 0 0)
  other_c h w =
      lent_good (good_marks m) (offering (slate_from s) (marks_in m) size f) (good_marks_lem m w.long w.bits)
      ∙ other (slate_from s) f g ok (marks_in m) size h (none_above_c m s.total g.parts.most_total w.above) (size_is (slate_from s) w.frame)

-- an offer to a frame that was just opened
abbrev fresh_c : HsdSlate → Bor (List ℕ) → HsdSlate × (MutBor (List ℕ) × (MutBor (List ℕ) × (Bor (List ℕ) × Unit {0})))
fresh_c s file = (
  s,
  (
    record { ref_ptr = (suc file.ref_ptr.0, 0); ghost_name = 0; now = replicate 99 0 },
    (record { ref_ptr = (suc (suc file.ref_ptr.0), 0); ghost_name = 1; now = replicate (frame_size (slate_from s)) 65534 }, (file, tt)),
  ),
)

zero_at : (n i : ℕ) → get_or {A = ℕ} (replicate n 0) i 0 ≡ 0
zero_at zero i = refl
zero_at (suc n) zero = refl
zero_at (suc n) (suc i) = zero_at n i

so_far_fresh : (s : HsdSlate) → SoFarC s (replicate 99 0) (length (replicate {A = ℕ} (frame_size (slate_from s)) 65534))
so_far_fresh s = record {
  long = length-replicate {A = ℕ} 99 0;
  bits = λ i. rw (zero_at 99 i) (omega arith);
  above = λ i h. zero_at 99 i;
  frame = length-replicate {A = ℕ} (frame_size (slate_from s)) 65534 ∙ whole_is (slate_from s);
}

offers_fresh_c : (κ : _) (s : HsdSlate) (file : Bor (List ℕ)) → Good (slate_from s) → Accepted file.now → matching (slate_from s) (facts_of file.now) ≡ false
    → hsd_offer.Post κ (fresh_c s file) (record { refusal = 15; block = 0; offset = 0 }) (fresh_c s file)
unfolding shown_ruling offer_marks offer_strip
offers_fresh_c κ s file g ok m =
    let e = other_c s file.now g ok (replicate 99 0) _ m (so_far_fresh s) in
    (sym (ap shown_ruling e), (sym (left _ _ _ _ e), sym (left _ _ _ _ e)))

pub never_match_c : (κ : Lft) (s : HsdSlate) (file : Bor (List ℕ)) → Good (slate_from s) → Accepted file.now → NeverC s file.now → matching (slate_from s) (facts_of file.now) ≡ true
never_match_c κ s file g ok h =
    so (matching (slate_from s) (facts_of file.now))
    (λ e. h (κ, (κ, (κ, tt))) (fresh_c s file) (record { refusal = 15; block = 0; offset = 0 }) (fresh_c s file) (offers_fresh_c (κ, (κ, (κ, tt))) s file g ok e) refl refl refl)
