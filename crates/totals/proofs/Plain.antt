-- Laws for counting without a float for each count.
-- Assumes nothing.
use mathlib.Core.Path.{◌≡◌, refl, sym, ap, ◌∙◌}
use mathlib.Core.Bool.{Bool, true, false, not, cond, ◌&&◌, and-false, false≢true}
use mathlib.Core.List.{List, [], ◌∷◌, ◌++◌}
use Prim.Native.Nat.{ℕ, ◌+◌, ◌*◌, ◌/◌, ◌%◌, ◌^◌, ◌<◌, ◌≤◌}
use native.Mathlib.Nat.{zero-add}
use native.Mathlib.Omega.{arith}
use borrow.Author.Tests.{eqb-true, eqb-false, le-leb, leb-true, leb-false, lt-ltb, le-ltb}
use lib.Dec.{eqb, leb, ltb}
use lib.Ieee.{Float, nan, inf, fin}
use lib.ListN.{length, take, get_or}
use lib.Seq.{take_all}
use Rattle.std.specs.Int.{from_bool}
use Rattle.reading.specs.declared.Reading.{Reading}
use Rattle.reading.specs.declared.Reading.TheVariants.{ErrorPixel, Outside, OverRange}
use Rattle.reading.specs.declared.Calibration.{Calibration}
use Rattle.reading.specs.Counts.{reading_of, if_finite, scaled}
use Rattle.wire.specs.Wire.{num}
use Rattle.frame.specs.Counts.{counts}
use Rattle.frame.proofs.Copying.{counts_at}
use Rattle.totals.specs.declared.Totals.{Totals}
use Rattle.totals.specs.Kinds.{is_radiance, is_error, is_outside, is_over, is_uncalibrated, number, count_readings}
use Rattle.totals.specs.Counting.{Totalled, Limit, Fine, test_error, test_outside, test_over, test_below, Sorted, with_one}
use Rattle.totals.proofs.Number.{number_none, number_step, number_same, Small, small, counts_half, take_whole, number_counts}

abbrev shape : Bool → Bool → Bool → Float → Reading
shape a b c v = cond a ErrorPixel (cond b Outside (cond c OverRange (if_finite v)))

error_shape : (a b c : Bool) (v : Float) → is_error (shape a b c v) ≡ a
error_shape true b c v = refl
error_shape false true c v = refl
error_shape false false true v = refl
error_shape false false false nan = refl
error_shape false false false (inf s) = refl
error_shape false false false (fin s m e) = refl

outside_shape : (a b c : Bool) (v : Float) → is_outside (shape a b c v) ≡ (not a && b)
outside_shape true b c v = refl
outside_shape false true c v = refl
outside_shape false false true v = refl
outside_shape false false false nan = refl
outside_shape false false false (inf s) = refl
outside_shape false false false (fin s m e) = refl

over_shape : (a b c : Bool) (v : Float) → is_over (shape a b c v) ≡ (not a && not b && c)
over_shape true b c v = refl
over_shape false true c v = refl
over_shape false false true v = refl
over_shape false false false nan = refl
over_shape false false false (inf s) = refl
over_shape false false false (fin s m e) = refl

-- what is neither special nor over range is radiance, or else uncalibrated
rest_shape : (a b c : Bool) (v : Float) → is_uncalibrated (shape a b c v) ≡ false → is_radiance (shape a b c v) ≡ (not a && not b && not c)
rest_shape true b c v e = refl
rest_shape false true c v e = refl
rest_shape false false true v e = refl
rest_shape false false false nan e = absurd (false≢true (sym e))
rest_shape false false false (inf s) e = absurd (false≢true (sym e))
rest_shape false false false (fin s m x) e = refl

special_fine : (a b c : Bool) (v : Float) → (not a && not b && not c) ≡ false → is_uncalibrated (shape a b c v) ≡ false
special_fine true b c v e = refl
special_fine false true c v e = refl
special_fine false false true v e = refl
special_fine false false false v e = absurd (false≢true (sym e))

under : (x : ℕ) → x < 65536 → (x ≡ 65535 → ⊥) → (x ≡ 65534 → ⊥) → x < 65534
under x h i j = omega arith

-- a count's tests are the kinds' own rules
module _ (cal : Calibration) (x : ℕ) where
  pub error_is : is_error (reading_of cal x) ≡ test_error x
  error_is = error_shape (eqb x 65535) (eqb x 65534) (leb (2 ^ cal.bits) x) (scaled cal x)

  pub outside_is : is_outside (reading_of cal x) ≡ test_outside x
  outside_is = outside_shape (eqb x 65535) (eqb x 65534) (leb (2 ^ cal.bits) x) (scaled cal x) ∙ go (eqb x 65535) (eqb x 65534) refl refl
    where
      go : (a b : Bool) → eqb x 65535 ≡ a → eqb x 65534 ≡ b → (not a && b) ≡ b
      go true true p q = let i = eqb-true x 65535 p in let j = eqb-true x 65534 q in absurd (omega arith)
      go true false p q = refl
      go false b p q = refl

  pub over_is : (limit : ℕ) → Limit cal.bits limit → x < 65536 → is_over (reading_of cal x) ≡ test_over limit x
  over_is limit l h = over_shape (eqb x 65535) (eqb x 65534) (leb (2 ^ cal.bits) x) (scaled cal x) ∙ go (eqb x 65535) (eqb x 65534) refl refl
    where
      go : (a b : Bool) → eqb x 65535 ≡ a → eqb x 65534 ≡ b → (not a && not b && leb (2 ^ cal.bits) x) ≡ (leb limit x && ltb x 65534)
      go true b p q = let i = eqb-true x 65535 p in rw (le-ltb x 65534 (omega arith)) (sym (and-false (leb limit x)))
      go false true p q = let i = eqb-true x 65534 q in rw (le-ltb x 65534 (omega arith)) (sym (and-false (leb limit x)))
      go false false p q =
          let u = under x h (eqb-false x 65535 p) (eqb-false x 65534 q) in
          rw (l.as_bits x u, lt-ltb x 65534 u) (and_last (leb limit x))
        where
          and_last : (b : Bool) → b ≡ (b && true)
          and_last true = refl
          and_last false = refl

  -- what is not below the limit is never uncalibrated
  pub high_fine : (limit : ℕ) → Limit cal.bits limit → x < 65536 → limit ≤ x → is_uncalibrated (reading_of cal x) ≡ false
  high_fine limit l h m = special_fine (eqb x 65535) (eqb x 65534) (leb (2 ^ cal.bits) x) (scaled cal x) (go (eqb x 65535) (eqb x 65534) refl refl)
    where
      go : (a b : Bool) → eqb x 65535 ≡ a → eqb x 65534 ≡ b → (not a && not b && not (leb (2 ^ cal.bits) x)) ≡ false
      go true b p q = refl
      go false true p q = refl
      go false false p q = rw (l.as_bits x (under x h (eqb-false x 65535 p) (eqb-false x 65534 q)), le-leb limit x m)

  pub fine_is : (limit : ℕ) → Limit cal.bits limit → x < 65536 → Fine cal → is_uncalibrated (reading_of cal x) ≡ false
  unfolding Fine
  fine_is limit l h f = go (leb 65534 x) refl
    where
      go : (b : Bool) → leb 65534 x ≡ b → is_uncalibrated (reading_of cal x) ≡ false
      go false e = f x (leb-false 65534 x e)
      go true e = high_fine limit l h (omega (arith, l.most, leb-true 65534 x e))

  -- where no count is uncalibrated, radiance is what is below the limit
  pub below_is : (limit : ℕ) → Limit cal.bits limit → x < 65536 → Fine cal → is_radiance (reading_of cal x) ≡ test_below limit x
  below_is limit l h f = rest_shape (eqb x 65535) (eqb x 65534) (leb (2 ^ cal.bits) x) (scaled cal x) (fine_is limit l h f) ∙ go (eqb x 65535) (eqb x 65534) refl refl
    where
      go : (a b : Bool) → eqb x 65535 ≡ a → eqb x 65534 ≡ b → (not a && not b && not (leb (2 ^ cal.bits) x)) ≡ ltb x limit
      go true b p q = let i = eqb-true x 65535 p in sym (le-ltb x limit (omega (arith, l.most)))
      go false true p q = let i = eqb-true x 65534 q in sym (le-ltb x limit (omega (arith, l.most)))
      go false false p q = rw (l.as_bits x (under x h (eqb-false x 65535 p) (eqb-false x 65534 q))) (turn (leb limit x) refl)
        where
          turn : (t : Bool) → leb limit x ≡ t → not t ≡ ltb x limit
          turn true e = sym (le-ltb x limit (leb-true limit x e))
          turn false e = sym (lt-ltb x limit (leb-false limit x e))

-- every count below the limit was read
pub fine_done : (cal : Calibration) (limit k : ℕ) → Limit cal.bits limit → limit ≤ k → ((x : ℕ) → x < k → is_uncalibrated (reading_of cal x) ≡ false) → Fine cal
unfolding Fine
fine_done cal limit k l h f x b = go (leb limit x) refl
  where
    go : (t : Bool) → leb limit x ≡ t → is_uncalibrated (reading_of cal x) ≡ false
    go true e = high_fine cal x limit l (omega arith) (leb-true limit x e)
    go false e = f x (omega (arith, leb-false limit x e))

fine_none : (cal : Calibration) (limit : ℕ) → Limit cal.bits limit → Fine cal → (xs : List ℕ) → Small xs → count_readings is_uncalibrated cal xs ≡ 0
unfolding number
fine_none cal limit l f xs s = number_same _ (λ x. false) (λ x h. fine_is cal x limit l h f) xs s ∙ nothing xs
  where
    nothing : (xs : List ℕ) → number (λ x. false) xs ≡ 0
    nothing [] = refl
    nothing (x ∷ xs) = let e = nothing xs in omega arith

-- the four tests' numbers are four of the totals, and no count is uncalibrated
pub all_five : (cal : Calibration) (limit o : ℕ) (s : List ℕ) (e u v b : ℕ) → Limit cal.bits limit → ((k : ℕ) → get_or s k 0 < 256) → Fine cal → Sorted limit (counts o s) e u v b → Totalled cal (counts o s) b e u v 0
all_five cal limit o s e u v b l h f t =
    let m = small o s h in
    record {
      radiance_count = t.below_count ∙ sym (number_same _ _ (λ x i. below_is cal x limit l i f) (counts o s) m);
      error_count = t.error_count ∙ sym (number_same _ _ (λ x i. error_is cal x) (counts o s) m);
      outside_count = t.outside_count ∙ sym (number_same _ _ (λ x i. outside_is cal x) (counts o s) m);
      over_count = t.over_count ∙ sym (number_same _ _ (λ x i. over_is cal x limit l i) (counts o s) m);
      uncalibrated_count = sym (fine_none cal limit l f (counts o s) m);
    }

-- ---- the loops

-- nothing is counted yet
pub sorted_none : (limit : ℕ) → Sorted limit [] 0 0 0 0
sorted_none limit = record { error_count = sym (number_none _ []); outside_count = sym (number_none _ []); over_count = sym (number_none _ []); below_count = sym (number_none _ []) }

one : (b : Bool) → from_bool b ≡ cond b 1 0
one true = refl
one false = refl

-- a count more
pub sorted_next : (limit i : ℕ) (cs : List ℕ) {e u v b e' u' v' b' : ℕ} → i < length cs → Sorted limit (take i cs) e u v b
    → let x = get_or cs i 0 in e' ≡ from_bool (test_error x) → u' ≡ from_bool (test_outside x) → v' ≡ from_bool (test_over limit x) → b' ≡ from_bool (test_below limit x)
    → Sorted limit (take (i + 1) cs) (e + e') (u + u') (v + v') (b + b')
sorted_next limit i cs h s e u v b = record {
  error_count = number_step _ i _ cs _ _ h refl s.error_count (e ∙ one _);
  outside_count = number_step _ i _ cs _ _ h refl s.outside_count (u ∙ one _);
  over_count = number_step _ i _ cs _ _ h refl s.over_count (v ∙ one _);
  below_count = number_step _ i _ cs _ _ h refl s.below_count (b ∙ one _);
}

-- what is found of some bytes before the rest, which are to be counted
pub record Rest (limit o : ℕ) (s rest : List ℕ) (error outside over below : ℕ) : Type 0 where
  pub error_rest : error + number test_error (counts o rest) ≡ number test_error (counts o s)
  pub outside_rest : outside + number test_outside (counts o rest) ≡ number test_outside (counts o s)
  pub over_rest : over + number (test_over limit) (counts o rest) ≡ number (test_over limit) (counts o s)
  pub below_rest : below + number (test_below limit) (counts o rest) ≡ number (test_below limit) (counts o s)

pub rest_begun : (limit o : ℕ) (s rest : List ℕ) → rest ≡ take (length s / 2 * 2) s → Rest limit o s rest 0 0 0 0
rest_begun limit o s rest e =
    let q = ap (counts o) e ∙ take_whole o s in
    record { error_rest = simp zero-add (rw q); outside_rest = simp zero-add (rw q); over_rest = simp zero-add (rw q); below_rest = simp zero-add (rw q) }

-- a piece more
pub rest_next : (limit o : ℕ) (s rest piece more : List ℕ) {e u v b e' u' v' b' : ℕ} → length piece % 2 ≡ 0 → rest ≡ piece ++ more → Sorted limit (counts o piece) e' u' v' b' → Rest limit o s rest e u v b
    → Rest limit o s more (e + e') (u + u') (v + v') (b + b')
rest_next limit o s rest piece more {e} {u} {v} {b} {e'} {u'} {v'} {b'} even parts t r = record {
  error_rest = step test_error e _ t.error_count r.error_rest;
  outside_rest = step test_outside u _ t.outside_count r.outside_rest;
  over_rest = step (test_over limit) v _ t.over_count r.over_rest;
  below_rest = step (test_below limit) b _ t.below_count r.below_rest;
}
  where
    step : (p : ℕ → Bool) (n n' : ℕ) → n' ≡ number p (counts o piece) → n + number p (counts o rest) ≡ number p (counts o s) → n + n' + number p (counts o more) ≡ number p (counts o s)
    step p n n' a c = let q = ap (λ (x : List ℕ). number p (counts o x)) parts ∙ number_counts p o piece more even in omega arith

pub rest_done : (limit o : ℕ) (s rest : List ℕ) {e u v b : ℕ} → length rest ≡ 0 → Rest limit o s rest e u v b → Sorted limit (counts o s) e u v b
rest_done limit o s [] {e} {u} {v} {b} h r = record { error_count = done test_error e r.error_rest; outside_count = done test_outside u r.outside_rest; over_count = done (test_over limit) v r.over_rest; below_count = done (test_below limit) b r.below_rest }
  where
    done : (p : ℕ → Bool) (n : ℕ) → n + number p [] ≡ number p (counts o s) → n ≡ number p (counts o s)
    done p n c = omega (arith, number_none p [])
rest_done limit o s (x ∷ rest) h r = absurd (omega arith)

pub totalled_none : (cal : Calibration) → Totalled cal [] 0 0 0 0 0
totalled_none cal = record { radiance_count = sym (number_none _ []); error_count = sym (number_none _ []); outside_count = sym (number_none _ []); over_count = sym (number_none _ []); uncalibrated_count = sym (number_none _ []) }

-- a count more
pub totalled_next : (cal : Calibration) (o i : ℕ) (s : List ℕ) (t : Totals) → i < length s / 2 → Totalled cal (take i (counts o s)) t.radiance t.error t.outside t.over t.uncalibrated
    → let x = num o (get_or s (i * 2) 0 ∷ get_or s (i * 2 + 1) 0 ∷ []) in let n = with_one t (reading_of cal x) in Totalled cal (take (i + 1) (counts o s)) n.radiance n.error n.outside n.over n.uncalibrated
totalled_next cal o i s t h k =
    let cs = counts o s in
    let l : i < length cs = omega (arith, counts_half o s) in
    let e = sym (counts_at o s i (omega arith)) in
    record {
      radiance_count = number_step _ i _ cs _ _ l e k.radiance_count refl;
      error_count = number_step _ i _ cs _ _ l e k.error_count refl;
      outside_count = number_step _ i _ cs _ _ l e k.outside_count refl;
      over_count = number_step _ i _ cs _ _ l e k.over_count refl;
      uncalibrated_count = number_step _ i _ cs _ _ l e k.uncalibrated_count refl;
    }

pub totalled_all : (cal : Calibration) (o i : ℕ) (s : List ℕ) {a b c d e : ℕ} → length s / 2 ≤ i → Totalled cal (take i (counts o s)) a b c d e → Totalled cal (counts o s) a b c d e
totalled_all cal o i s h t = (rw (take_all i (counts o s) (omega (arith, counts_half o s))) at t)
