-- Quality flag 1: with its top bit set the other seven marks are not known, with it clear they stand as before; for C in its numbers.
-- Assumes nothing; a byte is given by its bits, and every byte has them (`every_byte`).
use Rattle.std.proofs.Common.{ℕ, zero, suc, ◌+◌, ◌*◌, ◌/◌, ◌%◌, ◌≤◌, ◌≡◌, refl, sym, ap, ◌∙◌, Bool, true, false, cond, List, eqb, arith, ne_eqb}
use Rattle.wire.specs.Wire.{Bytes}
use Rattle.rules.specs.Rules.{Verdict}
use Rattle.header.specs.declared.Header.{Header}
use Rattle.header.specs.Encode.{Entries}
use Rattle.reading.specs.declared.Mark.{Mark}
use Rattle.reading.specs.declared.Mark.TheVariants.{No, Yes, NotKnown}
use Rattle.reading.specs.declared.Marks.{Marks}
use Rattle.reading.specs.Quality.{mark_of, lit_marks, disowned, marks_of}
use Rattle.reading.proofs.marks_of.Reads as marks_of_reads
use Rattle.plugin.specs.Plugin.{shown_mark, shown_marks}
use Rattle.plugin.proofs.hsd_accept.Reads as hsd_accept
use Rattle.plugin.proofs.hsd_quality.Reads as hsd_quality
use Rattle.promises.specs.Quality.{Eight, byte_of, saying, eight_marks, eight_numbers}
use Rattle.promises.specs.Calls.{Read}
use Rattle.promises.proofs.Demand2.{accepted_from_c}

-- ---- a byte and its bits

abbrev bit : Bool → ℕ
bit x = cond x 1 0

small : (x : Bool) → bit x ≤ 1
small true = omega arith
small false = omega arith

weighs : (w : ℕ) (x : Bool) → cond x w 0 ≡ w * bit x
weighs w true = omega arith
weighs w false = omega arith

weighed : (b : Eight Bool) → byte_of b
    ≡ 128 * bit b.invalid + 64 * bit b.sun + 32 * bit b.moon + 16 * bit b.test + 8 * bit b.manoeuvre + 4 * bit b.unloading + 2 * bit b.solar_calibration + bit b.eclipse
weighed b = λ i. weighs 128 b.invalid i + weighs 64 b.sun i + weighs 32 b.moon i + weighs 16 b.test i + weighs 8 b.manoeuvre i + weighs 4 b.unloading i
    + weighs 2 b.solar_calibration i + bit b.eclipse

-- each digit to the base of two is its bit
record Digits (n : ℕ) (b : Eight Bool) : Type 0 where
  invalid : n / 128 % 2 ≡ bit b.invalid
  sun : n / 64 % 2 ≡ bit b.sun
  moon : n / 32 % 2 ≡ bit b.moon
  test : n / 16 % 2 ≡ bit b.test
  manoeuvre : n / 8 % 2 ≡ bit b.manoeuvre
  unloading : n / 4 % 2 ≡ bit b.unloading
  solar_calibration : n / 2 % 2 ≡ bit b.solar_calibration
  eclipse : n % 2 ≡ bit b.eclipse

digits : (b : Eight Bool) → Digits (byte_of b) b
digits b =
    let p = small b.invalid in
    let q = small b.sun in
    let r = small b.moon in
    let s = small b.test in
    let t = small b.manoeuvre in
    let u = small b.unloading in
    let v = small b.solar_calibration in
    let w = small b.eclipse in
    let e = weighed b in
    record {
      invalid = omega arith;
      sun = omega arith;
      moon = omega arith;
      test = omega arith;
      manoeuvre = omega arith;
      unloading = omega arith;
      solar_calibration = omega arith;
      eclipse = omega arith;
    }

-- the bits of a byte
abbrev bits_of : ℕ → Eight Bool
bits_of n = record {
  invalid = eqb (n / 128 % 2) 1;
  sun = eqb (n / 64 % 2) 1;
  moon = eqb (n / 32 % 2) 1;
  test = eqb (n / 16 % 2) 1;
  manoeuvre = eqb (n / 8 % 2) 1;
  unloading = eqb (n / 4 % 2) 1;
  solar_calibration = eqb (n / 2 % 2) 1;
  eclipse = eqb (n % 2) 1;
}

weighs_digit : (w d : ℕ) → d ≤ 1 → cond (eqb d 1) w 0 ≡ w * d
weighs_digit w zero h = omega arith
weighs_digit w (suc zero) h = omega arith
weighs_digit w (suc (suc d)) h = absurd (omega arith)

-- the rest below each bit is the next bit and the rest below that
rests : (n : ℕ) → (n % 128 ≡ 64 * (n / 64 % 2) + n % 64) × (n % 64 ≡ 32 * (n / 32 % 2) + n % 32) × (n % 32 ≡ 16 * (n / 16 % 2) + n % 16)
    × (n % 16 ≡ 8 * (n / 8 % 2) + n % 8) × (n % 8 ≡ 4 * (n / 4 % 2) + n % 4) × (n % 4 ≡ 2 * (n / 2 % 2) + n % 2)
rests n = (omega arith, omega arith, omega arith, omega arith, omega arith, omega arith)

added : (n a b c d e f g h r₇ r₆ r₅ r₄ r₃ r₂ : ℕ) → n ≡ 128 * a + r₇ → r₇ ≡ 64 * b + r₆ → r₆ ≡ 32 * c + r₅ → r₅ ≡ 16 * d + r₄ → r₄ ≡ 8 * e + r₃ → r₃ ≡ 4 * f + r₂ → r₂ ≡ 2 * g + h
    → 128 * a + 64 * b + 32 * c + 16 * d + 8 * e + 4 * f + 2 * g + 1 * h ≡ n
added n a b c d e f g h r₇ r₆ r₅ r₄ r₃ r₂ p q r s t u v = omega arith

digit_most : (m : ℕ) → m % 2 ≤ 1
digit_most m = omega arith

top_rest : (n : ℕ) → n ≤ 255 → n ≡ 128 * (n / 128 % 2) + n % 128
top_rest n h = omega arith

-- every byte is the byte of some bits: what is said below is said of all
pub every_byte : (n : ℕ) → n ≤ 255 → byte_of (bits_of n) ≡ n
every_byte n h =
    let x : (w m : ℕ) → cond (eqb (m % 2) 1) w 0 ≡ w * (m % 2) = λ w m. weighs_digit w (m % 2) (digit_most m) in
    let s = rests n in
    (λ i. x 128 (n / 128) i + x 64 (n / 64) i + x 32 (n / 32) i + x 16 (n / 16) i + x 8 (n / 8) i + x 4 (n / 4) i + x 2 (n / 2) i + x 1 n i)
    ∙ added n (n / 128 % 2) (n / 64 % 2) (n / 32 % 2) (n / 16 % 2) (n / 8 % 2) (n / 4 % 2) (n / 2 % 2) (n % 2) (n % 128) (n % 64) (n % 32) (n % 16) (n % 8) (n % 4)
    (top_rest n h) s.0 s.1 s.2 s.3 s.4 s.5

-- ---- the marks

mark_of_lem : (x : Bool) → mark_of (bit x) ≡ cond x Yes No
mark_of_lem true = refl
mark_of_lem false = refl

-- the definition, by bits
chosen : (top : Bool) (b : Eight Bool) → b.invalid ≡ top → eight_marks (cond (eqb (bit top) 1) disowned (lit_marks (byte_of b))) ≡ saying No Yes NotKnown b
unfolding lit_marks
chosen true b e =
    let other : (x : Bool) → NotKnown ≡ cond b.invalid NotKnown (cond x Yes No) = λ x. rw e refl in
    λ i. record {
      invalid = sym (ap (λ (x : Bool). cond x Yes No) e) i;
      sun = other b.sun i;
      moon = other b.moon i;
      test = other b.test i;
      manoeuvre = other b.manoeuvre i;
      unloading = other b.unloading i;
      solar_calibration = other b.solar_calibration i;
      eclipse = other b.eclipse i;
    }
chosen false b e =
    let d = digits b in
    let other : (n : ℕ) (x : Bool) → n ≡ bit x → mark_of n ≡ cond b.invalid NotKnown (cond x Yes No) = λ n x h. ap mark_of h ∙ mark_of_lem x ∙ rw e refl in
    λ i. record {
      invalid = (ap mark_of d.invalid ∙ mark_of_lem b.invalid) i;
      sun = other (byte_of b / 64 % 2) b.sun d.sun i;
      moon = other (byte_of b / 32 % 2) b.moon d.moon i;
      test = other (byte_of b / 16 % 2) b.test d.test i;
      manoeuvre = other (byte_of b / 8 % 2) b.manoeuvre d.manoeuvre i;
      unloading = other (byte_of b / 4 % 2) b.unloading d.unloading i;
      solar_calibration = other (byte_of b / 2 % 2) b.solar_calibration d.solar_calibration i;
      eclipse = other (byte_of b % 2) b.eclipse d.eclipse i;
    }

by_bits : (b : Eight Bool) → eight_marks (marks_of (byte_of b)) ≡ saying No Yes NotKnown b
unfolding marks_of
by_bits b = ap (λ (n : ℕ). eight_marks (cond (eqb n 1) disowned (lit_marks (byte_of b)))) (digits b).invalid ∙ chosen b.invalid b refl

-- with the top bit set the other seven are not known; with it clear each mark is as its bit stands
pub marks : (κ : _) (a : _) (r : _) (t : _) → marks_of_reads.Post κ a r t → (b : Eight Bool) → a.0 ≡ byte_of b → eight_marks r ≡ saying No Yes NotKnown b
marks κ a r t p b e = ap eight_marks (p ∙ ap marks_of e) ∙ by_bits b

-- with the top bit clear: the marks of before, word for word
pub as_before : (κ : _) (a : _) (r : _) (t : _) → marks_of_reads.Post κ a r t → a.0 ≤ 127 → r ≡ lit_marks a.0
unfolding marks_of
as_before κ a r t p h = p ∙ rw (ne_eqb (a.0 / 128 % 2) 1 (λ e. omega arith)) refl

-- The stereo artist's hour: in eclipse lit, and the top bit lit, too.
pub artists_hour : (κ : _) (a : _) (r : _) (t : _) → marks_of_reads.Post κ a r t → a.0 ≡ 129 → (r.invalid ≡ Yes) × (r.eclipse ≡ NotKnown)
unfolding marks_of
artists_hour κ a r t p e = let y : r ≡ marks_of 129 = p ∙ ap marks_of e in (ap (λ (m : Marks). m.invalid) y, ap (λ (m : Marks). m.eclipse) y)

-- ---- from C: no is 0, yes is 1, not known is 2

top_number : (x : Bool) → shown_mark (cond x Yes No) ≡ cond x 1 0
top_number true = refl
top_number false = refl

other_number : (top x : Bool) → shown_mark (cond top NotKnown (cond x Yes No)) ≡ cond top 2 (cond x 1 0)
other_number true x = refl
other_number false x = top_number x

in_numbers : (b : Eight Bool) (m : Marks) → eight_marks m ≡ saying No Yes NotKnown b → eight_numbers (shown_marks m) ≡ saying 0 1 2 b
unfolding shown_marks
in_numbers b m e =
    let other : (x : Bool) → shown_mark (cond b.invalid NotKnown (cond x Yes No)) ≡ cond b.invalid 2 (cond x 1 0) = other_number b.invalid in
    λ i. record {
      invalid = (ap (λ (k : Eight Mark). shown_mark k.invalid) e ∙ top_number b.invalid) i;
      sun = (ap (λ (k : Eight Mark). shown_mark k.sun) e ∙ other b.sun) i;
      moon = (ap (λ (k : Eight Mark). shown_mark k.moon) e ∙ other b.moon) i;
      test = (ap (λ (k : Eight Mark). shown_mark k.test) e ∙ other b.test) i;
      manoeuvre = (ap (λ (k : Eight Mark). shown_mark k.manoeuvre) e ∙ other b.manoeuvre) i;
      unloading = (ap (λ (k : Eight Mark). shown_mark k.unloading) e ∙ other b.unloading) i;
      solar_calibration = (ap (λ (k : Eight Mark). shown_mark k.solar_calibration) e ∙ other b.solar_calibration) i;
      eclipse = (ap (λ (k : Eight Mark). shown_mark k.eclipse) e ∙ other b.eclipse) i;
    }

pub quality : (κ : _) (a : _) (q : _) (t : _) → hsd_quality.Post κ a q t → (b : Eight Bool) → a.0 ≡ byte_of b → eight_numbers q ≡ saying 0 1 2 b
quality κ a q t p b e = ap eight_numbers (p ∙ ap (λ (n : ℕ). shown_marks (marks_of n)) e) ∙ in_numbers b (marks_of (byte_of b)) (by_bits b)

-- of a file that C was told is accepted: the marks of its header's own quality flag 1
pub of_file : {s : List ℕ} {w : Verdict} {ws : List Verdict} {v : Header} {e : Entries} → Bytes s → Read s w ws v e
    → (κ₁ : _) (a₁ : _) (r : _) (t₁ : _) → hsd_accept.Post κ₁ a₁ r t₁ → a₁.0.now ≡ s → r.refusal ≡ 0
    → (κ : _) (a : _) (q : _) (t : _) → hsd_quality.Post κ a q t → a.0 ≡ r.quality
    → (b : Eight Bool) → v.block1.quality1 ≡ byte_of b → eight_numbers q ≡ saying 0 1 2 b
of_file by rd κ₁ a₁ r t₁ p₁ i z κ a q t p k b e =
    let h = (accepted_from_c by rd κ₁ a₁ r t₁ p₁ i).1 z in
    quality κ a q t p b (k ∙ h.0.quality ∙ h.1.quality ∙ e)
