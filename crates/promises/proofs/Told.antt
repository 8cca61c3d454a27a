-- The facts of a file that is made are those of its values and entries. Assumes nothing.
use Rattle.std.proofs.Common.{◌≡◌, refl, sym, ap, ◌∙◌, List, ℕ, ◌+◌, length}
use Rattle.wire.specs.Wire.{Bytes, num}
use Rattle.rules.specs.Rules.{fine, judge, says, Verdict}
use Rattle.reading.specs.Counts.{calibration_of}
use Rattle.header.specs.declared.Header.{Header}
use Rattle.header.specs.Places.{order_of, a_of, b_of, c_of, at9, at10, header_length}
use Rattle.header.specs.Values.{header_of}
use Rattle.header.specs.Encode.{Entries}
use Rattle.header.specs.Entries.{entries_of}
use Rattle.format.specs.Ranges.{satellite_of}
use Rattle.format.specs.Names.{date_of, day_or_0}
use Rattle.accept.specs.declared.Facts.{Facts}
use Rattle.accept.specs.Checks.{checks}
use Rattle.accept.specs.Answers.{facts_of, calibration_in, answer_of}
use Rattle.plugin.specs.declared.HsdFile.{HsdFile}
use Rattle.plugin.specs.Plugin.{shown_file, calibration_c}
use Rattle.tiling.specs.Made.{Made}
use Rattle.tiling.proofs.Back.{long}
use Rattle.tiling.proofs.Lawful.{satellite_of_lem, dated}
use Rattle.tiling.proofs.Exactly.{says_made, reads_back}
use Rattle.promises.specs.Calls.{Read}
use Rattle.promises.specs.Told.{Told, Shown}
use Rattle.promises.proofs.Refusals.{reply_fine, file_shows}
use Rattle.promises.proofs.Demand1.{in_checks}
use Rattle.promises.proofs.Calls.{got}

-- what is told of equals
pub same_told : {f g : Facts} {v w : Header} {e d : Entries} → f ≡ g → v ≡ w → e ≡ d → Told g w d → Told f v e
same_told p q r t = rw (p, q, r) t

module _ (s : List ℕ) (m : Made s) where
  abbrev is : header_of s ≡ m.v
  is = (reads_back s m).0

  few8 : a_of s ≡ length m.e.lines8
  unfolding entries_of
  few8 = sym (long s (order_of s) 1072 10 2 (a_of s)) ∙ ap (λ (e : Entries). length e.lines8) (reads_back s m).1

  few9 : b_of s ≡ length m.e.lines9
  unfolding entries_of
  few9 = sym (long s (order_of s) (at9 (a_of s) + 5) 10 2 (b_of s)) ∙ ap (λ (e : Entries). length e.lines9) (reads_back s m).1

  few10 : c_of s ≡ length m.e.lines10
  unfolding entries_of
  few10 = sym (long s (order_of s) (at10 (a_of s) (b_of s) + 7) 4 2 (c_of s)) ∙ ap (λ (e : Entries). length e.lines10) (reads_back s m).1

  called : (facts_of s).satellite ≡ m.lawful.satellite
  unfolding facts_of header_of
  called = ap (λ (v : Header). satellite_of v.block1.satellite) is ∙ satellite_of_lem m.v.block1.satellite m.lawful.satellite m.lawful.called

  day : (facts_of s).day ≡ day_or_0 (date_of m.v.block1.name)
  unfolding facts_of header_of
  day = ap (λ (v : Header). day_or_0 (date_of v.block1.name)) is

  pub told : Told (facts_of s) m.v m.e
  unfolding facts_of header_of
  told =
      let named = m.lawful.name in
      record {
        order = ap (λ (v : Header). v.block1.order) is;
        satellite = rw called m.lawful.called;
        timeline = ap (λ (v : Header). v.block1.timeline) is;
        area = ap (λ (v : Header). num 1 v.block1.area) is;
        quality = ap (λ (v : Header). v.block1.quality1) is;
        columns = ap (λ (v : Header). v.block2.columns) is;
        lines = ap (λ (v : Header). v.block2.lines) is;
        band = ap (λ (v : Header). v.block5.band) is;
        bits = ap (λ (v : Header). v.block5.bits) is;
        gain = ap (λ (v : Header). v.block5.gain) is;
        constant = ap (λ (v : Header). v.block5.constant) is;
        total = ap (λ (v : Header). v.block7.total) is;
        number = ap (λ (v : Header). v.block7.number) is;
        first = ap (λ (v : Header). v.block7.first) is;
        a = few8;
        b = few9;
        c = few10;
        header = λ i. header_length (few8 i) (few9 i) (few10 i);
        resolution = m.lawful.resolution;
        name = record { y = named.y; m = named.m; d = named.d; date = named.date; is = rw called named.is };
        day = day ∙ ap day_or_0 (dated named);
      }

-- C is told of no refusal only where no check fails
pub free : (s : List ℕ) → (shown_file (answer_of s)).refusal ≡ 0 → judge fine (checks s) ≡ fine
unfolding answer_of
free s z = reply_fine file_shows (checks s) (in_checks s) (judge fine (checks s)) (facts_of s) refl z

-- what C reads the counts of an accepted file by, of the values that the readers give
pub by_block5 : {s : List ℕ} {w : Verdict} {ws : List Verdict} {v : Header} {e : Entries} → Bytes s → Read s w ws v e → (shown_file (answer_of s)).refusal ≡ 0
    → calibration_c (shown_file (answer_of s)) ≡ calibration_of v.block5.gain v.block5.constant v.block5.bits
unfolding answer_of shown_file calibration_in
by_block5 {s} {v = v} b rd z =
    let g = free s z in
    let m = says_made s b (facts_of s) (rw g) in
    let h = told s m in
    let k : m.v ≡ v = sym (reads_back s m).0 ∙ sym (got rd g).header in
    rw g (λ i. calibration_of ((h.gain ∙ ap (λ (v : Header). v.block5.gain) k) i) ((h.constant ∙ ap (λ (v : Header). v.block5.constant) k) i) ((h.bits ∙ ap (λ (v : Header). v.block5.bits) k) i))

-- what C is shown of a file that no check refuses
shown_fine : (f : Facts) → Shown (shown_file (says f)) f
unfolding shown_file calibration_in
shown_fine f = record {
  refusal = refl;
  block = refl;
  satellite = refl;
  quality = refl;
  day = refl;
  timeline = refl;
  band = refl;
  area = refl;
  columns = refl;
  lines = refl;
  number = refl;
  total = refl;
  first_line = refl;
  valid_bits = refl;
  order = refl;
  header_length = refl;
  gain = refl;
  constant = refl;
}

pub shown_accepted : (s : List ℕ) → judge fine (checks s) ≡ fine → Shown (shown_file (answer_of s)) (facts_of s)
unfolding answer_of
shown_accepted s g = rw g (shown_fine (facts_of s))

pub shown_at : {r q : HsdFile} {f : Facts} → r ≡ q → Shown q f → Shown r f
shown_at e h = rw e h
