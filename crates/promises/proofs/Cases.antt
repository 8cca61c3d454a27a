-- The P cases of document 01. Assumes nothing.
use Rattle.std.proofs.Common.{◌≡◌, refl, ap, ◌∙◌, Bool, true, false, ◌&&◌, List, [], ◌∷◌, ℕ, arith, leb, ℤ, Float, get_or, length, drop}
use lib.Ieee.{add, mul, of_int}
use Rattle.wire.specs.Wire.{span, eqs}
use Rattle.wire.proofs.Pieces.{span_span}
use Rattle.rules.specs.Rules.{turned, fine, refused, judge, First, here, tables, placeless, Reply, refuses}
use Rattle.rules.proofs.Judge.{exactly, each_is, holds, first_fails, first_table, judge_unplaced}
use Rattle.calendar.specs.Dates.{day_of}
use Rattle.calendar.specs.Shots.{slot_at, shot, shots, slot_of, film_frame_of}
use Rattle.reading.specs.declared.Reading.{Reading}
use Rattle.reading.specs.Counts.{reading_of}
use Rattle.format.specs.Ranges.{satellite_of}
use Rattle.format.specs.Names.{name_for, is_day, date_of, good_name}
use Rattle.header.specs.declared.Block1.{Block1}
use Rattle.header.specs.declared.Block5.{Block5}
use Rattle.header.specs.declared.Block7.{Block7}
use Rattle.header.specs.Places.{order_of, a_of, b_of, c_of, header_length, length_of, data_length}
use Rattle.header.specs.Values.{block1_of, block2_of, block5_of, block7_of}
use Rattle.accept.specs.Checks.{sums, names, ends, blocks1to4, blocks5to7, blocks8to11, whole, checks}
use Rattle.accept.specs.Answers.{answer_of}
use Rattle.writer.specs.Given.{lengths8, parts, given}
use Rattle.writer.proofs.Good.{good_is}
use Rattle.tiling.specs.Lawful.{text}
use Rattle.promises.specs.Cases.{Holds, header, count, date, name, slot, film, unwritten8, before8, others, All, table}

-- 6,548 entries of block 8
too_many : Holds (unwritten8 6548 (turned 4 8 0))
unfolding given lengths8
too_many v e n long = (
  λ q. let few = (good_is v e n q).0.fits.few8 in absurd (omega arith),
  λ q.
      let h = each_is (before8 v) ((exactly (tables (before8 v))).0 q) in
      judge_unplaced fine _ ∙ ap placeless ((first_fails _ (turned 4 8 0)).1 (first_table (before8 v) (lengths8 (length e.lines8) (length e.column_shifts) (length e.line_shifts)) (drop 6 (parts v e n)) h (here (ap (λ (a : ℕ). leb a 6547) long)))),
)

-- a name that bears 20230229
no_date : (n : List ℕ) → span n 7 8 ≡ text "20230229" → date_of n ≡ refuses (turned 10 1 0)
unfolding date_of day_of span
no_date n e =
    let at : (k : ℕ) → get_or (span n 7 8) k 0 ≡ get_or (text "20230229") k 0 = λ k. ap (λ (l : List ℕ). get_or l k 0) e in
    rw (at 0, at 1, at 2, at 3, at 4, at 5, at 6, at 7)

fails : (a b : Bool) → b ≡ false → (a && b) ≡ false
fails true b e = e
fails false b e = refl

no_name : (v : Block1) (w : Block5) (x : Block7) → is_day (date_of v.name) ≡ false → First (names v w x) (turned 10 1 114)
unfolding names good_name
no_name v w x e =
    here (fails (eqs v.name (name_for (satellite_of v.satellite) (span v.name 7 8) v.timeline w.band v.area x.number x.total)) (is_day (date_of v.name)) e)

february : Holds (name (text "20230229") (turned 10 1 114))
unfolding answer_of checks whole block1_of
february s q e =
    let o = order_of s in
    let h = each_is (others s) ((exactly (tables (others s))).0 q) in
    let d : is_day (date_of (block1_of s o).name) ≡ false = ap is_day (no_date (span s 114 128) (span_span s 114 128 7 8 (omega arith) ∙ e)) in
    let counts = data_length (block2_of s o).columns (block2_of s o).lines in
    let f : First (whole s o (length_of s) counts) (turned 10 1 114) =
    first_table (sums s o (length_of s) counts ∷ []) (names (block1_of s o) (block5_of s o) (block7_of s o)) (ends s (length_of s) counts ∷ []) (holds h.1.1.1.0 tt) (no_name (block1_of s o) (block5_of s o) (block7_of s o) d) in
    let r : judge fine (checks s) ≡ refused (turned 10 1 114) =
    (first_fails (checks s) (turned 10 1 114)).1
    (first_table (blocks1to4 s o ∷ blocks5to7 s o ∷ blocks8to11 s o (a_of s) (b_of s) (c_of s) ∷ []) (whole s o (length_of s) counts) [] (holds h.0 (holds h.1.0 (holds h.1.1.0 tt))) f) in
    rw r

-- ---- what the definitions compute, the calls answer

on_header : {a b c n : ℕ} → header_length a b c ≡ n → Holds (header a b c n)
on_header e κ x r t p ea eb ec = p ∙ (λ i. header_length (ea i) (eb i) (ec i)) ∙ e

on_count : {g k : Float} {bits n : ℕ} {r : Reading} → reading_of (record { gain = g; constant = k; bits = bits }) n ≡ r → Holds (count g k bits n r)
on_count e κ x y t p ec en = p ∙ (λ i. reading_of (ec i) (en i)) ∙ e

on_date : {y m d : ℕ} {r : Reply ℕ} → day_of y m d ≡ r → Holds (date y m d r)
on_date e κ x z t p ey em ed = p ∙ (λ i. day_of (ey i) (em i) (ed i)) ∙ e

on_slot : {d t : ℕ} {r : Reply ℕ} → slot_of d t ≡ r → Holds (slot d t r)
on_slot e κ x z w p ed et = p ∙ (λ i. slot_of (ed i) (et i)) ∙ e

on_film : {d₀ t₀ d t : ℕ} {r : Reply ℤ} → film_frame_of d₀ t₀ d t ≡ r → Holds (film d₀ t₀ d t r)
on_film e κ x z w p a b c d = p ∙ (λ i. film_frame_of (a i) (b i) (c i) (d i)) ∙ e

-- every line of the table holds
pub every_case : All table
unfolding add mul of_int day_of slot_at shot shots slot_of film_frame_of lengths8
every_case = (on_header refl, (on_header refl, (refl, (refl, (too_many, (refl, (refl, (on_header refl, (on_count refl, (on_count refl, (on_count refl, (on_count refl, (on_count refl, (on_date refl, (on_date refl, (february, (on_slot refl, (on_film refl, (on_film refl, tt)))))))))))))))))))
