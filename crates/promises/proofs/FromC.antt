-- The plain functions of C say what the library's own say, in the paper's numbers: kinds of reading from 0 in its order, 0 for no refusal.
-- Each theorem is of calls with the same numbers. Assumes nothing.
use Rattle.std.proofs.Common.{◌≡◌, refl, sym, ap, ◌∙◌, false, ℕ, ℤ, pos, Option, Some, None, Result, Ok, Err}
use mathlib.Core.List.{Memᴰ}
use lib.Ieee.{fin}
use Rattle.rules.specs.Rules.{number_of, paper_reply}
use Rattle.rules.specs.declared.Refusal.{Refusal}
use Rattle.calendar.specs.Dates.{paper_day, day_of}
use Rattle.calendar.specs.Shots.{film_frame_of}
use Rattle.calendar.proofs.day_of.Reads as day_of_reads
use Rattle.calendar.proofs.frame_number.Reads as frame_number
use Rattle.reading.specs.declared.Reading.{Reading}
use Rattle.reading.specs.declared.Reading.TheVariants.{Radiance, ErrorPixel, Outside, OverRange, Uncalibrated}
use Rattle.reading.specs.Counts.{reading_of}
use Rattle.reading.proofs.read.Reads as read
use Rattle.format.specs.Names.{day_or_0}
use Rattle.plugin.specs.declared.HsdReading.{HsdReading}
use Rattle.plugin.specs.declared.HsdFrameNumber.{HsdFrameNumber}
use Rattle.plugin.specs.Plugin.{shown_reading, shown_frame}
use Rattle.plugin.proofs.hsd_read_count.Reads as hsd_read_count
use Rattle.plugin.proofs.hsd_frame_number.Reads as hsd_frame_number
use Rattle.plugin.proofs.hsd_day.Reads as hsd_day
use Rattle.plugin.proofs.hsd_valid_bits.Reads as hsd_valid_bits
use Rattle.plugin_frames.specs.Strips.{good_marks, line_c}
use Rattle.plugin_frames.proofs.Lending.{none_copied}
use Rattle.plugin_frames.proofs.hsd_line.Reads as hsd_line
use Rattle.tiling.specs.Lawful.{bands}
use Rattle.tiling.proofs.Lawful.{bits_of}

-- a reading's kind in the paper's order, and its number: only radiance carries one
abbrev Kind : Reading → HsdReading → Type 0
Kind (Radiance x) r = (r.kind ≡ 0) × (r.radiance ≡ x)
Kind ErrorPixel r = (r.kind ≡ 1) × (r.radiance ≡ fin false 0 (pos 0))
Kind Outside r = (r.kind ≡ 2) × (r.radiance ≡ fin false 0 (pos 0))
Kind OverRange r = (r.kind ≡ 3) × (r.radiance ≡ fin false 0 (pos 0))
Kind Uncalibrated r = (r.kind ≡ 4) × (r.radiance ≡ fin false 0 (pos 0))

kind : (y : Reading) → Kind y (shown_reading y)
kind (Radiance x) = (refl, refl)
kind ErrorPixel = (refl, refl)
kind Outside = (refl, refl)
kind OverRange = (refl, refl)
kind Uncalibrated = (refl, refl)

pub of_read_count : (κ : _) (a : _) (r : _) (t : _) → hsd_read_count.Post κ a r t
    → (κ' : _) (b : _) (y : _) (u : _) → read.Post κ' b y u → b.0 ≡ record { gain = a.0; constant = a.1.0; bits = a.1.1.0 } → b.1.0 ≡ a.1.1.1.0 → Kind y r
of_read_count κ a r t p κ' b y u q ec en =
    let e : r ≡ shown_reading y = p ∙ ap shown_reading (sym (q ∙ (λ i. reading_of (ec i) (en i)))) in
    rw e (kind y)

-- a film number, or its refusal
abbrev Film : Result ℤ Refusal → HsdFrameNumber → Type 0
Film (Ok n) r = (r.refusal ≡ 0) × (r.block ≡ 0) × (r.offset ≡ 0) × (r.number ≡ n)
Film (Err t) r = (r.refusal ≡ number_of t.why) × (r.block ≡ t.block) × (r.offset ≡ t.offset) × (r.number ≡ pos 0)

on_film : (z : Result ℤ Refusal) → Film z (shown_frame (paper_reply z))
unfolding shown_frame
on_film (Ok n) = (refl, refl, refl, refl)
on_film (Err t) = (refl, refl, refl, refl)

pub of_frame_number : (κ : _) (a : _) (r : _) (t : _) → hsd_frame_number.Post κ a r t
    → (κ' : _) (b : _) (z : _) (u : _) → frame_number.Post κ' b z u → b.0 ≡ a.0 → b.1.0 ≡ a.1.0 → b.1.1.0 ≡ a.1.1.0 → b.1.1.1.0 ≡ a.1.1.1.0 → Film z r
of_frame_number κ a r t p κ' b z u q e f g h =
    let w : r ≡ shown_frame (paper_reply z) = p ∙ ap shown_frame (sym (q ∙ (λ i. film_frame_of (e i) (f i) (g i) (h i)))) in
    rw w (on_film z)

-- a day, or 0 for a date that is not real
abbrev DayOr0 : Option ℕ → ℕ → Type 0
DayOr0 (Some n) r = r ≡ n
DayOr0 None r = r ≡ 0

on_day : (z : Option ℕ) → DayOr0 z (day_or_0 (paper_day z))
unfolding paper_day
on_day (Some n) = refl
on_day None = refl

pub of_day : (κ : _) (a : _) (r : _) (t : _) → hsd_day.Post κ a r t
    → (κ' : _) (b : _) (z : _) (u : _) → day_of_reads.Post κ' b z u → b.0 ≡ a.0 → b.1.0 ≡ a.1.0 → b.1.1.0 ≡ a.1.1.0 → DayOr0 z r
of_day κ a r t p κ' b z u q e f g =
    let w : r ≡ day_or_0 (paper_day z) = p ∙ ap day_or_0 (sym (q ∙ (λ i. day_of (e i) (f i) (g i)))) in
    rw w (on_day z)

-- the valid bits of document 01's bands
pub of_valid_bits : (κ : _) (a : _) (r : _) (t : _) → hsd_valid_bits.Post κ a r t → (bits resolution : ℕ) → Memᴰ (a.0, bits, resolution) bands → r ≡ bits
of_valid_bits κ a r t p bits resolution m = p ∙ sym (bits_of a.0 bits resolution m)

-- bad marks are a refusal of every line
pub of_line : (κ : _) (a : _) (r : _) (t : _) → hsd_line.Post κ a r t → good_marks a.1.0.now ≡ false → r ≡ 0
unfolding line_c
of_line κ a r t p e = p.0 ∙ rw e (sym (none_copied a.1.1.1.1.1.0.now).0)
