-- Quality flag 1 as eight marks, named as document 000 names its bits 1 (the highest) to 8.
use Rattle.std.specs.Prelude.{ℕ, ◌/◌, ◌%◌, cond, eqb}
use Rattle.reading.specs.declared.Mark.{Mark}
use Rattle.reading.specs.declared.Mark.TheVariants.{No, Yes, NotKnown}
use Rattle.reading.specs.declared.Marks.{Marks}

abbrev pub mark_of : ℕ → Mark
mark_of b = cond (eqb b 0) No Yes

-- each mark as it stands in the byte
unfoldable pub lit_marks : ℕ → Marks
lit_marks flag = record {
  invalid = mark_of (flag / 128 % 2);
  sun = mark_of (flag / 64 % 2);
  moon = mark_of (flag / 32 % 2);
  test = mark_of (flag / 16 % 2);
  manoeuvre = mark_of (flag / 8 % 2);
  unloading = mark_of (flag / 4 % 2);
  solar_calibration = mark_of (flag / 2 % 2);
  eclipse = mark_of (flag % 2);
}

-- the flag is not valid: what the other marks are is not known
abbrev pub disowned : Marks
disowned = record {
  invalid = Yes;
  sun = NotKnown;
  moon = NotKnown;
  test = NotKnown;
  manoeuvre = NotKnown;
  unloading = NotKnown;
  solar_calibration = NotKnown;
  eclipse = NotKnown;
}

-- with the top bit set the other seven are not known; with it clear all stand as they do in the byte
unfoldable pub marks_of : ℕ → Marks
marks_of flag = cond (eqb (flag / 128 % 2) 1) disowned (lit_marks flag)
