-- What C sees of an answer, in the paper's numbers.
use Rattle.std.specs.Prelude.{ℕ, false, ℤ, pos, Float}
use Rattle.std.specs.Float.{fin}
use Rattle.rules.specs.Rules.{turned, Ruling, fine, refused, Reply, says, refuses}
use Rattle.accept.specs.declared.Facts.{Facts}
use Rattle.accept.specs.Answers.{calibration_in}
use Rattle.reading.specs.declared.Calibration.{Calibration}
use Rattle.reading.specs.declared.Reading.{Reading}
use Rattle.reading.specs.declared.Reading.TheVariants.{Radiance, ErrorPixel, Outside, OverRange, Uncalibrated}
use Rattle.reading.specs.declared.Mark.{Mark}
use Rattle.reading.specs.declared.Mark.TheVariants.{No, Yes, NotKnown}
use Rattle.reading.specs.declared.Marks.{Marks}
use Rattle.plugin.specs.declared.HsdAnswer.{HsdAnswer}
use Rattle.plugin.specs.declared.HsdFile.{HsdFile}
use Rattle.plugin.specs.declared.HsdReading.{HsdReading}
use Rattle.plugin.specs.declared.HsdQuality.{HsdQuality}
use Rattle.plugin.specs.declared.HsdFrameNumber.{HsdFrameNumber}

-- zeros where nothing is wrong, and else the refusal's number, block and offset
unfoldable pub shown_ruling : Ruling → HsdAnswer
shown_ruling fine = record { refusal = 0; block = 0; offset = 0 }
shown_ruling (refused (turned n b p)) = record { refusal = n; block = b; offset = p }

abbrev zero : Float
zero = fin false 0 (pos 0)

-- a refusal's number, block and offset, and else zeros
abbrev pub refused_file : ℕ → ℕ → ℕ → HsdFile
refused_file n b p = record {
  refusal = n;
  block = b;
  satellite = 0;
  quality = 0;
  offset = p;
  day = 0;
  timeline = 0;
  band = 0;
  area = 0;
  columns = 0;
  lines = 0;
  number = 0;
  total = 0;
  first_line = 0;
  valid_bits = 0;
  order = 0;
  header_length = 0;
  gain = zero;
  constant = zero;
}

-- an accepted file's facts, with what its counts are read by; every NaN's pattern is nan
unfoldable pub shown_file : Reply Facts → HsdFile
shown_file (says f) = record {
  refusal = 0;
  block = 0;
  satellite = f.satellite;
  quality = f.quality;
  offset = 0;
  day = f.day;
  timeline = f.timeline;
  band = f.band;
  area = f.area;
  columns = f.columns;
  lines = f.lines;
  number = f.number;
  total = f.total;
  first_line = f.first;
  valid_bits = (calibration_in f).bits;
  order = f.order;
  header_length = f.header;
  gain = (calibration_in f).gain;
  constant = (calibration_in f).constant;
}
shown_file (refuses (turned n b p)) = refused_file n b p

abbrev pub calibrated : Float → Float → ℕ → Calibration
calibrated g k b = record { gain = g; constant = k; bits = b }

-- what a file is read by, as C holds it
abbrev pub calibration_c : HsdFile → Calibration
calibration_c f = calibrated f.gain f.constant f.valid_bits

abbrev pub no_radiance : ℕ → HsdReading
no_radiance k = record { radiance = zero; kind = k }

-- the five kinds in the paper's order, from 0
abbrev pub shown_reading : Reading → HsdReading
shown_reading (Radiance x) = record { radiance = x; kind = 0 }
shown_reading ErrorPixel = no_radiance 1
shown_reading Outside = no_radiance 2
shown_reading OverRange = no_radiance 3
shown_reading Uncalibrated = no_radiance 4

abbrev pub shown_mark : Mark → ℕ
shown_mark No = 0
shown_mark Yes = 1
shown_mark NotKnown = 2

-- each mark under its own name
unfoldable pub shown_marks : Marks → HsdQuality
shown_marks m = record {
  invalid = shown_mark m.invalid;
  sun = shown_mark m.sun;
  moon = shown_mark m.moon;
  test = shown_mark m.test;
  manoeuvre = shown_mark m.manoeuvre;
  unloading = shown_mark m.unloading;
  solar_calibration = shown_mark m.solar_calibration;
  eclipse = shown_mark m.eclipse;
}

unfoldable pub shown_frame : Reply ℤ → HsdFrameNumber
shown_frame (says n) = record { refusal = 0; block = 0; offset = 0; number = n }
shown_frame (refuses (turned k b p)) = record { refusal = k; block = b; offset = p; number = pos 0 }
