-- What is said of a file.
use Rattle.std.specs.Prelude.{ℕ, List}
use Rattle.wire.specs.Wire.{num}
use Rattle.rules.specs.Rules.{fine, judge, Reply, reply}
use Rattle.format.specs.Ranges.{satellite_of}
use Rattle.format.specs.Names.{date_of, day_or_0}
use Rattle.reading.specs.declared.Calibration.{Calibration}
use Rattle.reading.specs.Counts.{calibration_of}
use Rattle.accept.specs.declared.Facts.{Facts}
use Rattle.header.specs.Places.{order_of, a_of, b_of, c_of, length_of}
use Rattle.header.specs.Values.{block1_of, block2_of, block5_of, block7_of}
use Rattle.accept.specs.Checks.{checks}

-- what a file is known by: values of its blocks, and the shot's day, which is the date in its name
unfoldable pub facts_of : List ℕ → Facts
facts_of s =
    let o = order_of s in
    record {
      order = (block1_of s o).order;
      satellite = satellite_of (block1_of s o).satellite;
      day = day_or_0 (date_of (block1_of s o).name);
      timeline = (block1_of s o).timeline;
      band = (block5_of s o).band;
      bits = (block5_of s o).bits;
      area = num 1 (block1_of s o).area;
      columns = (block2_of s o).columns;
      lines = (block2_of s o).lines;
      total = (block7_of s o).total;
      number = (block7_of s o).number;
      first = (block7_of s o).first;
      quality = (block1_of s o).quality1;
      gain = (block5_of s o).gain;
      constant = (block5_of s o).constant;
      a = a_of s;
      b = b_of s;
      c = c_of s;
      header = length_of s;
    }

-- gain and constant travel together from block 5, with the band's valid bits
unfoldable pub calibration_in : Facts → Calibration
calibration_in f = calibration_of f.gain f.constant f.bits

-- the facts where no check fails, and else the first refusal
unfoldable pub answer_of : List ℕ → Reply Facts
answer_of s = reply (judge fine (checks s)) (facts_of s)
