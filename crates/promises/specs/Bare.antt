-- A refusal returns nothing else: in the answer to a refused file everything but its number, block and offset is 0.
use Rattle.std.specs.Prelude.{◌≡◌, false, pos}
use Rattle.std.specs.Float.{fin}
use Rattle.plugin.specs.declared.HsdFile.{HsdFile}

pub record Bare (r : HsdFile) : Type 0 where
  pub satellite : r.satellite ≡ 0
  pub quality : r.quality ≡ 0
  pub day : r.day ≡ 0
  pub timeline : r.timeline ≡ 0
  pub band : r.band ≡ 0
  pub area : r.area ≡ 0
  pub columns : r.columns ≡ 0
  pub lines : r.lines ≡ 0
  pub number : r.number ≡ 0
  pub total : r.total ≡ 0
  pub first_line : r.first_line ≡ 0
  pub valid_bits : r.valid_bits ≡ 0
  pub order : r.order ≡ 0
  pub header_length : r.header_length ≡ 0
  pub gain : r.gain ≡ fin false 0 (pos 0)
  pub constant : r.constant ≡ fin false 0 (pos 0)
