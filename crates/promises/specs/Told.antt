-- What the answer to an accepted file says of it, in document 01's words: of the values and entries that the file is made of.
use Rattle.std.specs.Prelude.{ℕ, ◌≡◌, length}
use Rattle.std.specs.Float.{binary64}
use Rattle.std.specs.Float.Ieee.{of_bits}
use Rattle.wire.specs.Wire.{num}
use Rattle.calendar.specs.Dates.{day_at}
use Rattle.header.specs.declared.Header.{Header}
use Rattle.header.specs.Encode.{Entries, length_for}
use Rattle.accept.specs.declared.Facts.{Facts}
use Rattle.plugin.specs.declared.HsdFile.{HsdFile}
use Rattle.tiling.specs.Lawful.{Satellite, Named}

pub record Told (f : Facts) (v : Header) (e : Entries) : Type 0 where
  pub order : f.order ≡ v.block1.order
  pub satellite : Satellite v.block1.satellite f.satellite
  pub timeline : f.timeline ≡ v.block1.timeline
  -- the four letters, the first one highest
  pub area : f.area ≡ num 1 v.block1.area
  pub quality : f.quality ≡ v.block1.quality1
  pub columns : f.columns ≡ v.block2.columns
  pub lines : f.lines ≡ v.block2.lines
  -- gain and constant travel together from block 5
  pub band : f.band ≡ v.block5.band
  pub bits : f.bits ≡ v.block5.bits
  pub gain : f.gain ≡ v.block5.gain
  pub constant : f.constant ≡ v.block5.constant
  pub total : f.total ≡ v.block7.total
  pub number : f.number ≡ v.block7.number
  pub first : f.first ≡ v.block7.first
  pub a : f.a ≡ length e.lines8
  pub b : f.b ≡ length e.lines9
  pub c : f.c ≡ length e.lines10
  pub header : f.header ≡ length_for e
  -- the shot's day is the date in the name
  pub resolution : ℕ
  pub name : Named v.block1.name f.satellite v.block1.timeline v.block5.band v.block1.area resolution v.block7.number v.block7.total
  pub day : f.day ≡ day_at name.y name.m name.d

-- what C is shown of an accepted file: those facts, each under its name; every NaN's pattern is nan
pub record Shown (r : HsdFile) (f : Facts) : Type 0 where
  pub refusal : r.refusal ≡ 0
  pub block : r.block ≡ 0
  pub satellite : r.satellite ≡ f.satellite
  pub quality : r.quality ≡ f.quality
  pub day : r.day ≡ f.day
  pub timeline : r.timeline ≡ f.timeline
  pub band : r.band ≡ f.band
  pub area : r.area ≡ f.area
  pub columns : r.columns ≡ f.columns
  pub lines : r.lines ≡ f.lines
  pub number : r.number ≡ f.number
  pub total : r.total ≡ f.total
  pub first_line : r.first_line ≡ f.first
  pub valid_bits : r.valid_bits ≡ f.bits
  pub order : r.order ≡ f.order
  pub header_length : r.header_length ≡ f.header
  pub gain : r.gain ≡ of_bits binary64 f.gain
  pub constant : r.constant ≡ of_bits binary64 f.constant
