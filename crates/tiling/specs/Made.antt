-- What a file is made of.
use Rattle.std.specs.Prelude.{ℕ, ◌^◌, ◌<◌, ◌≡◌, List, ◌++◌, length, get_or}
use Rattle.wire.specs.Wire.{Bytes}
use Rattle.header.specs.declared.Block1.{Block1}
use Rattle.header.specs.declared.Block2.{Block2}
use Rattle.header.specs.declared.Block5.{Block5}
use Rattle.header.specs.declared.Block7.{Block7}
use Rattle.header.specs.declared.Block8.{Block8}
use Rattle.header.specs.declared.Header.{Header}
use Rattle.header.specs.Places.{data_length}
use Rattle.header.specs.Values.{header_of}
use Rattle.header.specs.Encode.{Entries, encode}
use Rattle.header.specs.Entries.{entries_of}
use Rattle.rules.specs.Rules.{fine, says}
use Rattle.accept.specs.Answers.{facts_of, answer_of}
use Rattle.writer.specs.Given.{ruled}
use Rattle.tiling.specs.Lawful.{Lawful}

-- a number of w bytes
abbrev pub Number : ℕ → ℕ → Type 0
Number w x = x < 256 ^ w

-- so many numbers of w bytes
abbrev pub Numbers : ℕ → List ℕ → Type 0
Numbers w xs = (i : ℕ) → i < length xs → get_or xs i 0 < 256 ^ w

-- a run of n bytes
pub record Run (n : ℕ) (l : List ℕ) : Type 0 where
  pub long : length l ≡ n
  pub bytes : Bytes l

-- what the types of a header's values say
pub record Fit1 (v : Block1) : Type 0 where
  pub order : Number 1 v.order
  pub satellite : Run 16 v.satellite
  pub centre : Run 16 v.centre
  pub area : Run 4 v.area
  pub other : Run 2 v.other
  pub timeline : Number 2 v.timeline
  pub started : Number 8 v.started
  pub ended : Number 8 v.ended
  pub created : Number 8 v.created
  pub quality1 : Number 1 v.quality1
  pub quality2 : Number 1 v.quality2
  pub quality3 : Number 1 v.quality3
  pub quality4 : Number 1 v.quality4
  pub version : Run 32 v.version
  pub name : Run 128 v.name
  pub spare : Run 40 v.spare

pub record Fit2 (v : Block2) : Type 0 where
  pub columns : Number 2 v.columns
  pub lines : Number 2 v.lines
  pub compression : Number 1 v.compression
  pub spare : Run 40 v.spare

pub record Fit5 (v : Block5) : Type 0 where
  pub band : Number 2 v.band
  pub wavelength : Number 8 v.wavelength
  pub bits : Number 2 v.bits
  pub gain : Number 8 v.gain
  pub constant : Number 8 v.constant
  pub carried : Run 112 v.carried

pub record Fit7 (v : Block7) : Type 0 where
  pub total : Number 1 v.total
  pub number : Number 1 v.number
  pub first : Number 2 v.first
  pub spare : Run 40 v.spare

pub record Fit8 (v : Block8) : Type 0 where
  pub column : Number 4 v.column
  pub line : Number 4 v.line
  pub rotation : Number 8 v.rotation
  pub spare : Run 40 v.spare

pub record Fit (v : Header) (e : Entries) : Type 0 where
  pub block1 : Fit1 v.block1
  pub block2 : Fit2 v.block2
  pub carried3 : Run 124 v.carried3
  pub carried4 : Run 136 v.carried4
  pub block5 : Fit5 v.block5
  pub carried6 : Run 256 v.carried6
  pub block7 : Fit7 v.block7
  pub block8 : Fit8 v.block8
  pub spare9 : Run 40 v.spare9
  pub spare10 : Run 40 v.spare10
  pub spare11 : Run 256 v.spare11
  pub lines8 : Numbers 2 e.lines8
  pub column_shifts : Numbers 4 e.column_shifts
  pub line_shifts : Numbers 4 e.line_shifts
  pub lines9 : Numbers 2 e.lines9
  pub times : Numbers 8 e.times
  pub lines10 : Numbers 2 e.lines10
  pub pixels : Numbers 2 e.pixels

-- s is the header of lawful values and entries of their types, and then counts of the right length
pub record Made (s : List ℕ) : Type 0 where
  pub v : Header
  pub e : Entries
  pub counts : List ℕ
  pub fit : Fit v e
  pub lawful : Lawful v e
  pub is : s ≡ encode v e ++ counts
  pub size : length counts ≡ data_length v.block2.columns v.block2.lines

-- s is accepted, with its facts
abbrev pub IsAccepted : List ℕ → Type 0
IsAccepted s = answer_of s ≡ says (facts_of s)

-- values and entries that a reader could have read: those of some accepted file
pub record Readable (v : Header) (e : Entries) : Type 0 where
  pub file : List ℕ
  pub bytes : Bytes file
  pub accepted : IsAccepted file
  pub header : header_of file ≡ v
  pub entries : entries_of file ≡ e

-- values and entries of their types that the writer takes, where there is room
pub record Writable (v : Header) (e : Entries) : Type 0 where
  pub fit : Fit v e
  pub good : ruled v e (length (encode v e)) ≡ fine
