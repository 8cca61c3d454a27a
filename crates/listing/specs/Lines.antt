-- The listing's line of a file, in ASCII, with the newline that ends it.
use Rattle.std.specs.Prelude.{ℕ, zero, suc, ◌/◌, ◌≡◌, cond, List, [], ◌∷◌, ◌++◌, length, drop, ltb}
use Rattle.wire.specs.Wire.{digits, join}
use Rattle.rules.specs.Rules.{Turned, turned, Reply, says, refuses}
use Rattle.format.specs.Texts.{decimal}
use Rattle.accept.specs.declared.Facts.{Facts}
use Rattle.accept.specs.Answers.{answer_of}

-- how many digits n has; k, any number from n on, bounds the count
unfoldable pub width : ℕ → ℕ → ℕ
width zero n = 1
width (suc k) n = cond (ltb n 10) 1 (suc (width k (n / 10)))

-- n without leading zeros
unfoldable pub numeral : ℕ → List ℕ
numeral n = decimal (width n n) n

-- a word after a space: a number without leading zeros, one with four digits, an area's four letters
abbrev pub plain : ℕ → List ℕ
plain n = 32 ∷ numeral n

abbrev pub hhmm : ℕ → List ℕ
hhmm n = 32 ∷ decimal 4 n

abbrev pub letters : ℕ → List ℕ
letters a = 32 ∷ digits 1 4 a

-- satellite, day, timeline, band, area
unfoldable pub shot_words : ℕ → ℕ → ℕ → ℕ → ℕ → List ℕ
shot_words satellite day timeline band area = join (plain satellite ∷ plain day ∷ hhmm timeline ∷ plain band ∷ letters area ∷ [])

-- columns, lines, number, total, first line
unfoldable pub segment_words : ℕ → ℕ → ℕ → ℕ → ℕ → List ℕ
segment_words columns lines number total first = join (plain columns ∷ plain lines ∷ plain number ∷ plain total ∷ plain first ∷ [])

-- what a refusal says: NO, its number, its block and the offset of the field at fault
unfoldable pub refusal_words : Turned → List ℕ
refusal_words (turned n b p) = join ((78 ∷ 79 ∷ []) ∷ plain n ∷ plain b ∷ plain p ∷ [])

-- OK, the shot and the segment; or what the refusal says
unfoldable pub line_words : Reply Facts → List ℕ
line_words (says f) =
    join (
    (79 ∷ 75 ∷ [])
    ∷ shot_words f.satellite f.day f.timeline f.band f.area
    ∷ segment_words f.columns f.lines f.number f.total f.first
    ∷ (10 ∷ [])
    ∷ []
    )
line_words (refuses t) = join (refusal_words t ∷ (10 ∷ []) ∷ [])

-- what is printed of a file: BIG beyond 65,536 bytes, and else the line of its answer
unfoldable pub listed : List ℕ → List ℕ
listed s = cond (ltb 65536 (length s)) (66 ∷ 73 ∷ 71 ∷ 10 ∷ []) (line_words (answer_of s))

-- the line of s was stored at the front of a buffer, the rest of it is as it was, and r is the line's length
pub record Listed (s before after : List ℕ) (r : ℕ) : Type 0 where
  pub long : r ≡ length (listed s)
  pub is : after ≡ listed s ++ drop (length (listed s)) before
