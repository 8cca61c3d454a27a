-- The paper's numbers tell the code's answers apart: `paper` has an inverse.
-- Assumes nothing.
use mathlib.Core.Path.{◌≡◌, refl, sym, ap, ◌∙◌}
use mathlib.Core.Bool.{Bool, true, false}
use Prim.Native.Nat.{ℕ}
use lib.Dec.{eqb}
use Rattle.std.specs.Prelude.{Ok, Err}
use Rattle.rules.specs.Rules.{number_of, Turned, turned, paper_of, Ruling, fine, refused, paper, Verdict}
use Rattle.rules.specs.declared.Why.{Why}
use Rattle.rules.specs.declared.Why.TheVariants.{Short, Number, Order, Length, Fixed, Packed, HeaderSum, DataSum, Name, Cut, Tail, Slate, Strip, OtherShot, Already, Room, Reel, Run, Satellite, Area, Timeline, Size, Compression, Band, Bits, Segment, Day}
use Rattle.rules.specs.declared.Refusal.{Refusal}

abbrev when : Bool → Why → Why → Why
when true a b = a
when false a b = b

-- the refusal that has a number; what it says of a number that none has is of no account
unfoldable pub named : ℕ → Why
named n =
    when (eqb n 1) Short
    (when (eqb n 2) Number
    (when (eqb n 3) Order
    (when (eqb n 4) Length
    (when (eqb n 5) Fixed
    (when (eqb n 6) Packed
    (when (eqb n 8) HeaderSum
    (when (eqb n 9) DataSum
    (when (eqb n 10) Name
    (when (eqb n 11) Cut
    (when (eqb n 12) Tail
    (when (eqb n 13) Slate
    (when (eqb n 14) Strip
    (when (eqb n 15) OtherShot
    (when (eqb n 16) Already
    (when (eqb n 17) Room
    (when (eqb n 18) Reel
    (when (eqb n 19) Run
    (when (eqb n 31) Satellite
    (when (eqb n 32) Area
    (when (eqb n 33) Timeline
    (when (eqb n 34) Size
    (when (eqb n 35) Compression
    (when (eqb n 36) Band
    (when (eqb n 37) Bits
    (when (eqb n 38) Segment Day)))))))))))))))))))))))))

pub named_number : (w : Why) → named (number_of w) ≡ w
unfolding named
named_number Short = refl
named_number Number = refl
named_number Order = refl
named_number Length = refl
named_number Fixed = refl
named_number Packed = refl
named_number HeaderSum = refl
named_number DataSum = refl
named_number Name = refl
named_number Cut = refl
named_number Tail = refl
named_number Slate = refl
named_number Strip = refl
named_number OtherShot = refl
named_number Already = refl
named_number Room = refl
named_number Reel = refl
named_number Run = refl
named_number Satellite = refl
named_number Area = refl
named_number Timeline = refl
named_number Size = refl
named_number Compression = refl
named_number Band = refl
named_number Bits = refl
named_number Segment = refl
named_number Day = refl

unfoldable pub refusal_of : Turned → Refusal
refusal_of (turned n b p) = record { why = named n; block = b; offset = p }

pub refusal_paper : (t : Refusal) → refusal_of (paper_of t) ≡ t
unfolding refusal_of
refusal_paper t = λ i. record { why = named_number t.why i; block = t.block; offset = t.offset }

unfoldable pub verdict_of : Ruling → Verdict
verdict_of fine = Ok tt
verdict_of (refused t) = Err (refusal_of t)

pub verdict_paper : (v : Verdict) → verdict_of (paper v) ≡ v
unfolding verdict_of
verdict_paper (Ok u) = refl
verdict_paper (Err t) = ap Err (refusal_paper t)

pub paper_one : (v w : Verdict) → paper v ≡ paper w → v ≡ w
paper_one v w e = sym (verdict_paper v) ∙ ap verdict_of e ∙ verdict_paper w
