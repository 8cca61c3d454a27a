-- A float is finite exactly where its exponent's field is not all ones.
-- Assumes nothing.
use mathlib.Core.Path.{◌≡◌, refl, sym, ◌∙◌, ap, subst}
use mathlib.Core.Bool.{Bool, true, false, cond}
use Prim.Native.Nat.{ℕ, zero, suc, ◌+◌, ◌/◌, ◌%◌}
use lib.Dec.{T, eqb, leb}
use lib.Pow.{field}
use lib.Ieee.{Float, nan, inf, fin, binary64, fits, to_bits, of_bits, of_fields, odd, hid, top, ones}
use lib.Ieee.Bits.{of_bits-to_bits}
use borrow.Author.Tests.{eq-eqb, ne_eqb}
use Rattle.reading.specs.declared.Reading.{Reading}
use Rattle.reading.specs.declared.Reading.TheVariants.{Radiance, Uncalibrated}
use Rattle.reading.specs.Counts.{if_finite}

odd_reads : (d : ℕ) (s : Bool) (q k l : ℕ) → if_finite (odd d s q k l) ≡ Radiance (odd d s q k l)
unfolding odd
odd_reads d s zero k l = refl
odd_reads d s (suc q) k l = refl

top_reads : (b : Bool) (s : Bool) → if_finite (cond b (inf s) nan) ≡ Uncalibrated
top_reads true s = refl
top_reads false s = refl

either : (b : Bool) (x y : Float) → if_finite x ≡ Uncalibrated → if_finite y ≡ Radiance y
    → if_finite (cond b x y) ≡ cond b Uncalibrated (Radiance (cond b x y))
either true x y p q = p
either false x y p q = q

fields_read : (s : Bool) (x t : ℕ) → if_finite (of_fields binary64 s x t) ≡ cond (eqb x 2047) Uncalibrated (Radiance (of_fields binary64 s x t))
unfolding of_fields
fields_read s zero t = odd_reads 53 s t 0 1074
fields_read s (suc x) t =
    either (eqb (suc x) 2047) (cond (eqb t 0) (inf s) nan) (odd 53 s (hid binary64 + t) x 1074) (top_reads (eqb t 0) s) (odd_reads 53 s (hid binary64 + t) x 1074)

-- what a value of the format reads as, by its exponent's field
pub reads : (v : Float) → T (fits binary64 v)
    → if_finite v ≡ cond (eqb (to_bits binary64 v / 0x0010_0000_0000_0000 % 2048) 2047) Uncalibrated (Radiance v)
unfolding of_bits
reads v f =
    let b = to_bits binary64 v in
    let e : of_bits binary64 b ≡ v = of_bits-to_bits binary64 v f in
    subst (λ (w : Float). if_finite w ≡ cond (eqb (b / 0x0010_0000_0000_0000 % 2048) 2047) Uncalibrated (Radiance w)) e
    (rw (← field b 11 52) (fields_read (leb (top binary64) b) (b % top binary64 / hid binary64) (b % hid binary64)))
