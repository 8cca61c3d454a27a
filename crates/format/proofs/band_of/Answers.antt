-- `band_of`: the table's row, by the rule of the whole table.
use mathlib.Core.Path.{◌≡◌, sym, ◌∙◌}
use Prim.Native.Nat.{suc, ◌<◌}
use native.Mathlib.Omega.{arith}
use Rattle.format.specs.Bands.{band_of}
use Rattle.format.proofs.Rows.{band_is, row_is}
use Rattle.format.proofs.band_of.Goals as goal

pub returns-then-good_band : goal.returns-then-good_band
unfolding band_of
returns-then-good_band c =
    let k = band_is c.args.band c.good_band.ensures c.if-good_band.true in
    let h : c.from.result < 16 = omega arith in
    let t : Unit {0} = tt in
    let e : suc c.from.result ≡ c.args.band = omega arith in
    rw (sym c.good_band.ensures ∙ c.if-good_band.true, row_is, e)
