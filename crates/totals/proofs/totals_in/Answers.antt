use Rattle.totals.proofs.Plain.{all_five}
use native.Mathlib.Omega.{arith}
use Rattle.totals.proofs.totals_in.Goals as goal

pub returns : goal.returns
returns c =
    let a = c.args in
    all_five a.cal _ a.order a.src.now _ _ _ _ c.limit_of.ensures (λ i. omega (arith, c.type_inv.src i)) (c.all_fine.ensures c.if-not-all_fine.false) c.sort_all-t.ensures
