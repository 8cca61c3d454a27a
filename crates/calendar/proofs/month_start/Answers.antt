-- `month_start`: the sheet's rule, by one test over all of it, which antt computes.
use Prim.Native.Nat.{◌<◌}
use Rattle.calendar.specs.Dates.{month_length}
use Rattle.calendar.proofs.Counted.{start_le}
use Rattle.calendar.proofs.Months.{in_place}
use Rattle.calendar.proofs.month_start.Goals as goal

pub returns : goal.returns
unfolding month_length
returns c =
    let h : c.args.i < 1200 = c.requires in
    let t : Unit {0} = tt in
    (rw in_place, rw in_place (start_le c.args.i h))
