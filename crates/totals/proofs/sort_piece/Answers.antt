use Rattle.std.proofs.Common.{arith, rules}
use Rattle.totals.proofs.Plain.{sorted_none, sorted_next}
use Rattle.totals.proofs.sort_piece.Goals as goal

pub loop-x-init : goal.loop-x-init
loop-x-init c = record { so_far = sorted_none _; error_fits = omega arith; outside_fits = omega arith; over_fits = omega arith; below_fits = omega arith }

pub loop-x-preserved : goal.loop-x-preserved
loop-x-preserved c = record {
  so_far = sorted_next _ _ _ (omega arith) c.loop-x.invariant.so_far c.from-error.ensures c.from-outside.ensures c.from-over.ensures c.from-below.ensures;
  error_fits = search rules;
  outside_fits = search rules;
  over_fits = search rules;
  below_fits = search rules;
}
