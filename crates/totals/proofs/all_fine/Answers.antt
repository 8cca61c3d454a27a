use Rattle.std.proofs.Common.{arith}
use Rattle.totals.proofs.Plain.{fine_done}
use Rattle.totals.proofs.all_fine.Goals as goal

pub returns : goal.returns
returns c = λ _. fine_done _ _ c.loop-k.k c.limit_of-k-end.ensures (omega arith) c.loop-k.invariant
