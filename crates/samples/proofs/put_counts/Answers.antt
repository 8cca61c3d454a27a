-- `put_counts`: a loop that stores one count more.
use Rattle.std.proofs.Common.{arith, refl}
use Rattle.samples.proofs.Filing.{begins, turns}
use Rattle.samples.proofs.put_counts.Goals as goal

pub loop-i-init : goal.loop-i-init
loop-i-init c = begins _ _ _

pub loop-i-preserved : goal.loop-i-preserved
loop-i-preserved c = turns _ c.loop-i.invariant c.put_number.ensures refl (cc) (omega arith)
