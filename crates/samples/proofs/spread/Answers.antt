-- `spread`: a loop that stores one byte more.
use Rattle.std.proofs.Common.{arith}
use Rattle.samples.proofs.Filing.{begins, turns}
use Rattle.samples.proofs.spread.Goals as goal

pub loop-i-init : goal.loop-i-init
loop-i-init c = begins _ _ _

pub loop-i-preserved : goal.loop-i-preserved
loop-i-preserved c = turns _ c.loop-i.invariant c.put_byte.ensures (omega arith) (cc) (omega arith)
