-- `write_column`: a turn stores one number more.
use Rattle.writer.proofs.Scattered.{scattered_more}
use Rattle.writer.proofs.write_column.Goals as goal

pub loop-i-preserved : goal.loop-i-preserved
loop-i-preserved g c = scattered_more _ _ _ _ _ _ _ _ _ _ _ c.loop-i.invariant c.put_number.ensures c.index-numbers-i.is c.loop-i-test.true
