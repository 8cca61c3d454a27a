-- `read_column`: a turn reads one number more.
use Rattle.std.proofs.Common.{rules, arith}
use Rattle.reader.proofs.Columns.{column_more}
use Rattle.reader.proofs.read_column.Goals as goal

pub loop-i-preserved : goal.loop-i-preserved
loop-i-preserved g c = record {
  long = search rules;
  below = λ k h. column_more _ _ _ _ _ _ _ _ _ k c.number_at.ensures (omega arith) c.loop-i.invariant.below h;
}
