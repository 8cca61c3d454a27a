-- `write_back`: blocks 8 to 11, each where the last one ended.
use native.Mathlib.Omega.{arith}
use Rattle.wire.proofs.Stores.{puts, next, next_at, done}
use Rattle.header.specs.Encode.{back_blocks}
use Rattle.writer.proofs.write_back.Goals as goal

pub returns : goal.returns
unfolding back_blocks
returns c =
    puts _ (omega arith)
    (next_at _ (omega arith) c.write8.ensures
    (next_at _ (omega arith) c.write9.ensures
    (next_at _ (omega arith) c.write10.ensures
    (next c.write11.ensures done))))
