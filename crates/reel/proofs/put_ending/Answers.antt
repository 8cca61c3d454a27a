use Rattle.reel.proofs.Writing.{ending_stored}
use Rattle.reel.proofs.put_ending.Goals as goal

pub returns : goal.returns
returns c = ending_stored c.args.n c.args.to c.requires.0 c.put_byte.ensures c.put_number.ensures c.put_bytes.ensures
