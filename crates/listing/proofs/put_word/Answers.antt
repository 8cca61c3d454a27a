-- `put_word`: a space and then the word.
use Rattle.listing.proofs.Words.{spaced}
use Rattle.listing.proofs.put_word.Goals as goal

pub returns : goal.returns
returns g c = spaced c.put_byte.ensures c.put_bytes.ensures
