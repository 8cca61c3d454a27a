-- `number_of`: a loop that takes one digit more.
use Rattle.std.proofs.Common.{◌≡◌, drop}
use Rattle.testcard.specs.Words.{number_from, number_of}
use Rattle.testcard.proofs.words.number_of.Given as goal

abbrev pub invariant-loop-b : goal.invariant-loop-b
invariant-loop-b l = number_from l.n (drop l.b-index l.word) ≡ number_of l.word
