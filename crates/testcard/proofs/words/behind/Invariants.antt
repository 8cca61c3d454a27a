-- `behind`: a loop that passes k pluses.
use Rattle.std.proofs.Common.{◌≡◌, drop}
use Rattle.testcard.specs.Words.{behind_of}
use Rattle.testcard.proofs.words.behind.Given as goal

abbrev pub invariant-loop-i : goal.invariant-loop-i
invariant-loop-i l = behind_of (drop l.i l.word) l.left ≡ behind_of l.word l.k
