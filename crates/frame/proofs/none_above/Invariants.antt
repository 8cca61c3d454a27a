use mathlib.Core.Path.{◌≡◌}
use Rattle.frame.specs.Records.{none_above}
use Rattle.frame.proofs.none_above.Given as goal

abbrev pub invariant-loop-k : goal.invariant-loop-k
invariant-loop-k l = none_above l.total l.rec.marks ≡ none_above l.k l.rec.marks
