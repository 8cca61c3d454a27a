use mathlib.Core.Path.{◌≡◌}
use mathlib.Core.Bool.{true}
use Rattle.slate.specs.Cut.{all_tall}
use Rattle.slate.proofs.Slate.all_tall.Given as goal

abbrev pub invariant-loop-k : goal.invariant-loop-k
invariant-loop-k l = all_tall l.self l.k ≡ true
