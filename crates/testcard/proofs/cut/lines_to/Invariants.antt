-- `lines_to`: a loop that adds one height more.
use Rattle.std.proofs.Common.{◌≡◌, ◌*◌, ◌≤◌}
use Rattle.testcard.specs.Cut.{lines_to}
use Rattle.testcard.proofs.cut.lines_to.Given as goal

abbrev pub invariant-loop-k : goal.invariant-loop-k
invariant-loop-k l = (l.lines ≤ 65535 * l.k) × (l.lines ≡ lines_to l.word l.k)
