use mathlib.Core.Path.{◌≡◌}
use Prim.Native.Nat.{◌*◌, ◌≤◌}
use Rattle.slate.specs.Cut.{lines_to}
use Rattle.slate.proofs.Slate.lines_to.Given as goal

abbrev pub invariant-loop-k : goal.invariant-loop-k
invariant-loop-k l = record { so_far : l.sum ≡ lines_to l.self l.k; fits : l.sum ≤ 65535 * l.k }
