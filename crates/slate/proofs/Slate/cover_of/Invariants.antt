-- `cover_of`: no segment before k reaches the line.
use mathlib.Core.Path.{◌≡◌}
use Prim.Native.Nat.{◌-◌, ◌<◌}
use Rattle.slate.specs.Cut.{lines_to}
use Rattle.slate.proofs.Slate.cover_of.Given as goal

abbrev pub invariant-loop-k : goal.invariant-loop-k
invariant-loop-k l = record { so_far : l.sum ≡ lines_to l.self (l.k - 1); before : l.sum < l.n }
