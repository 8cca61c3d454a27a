use Rattle.std.proofs.Common.{◌≡◌, ℕ, ◌<◌, ◌*◌, ◌+◌, [], ◌∷◌, get_or}
use Rattle.wire.specs.Wire.{num}
use Rattle.frame.proofs.place.Given as goal

abbrev pub invariant-loop-i : goal.invariant-loop-i
invariant-loop-i l = (k : ℕ) → k < l.i → get_or l.dst k 0 ≡ num l.order (get_or l.src (k * 2) 0 ∷ get_or l.src (k * 2 + 1) 0 ∷ [])
