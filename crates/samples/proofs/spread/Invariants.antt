-- `spread`: a loop that stores one byte more.
use Rattle.std.proofs.Common.{ℕ, ◌*◌, [], ◌∷◌}
use Rattle.wire.specs.Wire.{rows, Stored}
use Rattle.samples.specs.Sample.{byte_of}
use Rattle.samples.proofs.spread.Given as goal

abbrev pub invariant-loop-i : goal.invariant-loop-i
invariant-loop-i l = Stored (1 * l.i) l.initial.out 0 (rows (λ (i : ℕ). byte_of l.p i ∷ []) l.i) l.out
