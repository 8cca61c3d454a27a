-- `put_counts`: a loop that stores one count more.
use Rattle.std.proofs.Common.{ℕ, ◌*◌}
use Rattle.wire.specs.Wire.{digits, rows, Stored}
use Rattle.samples.specs.Sample.{count_of}
use Rattle.samples.proofs.put_counts.Given as goal

abbrev pub invariant-loop-i : goal.invariant-loop-i
invariant-loop-i l = Stored (2 * l.i) l.initial.out l.at (rows (λ (i : ℕ). digits l.p.order 2 (count_of l.p i)) l.i) l.out
