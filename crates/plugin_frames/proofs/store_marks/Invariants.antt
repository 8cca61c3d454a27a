use Rattle.std.proofs.Common.{◌≡◌, ℕ, ◌<◌, false, get_or}
use Rattle.frame.specs.Records.{one_of}
use Rattle.plugin_frames.proofs.store_marks.Given as goal

abbrev pub invariant-loop-k : goal.invariant-loop-k
invariant-loop-k l = (j : ℕ) → j < l.k → get_or l.marks j 0 ≡ one_of (get_or l.rec.marks j false)
