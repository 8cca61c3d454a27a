use Rattle.std.proofs.Common.{◌≡◌, ◌&&◌}
use Rattle.plugin_frames.specs.Strips.{bits_from}
use Rattle.plugin_frames.proofs.good_marks.Given as goal

abbrev pub invariant-loop-mark : goal.invariant-loop-mark
invariant-loop-mark l = bits_from l.marks 0 ≡ (l.good && bits_from l.marks l.mark-index)
