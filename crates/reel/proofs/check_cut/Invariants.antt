use Rattle.std.proofs.Common.{◌≡◌, ◌+◌, drop}
use Rattle.rules.specs.Rules.{fine, judge}
use Rattle.reel.specs.Reels.{filed}
use Rattle.reel.specs.Writing.{cut_up, sum_of, listed}
use Rattle.reel.proofs.check_cut.Given as goal

abbrev pub invariant-loop-n : goal.invariant-loop-n
invariant-loop-n l = record {
  rest : judge fine (filed (cut_up l.files l.at (drop l.n-index l.lengths))) ≡ judge fine (filed (listed l.files l.lengths));
  sum : l.at + sum_of (drop l.n-index l.lengths) ≡ sum_of l.lengths;
}
