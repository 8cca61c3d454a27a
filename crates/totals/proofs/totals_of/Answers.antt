use Rattle.header.specs.Values.{block1_of}
use Rattle.accept.specs.Answers.{facts_of}
use Rattle.frame.specs.Counts.{counts_of}
use Rattle.totals.specs.Counting.{Totalled}
use Rattle.totals.specs.Files.{cal_of}
use Rattle.totals.proofs.Sizes.{totals_are}
use Rattle.totals.proofs.totals_of.Goals as goal
use Rattle.totals.proofs.totals_of.Goals.{After-totals_in}

-- what was counted are the file's own counts by its own calibration
counted : (c : After-totals_in) → let f = c.args.file.now in let t = c.totals_in.result in Totalled (cal_of f) (counts_of f) t.radiance t.error t.outside t.over t.uncalibrated
unfolding cal_of counts_of facts_of block1_of
counted c =
    rw (c.calibration.ensures, c.counts_in.ensures, c.facts_of-facts.ensures) at c.totals_in.ensures

pub returns : goal.returns
returns c = totals_are _ _ (counted (goal.at.returns c).After-totals_in)
