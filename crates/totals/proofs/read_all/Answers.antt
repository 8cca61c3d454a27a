use Rattle.std.proofs.Common.{◌≡◌, arith, rules}
use Rattle.totals.proofs.Plain.{totalled_none, totalled_next, totalled_all}
use Rattle.totals.proofs.read_all.Goals as goal

pub loop-i-init : goal.loop-i-init
loop-i-init c =
    let zeros : c.default-totals.result ≡ record { radiance = 0; error = 0; outside = 0; over = 0; uncalibrated = 0 } = search rules in
    rw zeros (record { so_far = totalled_none _; radiance_fits = search rules; error_fits = search rules; outside_fits = search rules; over_fits = search rules; uncalibrated_fits = search rules })

pub loop-i-preserved : goal.loop-i-preserved
loop-i-preserved c = record {
  so_far = rw (c.with_one-totals.ensures, c.read.ensures, c.count_of-count.ensures) (totalled_next _ _ _ _ c.loop-i.totals (omega arith) c.loop-i.invariant.so_far);
  radiance_fits = search rules;
  error_fits = search rules;
  outside_fits = search rules;
  over_fits = search rules;
  uncalibrated_fits = search rules;
}

pub returns : goal.returns
returns c = totalled_all _ _ c.loop-i.i _ (omega arith) c.loop-i.invariant.so_far
