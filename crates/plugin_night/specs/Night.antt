-- A run as C has it, and what C is shown of a call.
use Rattle.std.specs.Prelude.{ℤ}
use Rattle.rules.specs.Rules.{Ruling}
use Rattle.plugin.specs.Plugin.{shown_ruling}
use Rattle.night.specs.declared.Run.{Run}
use Rattle.plugin_night.specs.declared.HsdRun.{HsdRun}
use Rattle.plugin_night.specs.declared.HsdNight.{HsdNight}

abbrev pub run_in : HsdRun → Run
run_in r = record {
  totals = record { radiance = r.radiance; error = r.error; outside = r.outside; over = r.over; uncalibrated = r.uncalibrated };
  accepted = r.accepted;
  refused = r.refused;
}

abbrev pub run_out : Run → HsdRun
run_out r = record {
  radiance = r.totals.radiance;
  error = r.totals.error;
  outside = r.totals.outside;
  over = r.totals.over;
  uncalibrated = r.totals.uncalibrated;
  accepted = r.accepted;
  refused = r.refused;
}

abbrev pub shown_night : Ruling → ℤ → Run → HsdNight
shown_night v extra run = record { refusal = (shown_ruling v).refusal; block = (shown_ruling v).block; offset = (shown_ruling v).offset; extra = extra; run = run_out run }
