-- A run of up to 4,096 files: when it takes one more, and what it holds after one.
use Rattle.std.specs.Prelude.{ℕ, zero, suc, ◌+◌, ◌^◌, ◌<◌, Bool, true, false, cond, not, ◌&&◌, List, [], ◌∷◌, eqb, leb, ltb, ℤ, pos, ◌-ℤ◌, get_or, set, replicate}
use Rattle.rules.specs.Rules.{Row, row, tables, Ruling, fine, refused, turned, judge, after}
use Rattle.accept.specs.Checks.{checks}
use Rattle.totals.specs.declared.Totals.{Totals}
use Rattle.totals.specs.Files.{totals_of, pixels_of}
use Rattle.night.specs.declared.Run.{Run}

-- the sum of the first n places
unfoldable pub sum_to : ℕ → List ℕ → ℕ
sum_to zero xs = 0
sum_to (suc n) xs = sum_to n xs + get_or xs n 0

-- none of the first n places is above 4,096
unfoldable pub small_to : ℕ → List ℕ → Bool
small_to zero xs = true
small_to (suc n) xs = cond (ltb 4096 (get_or xs n 0)) false (small_to n xs)

-- a run with no file; the place in `refused` is the refusal's number
unfoldable pub empty_run : Run
empty_run = record { totals = record { radiance = 0; error = 0; outside = 0; over = 0; uncalibrated = 0 }; accepted = 0; refused = replicate 64 0 }

-- how many files it holds
unfoldable pub held_by : Run → ℕ
held_by r = r.accepted + sum_to 64 r.refused

-- a kind's total is at most 4,096 x 484,000,000
abbrev pub within : ℕ → Bool
within total = not (ltb 1982464000000 total)

-- 19 RUN: it holds 4,096 files or more, a total is above its limit, or a refusal's number is above 4,096
unfoldable pub open_run : Run → Bool
open_run r =
    not (leb 4096 (held_by r))
    && within r.totals.radiance
    && within r.totals.error
    && within r.totals.outside
    && within r.totals.over
    && within r.totals.uncalibrated
    && small_to 64 r.refused

-- RUN first of all, and then the file's own checks
unfoldable pub opening : Run → List Row
opening r = row (open_run r) 19 0 0 ∷ []

unfoldable pub adding : Run → List ℕ → List Row
adding r f = tables (opening r ∷ checks f ∷ [])

abbrev pub added : Run → List ℕ → Ruling
added r f = judge fine (adding r f)

-- the sums of a run and the totals of a file are far below what their numbers can hold
abbrev pub Room : Run → Totals → Type 0
Room r t =
    (r.totals.radiance + t.radiance < 2 ^ 63)
    × (r.totals.error + t.error < 2 ^ 63)
    × (r.totals.outside + t.outside < 2 ^ 63)
    × (r.totals.over + t.over < 2 ^ 63)
    × (r.totals.uncalibrated + t.uncalibrated < 2 ^ 63)
    × (r.accepted < 4096)

-- a file that is accepted: each kind's total grows by its own number
unfoldable pub with_totals : Run → Totals → Run
with_totals r t = record {
  totals = record {
    radiance = r.totals.radiance + t.radiance;
    error = r.totals.error + t.error;
    outside = r.totals.outside + t.outside;
    over = r.totals.over + t.over;
    uncalibrated = r.totals.uncalibrated + t.uncalibrated;
  };
  accepted = r.accepted + 1;
  refused = r.refused;
}

-- a file that is refused: only that refusal's number grows, and RUN keeps all
unfoldable pub with_refusal : Run → ℕ → Run
with_refusal r n = cond (eqb n 19) r (record { totals = r.totals; accepted = r.accepted; refused = set r.refused n (get_or r.refused n 0 + 1) })

unfoldable pub ruled_run : Ruling → Run → List ℕ → Run
ruled_run fine r f = with_totals r (totals_of f)
ruled_run (refused (turned n b p)) r f = with_refusal r n

unfoldable pub run_after : Run → List ℕ → Run
run_after r f = ruled_run (added r f) r f

-- the error pixels found, less those that block 10 lists; 0 of a refused file
unfoldable pub extra_of : List ℕ → ℤ
extra_of f = pos (totals_of f).error -ℤ pos (pixels_of f)

unfoldable pub extra_after : Run → List ℕ → ℤ
extra_after r f = after (added r f) (pos 0) (extra_of f)
