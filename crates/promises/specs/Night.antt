-- Night totals in document 02's words: nothing here is taken from the definitions of `totals` and `night`.
use Rattle.std.specs.Prelude.{ℕ, zero, suc, ◌+◌, ◌*◌, ◌-◌, ◌≤◌, ◌<◌, ◌≡◌, cond, List, [], ◌∷◌, eqb, ℤ, pos, ◌-ℤ◌, length, get_or, set, replicate}
use Rattle.rules.specs.Rules.{turned, Ruling, fine, refused, judge, paper}
use Rattle.header.specs.Entries.{entries_of}
use Rattle.accept.specs.Checks.{checks}
use Rattle.accept.specs.Answers.{facts_of}
use Rattle.reading.specs.declared.Reading.{Reading}
use Rattle.reading.specs.declared.Reading.TheVariants.{Radiance, ErrorPixel, Outside, OverRange, Uncalibrated}
use Rattle.reading.specs.declared.Calibration.{Calibration}
use Rattle.reading.specs.Counts.{calibration_of, reading_of}
use Rattle.frame.specs.Counts.{counts_of}
use Rattle.totals.specs.declared.Totals.{Totals}
use Rattle.night.specs.declared.Run.{Run}
use Rattle.night.proofs.empty.Reads as beginning
use Rattle.night.proofs.add.Reads as adding
use Rattle.plugin_night.specs.declared.HsdRun.{HsdRun}
use Rattle.plugin_night.specs.declared.HsdNight.{HsdNight}
use Rattle.plugin_night.proofs.hsd_night_add.Reads as hsd_adding

-- ---- the five kinds of reading, by C's numbers

abbrev pub kind_of : Reading → ℕ
kind_of (Radiance x) = 0
kind_of ErrorPixel = 1
kind_of Outside = 2
kind_of OverRange = 3
kind_of Uncalibrated = 4

abbrev pub total : Totals → ℕ → ℕ
total t k = get_or (t.radiance ∷ t.error ∷ t.outside ∷ t.over ∷ t.uncalibrated ∷ []) k 0

-- how many of these counts read as a kind
unfoldable pub read_as : ℕ → Calibration → List ℕ → ℕ
read_as k cal [] = 0
read_as k cal (c ∷ cs) = cond (eqb (kind_of (reading_of cal c)) k) 1 0 + read_as k cal cs

-- how many of a file's, by block 5's own gain, constant and valid bits
unfoldable pub found : ℕ → List ℕ → ℕ
found k f = read_as k (calibration_of (facts_of f).gain (facts_of f).constant (facts_of f).bits) (counts_of f)

unfoldable pub sum : List ℕ → ℕ
sum [] = 0
sum (x ∷ xs) = x + sum xs

-- the error pixels that its block 10 lists
unfoldable pub listed : List ℕ → ℕ
listed f = sum (entries_of f).pixels

-- ---- one call, whatever run is posed

unfoldable pub places_to : ℕ → List ℕ → ℕ
places_to zero xs = 0
places_to (suc n) xs = places_to n xs + get_or xs n 0

-- the files that a run holds: the accepted ones and all the refused ones
unfoldable pub held : Run → ℕ
held r = r.accepted + places_to 64 r.refused

-- RUN: it already holds 4,096 files or more, has a kind's total above 4,096 x 484,000,000, or a refusal count above 4,096
pub data Full (r : Run) : Type 0 where
  files : 4096 ≤ held r → Full r
  kind : (k : ℕ) → 4096 * 484000000 < total r.totals k → Full r
  refusal : (n : ℕ) → n < 64 → 4096 < get_or r.refused n 0 → Full r

-- an accepted file is in: every kind's total grows by its own number
pub record Grown (f : List ℕ) (r next : Run) : Type 0 where
  pub totals : (k : ℕ) → total next.totals k ≡ total r.totals k + found k f
  pub accepted : next.accepted ≡ r.accepted + 1
  pub refused : next.refused ≡ r.refused

-- a refused file is in: only that refusal's number grows
pub record Counted (n : ℕ) (r next : Run) : Type 0 where
  pub totals : next.totals ≡ r.totals
  pub accepted : next.accepted ≡ r.accepted
  pub refused : next.refused ≡ set r.refused n (get_or r.refused n 0 + 1)

-- What a call says, whatever the run and the file are, the difference beside it, and the run that it gives: RUN first of all, with the run kept; else
-- what the file itself is told. `Says` is how an answer is told.
pub record Adds (Says : Ruling → Type 0) (r : Run) (f : List ℕ) (extra : ℤ) (next : Run) : Type 0 where
  pub full : Full r → Says (refused (turned 19 0 0)) × (extra ≡ pos 0) × (next ≡ r)
  pub own : (Full r → ⊥) → (n b p : ℕ) → judge fine (checks f) ≡ refused (turned n b p) → Says (refused (turned n b p)) × (extra ≡ pos 0) × Counted n r next
  pub good : (Full r → ⊥) → judge fine (checks f) ≡ fine → Says fine × (extra ≡ pos (found 1 f) -ℤ pos (listed f)) × Grown f r next

-- ---- a run of calls from the empty run

-- a file, and the number that it was answered: 0 is accepted
pub record Call : Type 0 where
  pub file : List ℕ
  pub answer : ℕ

abbrev pub answer_of : Ruling → ℕ
answer_of fine = 0
answer_of (refused (turned n b p)) = n

-- A run was begun, and files were added, each to the newest run. These are the calls, the newest first, and the run that is now the newest.
pub data Ran : List Call → Run → Type 0 where
  begun : (κ : _) (a : _) (r : _) (t : _) → beginning.Post κ a r t → Ran [] r
  more : {cs : List Call} {newest : Run} → Ran cs newest → (κ : _) (a : _) (r : _) (t : _) → adding.Post κ a r t → a.0 ≡ newest
      → Ran (record { file = a.1.0.now; answer = answer_of (paper r.verdict) } ∷ cs) r.run

-- From C: a run in C's struct, each number under its name, and an answer in C's numbers, where 0 is no refusal.
abbrev pub run_of : HsdRun → Run
run_of r = record {
  totals = record { radiance = r.radiance; error = r.error; outside = r.outside; over = r.over; uncalibrated = r.uncalibrated };
  accepted = r.accepted;
  refused = r.refused;
}

abbrev pub ShownAs : HsdNight → Ruling → Type 0
ShownAs r fine = (r.refusal ≡ 0) × (r.block ≡ 0) × (r.offset ≡ 0)
ShownAs r (refused (turned n b p)) = (r.refusal ≡ n) × (r.block ≡ b) × (r.offset ≡ p)

-- the same run of calls, which begins as zeros
abbrev pub zeros : HsdRun
zeros = record { radiance = 0; error = 0; outside = 0; over = 0; uncalibrated = 0; accepted = 0; refused = replicate 64 0 }

pub data RanC : List Call → HsdRun → Type 0 where
  begun : RanC [] zeros
  more : {cs : List Call} {newest : HsdRun} → RanC cs newest → (κ : _) (a : _) (r : _) (t : _) → hsd_adding.Post κ a r t → a.0 ≡ newest
      → RanC (record { file = a.1.0.now; answer = r.refusal } ∷ cs) r.run

-- how many calls were answered so
unfoldable pub answered : ℕ → List Call → ℕ
answered n [] = 0
answered n (c ∷ cs) = cond (eqb c.answer n) 1 0 + answered n cs

-- a number of each accepted file, summed
unfoldable pub over_accepted : (List ℕ → ℕ) → List Call → ℕ
over_accepted h [] = 0
over_accepted h (c ∷ cs) = cond (eqb c.answer 0) (h c.file) 0 + over_accepted h cs

-- columns x lines
unfoldable pub area : List ℕ → ℕ
area f = (facts_of f).columns * (facts_of f).lines

-- What a run holds after these calls.
pub record Night (cs : List Call) (r : Run) : Type 0 where
  -- each total is the sum over the accepted files of how many counts read as its kind
  pub totals : (k : ℕ) → total r.totals k ≡ over_accepted (found k) cs
  -- the five add up to columns x lines of the accepted files
  pub five : r.totals.radiance + r.totals.error + r.totals.outside + r.totals.over + r.totals.uncalibrated ≡ over_accepted area cs
  pub accepted : r.accepted ≡ answered 0 cs
  -- place n is how many were answered n; nothing stands at 0, and RUN is not counted
  pub refused : (n : ℕ) → 1 ≤ n → n < 64 → (n ≡ 19 → ⊥) → get_or r.refused n 0 ≡ answered n cs
  pub no_zeroth : get_or r.refused 0 0 ≡ 0
  pub no_run : get_or r.refused 19 0 ≡ 0
  -- of the calls exactly the first 4,096 were not told RUN
  pub room : answered 19 cs ≡ length cs - 4096
