-- Ask 5, night totals, in the words of specs/Night: what a call says and leaves, whatever run is posed (`Adds`), and what a run holds after any calls
-- from the empty one (`Night`). Each theorem is of the functions' own answers: `Post` is a function's contract as its source has it.
-- Assumes nothing.
use Rattle.std.proofs.Common.{ℕ, ◌≤◌, ◌<◌, ◌≡◌, refl, sym, ap, subst, ◌∙◌, List, pos, arith}
use Rattle.rules.specs.Rules.{turned, Ruling, fine, refused, paper}
use Rattle.accept.specs.Answers.{facts_of}
use Rattle.reading.specs.declared.Reading.{Reading}
use Rattle.reading.specs.declared.Reading.TheVariants.{Radiance, ErrorPixel, Outside, OverRange, Uncalibrated}
use Rattle.reading.specs.Counts.{calibration_of, reading_of}
use Rattle.night.specs.declared.Run.{Run}
use Rattle.night.specs.Runs.{empty_run, added, run_after}
use Rattle.night.proofs.add.Reads as adding
use Rattle.plugin.specs.declared.HsdFile.{HsdFile}
use Rattle.plugin.specs.declared.HsdReading.{HsdReading}
use Rattle.plugin.specs.Plugin.{shown_ruling, shown_reading, calibration_c}
use Rattle.plugin.proofs.hsd_accept.Reads as hsd_accept
use Rattle.plugin.proofs.hsd_reading.Reads as hsd_reading
use Rattle.plugin_night.specs.declared.HsdRun.{HsdRun}
use Rattle.plugin_night.specs.declared.HsdNight.{HsdNight}
use Rattle.plugin_night.proofs.hsd_night_add.Reads as hsd_adding
use Rattle.promises.specs.Night.{kind_of, held, Adds, Call, answer_of, Ran, run_of, ShownAs, zeros, RanC, Night}
use Rattle.promises.specs.Night as words
use Rattle.promises.proofs.Refusals.{shown_number}
use Rattle.promises.proofs.Told.{free, shown_accepted, shown_at}
use Rattle.promises.proofs.Adding as laws
use Rattle.promises.proofs.Adding.{Steps, none, step, nightly}

-- ---- one call

pub adds : (κ : _) (a : _) (r : _) (t : _) → adding.Post κ a r t → Adds (λ v. paper r.verdict ≡ v) a.0 a.1.0.now r.extra r.run
adds κ a r t p = laws.adds (λ v. paper r.verdict ≡ v) a.0 a.1.0.now refl p.0 p.1.0 p.1.1

shown_as : (r : HsdNight) (v : Ruling) → r.refusal ≡ (shown_ruling v).refusal → r.block ≡ (shown_ruling v).block → r.offset ≡ (shown_ruling v).offset → ShownAs r v
unfolding shown_ruling
shown_as r fine e f g = (e, f, g)
shown_as r (refused (turned n b p)) e f g = (e, f, g)

pub adds_c : (κ : _) (a : _) (r : _) (t : _) → hsd_adding.Post κ a r t → Adds (ShownAs r) (run_of a.0) a.1.0.now r.extra (run_of r.run)
adds_c κ a r t p =
    let run = run_of a.0 in
    let f = a.1.0.now in
    laws.adds (ShownAs r) run f {q = added run f}
    (shown_as r (added run f) (ap (λ (x : HsdNight). x.refusal) p) (ap (λ (x : HsdNight). x.block) p) (ap (λ (x : HsdNight). x.offset) p))
    refl
    (ap (λ (x : HsdNight). x.extra) p)
    (ap (λ (x : HsdNight). run_of x.run) p)

-- ---- runs of calls

steps : {cs : List Call} {run : Run} → Ran cs run → Steps cs run
steps (words.begun κ a r t p) = none p
steps (words.more {newest = newest} ran κ a r t p e) =
    step (steps ran) _ r.run (ap answer_of p.0 ∙ ap (λ (x : Run). answer_of (added x a.1.0.now)) e) (p.1.1 ∙ ap (λ (x : Run). run_after x a.1.0.now) e)

pub night : {cs : List Call} {run : Run} → Ran cs run → Night cs run
night ran = nightly (steps ran)

shown_answer : (v : Ruling) → (shown_ruling v).refusal ≡ answer_of v
unfolding shown_ruling
shown_answer fine = refl
shown_answer (refused (turned n b p)) = refl

from_zeros : run_of zeros ≡ empty_run
unfolding empty_run
from_zeros = refl

answer_c : (κ : _) (a : _) (r : _) (t : _) → hsd_adding.Post κ a r t → {run : HsdRun} → a.0 ≡ run → r.refusal ≡ answer_of (added (run_of run) a.1.0.now)
answer_c κ a r t p e =
    let f = a.1.0.now in
    ap (λ (x : HsdNight). x.refusal) p ∙ shown_answer (added (run_of a.0) f) ∙ ap (λ (x : HsdRun). answer_of (added (run_of x) f)) e

steps_c : {cs : List Call} {run : HsdRun} → RanC cs run → Steps cs (run_of run)
steps_c words.begun = none from_zeros
steps_c (words.more {newest = newest} ran κ a r t p e) =
    let f = a.1.0.now in
    step (steps_c ran) _ (run_of r.run)
    (answer_c κ a r t p e)
    (ap (λ (x : HsdNight). run_of x.run) p ∙ ap (λ (x : HsdRun). run_after (run_of x) f) e)

pub night_c : {cs : List Call} {run : HsdRun} → RanC cs run → Night cs (run_of run)
night_c ran = nightly (steps_c ran)

-- below 4,096 files no call is told RUN; from there on every call is, and the run is kept
pub below : {cs : List Call} {run : Run} → Ran cs run → held run < 4096 → (κ : _) (a : _) (r : _) (t : _) → adding.Post κ a r t → a.0 ≡ run → (b p : ℕ) → paper r.verdict ≡ refused (turned 19 b p) → ⊥
below ran h κ a r t p e b o z = laws.not_run (steps ran) h a.1.0.now b o (ap (λ (x : Run). added x a.1.0.now) (sym e) ∙ sym p.0 ∙ z)

pub from_there : {cs : List Call} {run : Run} → Ran cs run → 4096 ≤ held run → (κ : _) (a : _) (r : _) (t : _) → adding.Post κ a r t → a.0 ≡ run
    → (paper r.verdict ≡ refused (turned 19 0 0)) × (r.extra ≡ pos 0) × (r.run ≡ run)
from_there ran h κ a r t p e = let w = (adds κ a r t p).full (subst words.Full (sym e) (words.files h)) in (w.0, w.1, w.2 ∙ e)

pub below_c : {cs : List Call} {run : HsdRun} → RanC cs run → held (run_of run) < 4096 → (κ : _) (a : _) (r : _) (t : _) → hsd_adding.Post κ a r t → a.0 ≡ run → r.refusal ≡ 19 → ⊥
below_c {run = run} ran h κ a r t p e z = let f = a.1.0.now in shown_number 19 (λ i. omega arith) (added (run_of run) f) (shown_answer (added (run_of run) f) ∙ sym (answer_c κ a r t p e) ∙ z) (λ b o. laws.not_run (steps_c ran) h f b o)

pub from_there_c : {cs : List Call} {run : HsdRun} → RanC cs run → 4096 ≤ held (run_of run) → (κ : _) (a : _) (r : _) (t : _) → hsd_adding.Post κ a r t → a.0 ≡ run
    → ShownAs r (refused (turned 19 0 0)) × (r.extra ≡ pos 0) × (run_of r.run ≡ run_of run)
from_there_c ran h κ a r t p e =
    let w = (adds_c κ a r t p).full (subst (λ (x : HsdRun). words.Full (run_of x)) (sym e) (words.files h)) in
    (w.0, w.1, w.2 ∙ ap run_of e)

-- ---- the kinds are what C is told of a count

kind_shown : (y : Reading) → (shown_reading y).kind ≡ kind_of y
kind_shown (Radiance x) = refl
kind_shown ErrorPixel = refl
kind_shown Outside = refl
kind_shown OverRange = refl
kind_shown Uncalibrated = refl

-- of a file that C was told is accepted: `hsd_reading` calls a count by the kind that its total counts it under
pub called_so : (κ₁ : _) (a₁ : _) (r : _) (t₁ : _) → hsd_accept.Post κ₁ a₁ r t₁ → r.refusal ≡ 0 → (κ : _) (a : _) (x : _) (t : _) → hsd_reading.Post κ a x t → a.0 ≡ r
    → x.kind ≡ kind_of (reading_of (calibration_of (facts_of a₁.0.now).gain (facts_of a₁.0.now).constant (facts_of a₁.0.now).bits) a.1.0)
called_so κ₁ a₁ r t₁ p₁ z κ a x t p q =
    let s = a₁.0.now in
    let h = shown_at p₁ (shown_accepted s (free s (ap (λ (f : HsdFile). f.refusal) (sym p₁) ∙ z))) in
    ap (λ (y : HsdReading). y.kind) p ∙ kind_shown (reading_of (calibration_c a.0) a.1.0) ∙ ap (λ (f : HsdFile). kind_of (reading_of (calibration_c f) a.1.0)) q
    ∙ (λ i. kind_of (reading_of (record { gain = h.gain i; constant = h.constant i; bits = h.valid_bits i }) a.1.0))
