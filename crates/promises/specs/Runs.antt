-- Calls of `hsd_open` and `hsd_offer`, which C makes through the exports of panulimbe, by the contracts as their source has them.
use Rattle.std.specs.Prelude.{ℕ, ◌≡◌, List, [], ◌∷◌, map}
use Rattle.assembly.specs.History.{File}
use Rattle.plugin_frames.specs.declared.HsdSlate.{HsdSlate}
use Rattle.plugin.specs.declared.HsdAnswer.{HsdAnswer}
use Rattle.plugin_frames.proofs.hsd_open.Reads as opening
use Rattle.plugin_frames.proofs.hsd_offer.Reads as offering
use Rattle.plugin_frames.proofs.hsd_line.Reads as asking

-- an offer that C made
pub record Offer : Type 0 where
  pub file : File
  pub answer : HsdAnswer

abbrev pub files_of : List Offer → List File
files_of = map (λ (c : Offer). c.file)

abbrev pub answers_of : List Offer → List HsdAnswer
answers_of = map (λ (c : Offer). c.answer)

-- C opened a frame over the strip `lent`, which was not refused, and then offered files, each with that same slate and with marks and frame as the call before left
-- them. These are the offers, the newest first, and what marks and frame hold now.
pub data RanC (s : HsdSlate) (lent : List ℕ) : List Offer → List ℕ → List ℕ → Type 0 where
  opened : (κ : _) (a : _) (r : _) (t : _) → opening.Post κ a r t → a.0 ≡ s → a.1.1.0.now ≡ lent → r.refusal ≡ 0
      → RanC s lent [] t.1.0.now t.1.1.0.now
  offered : {cs : List Offer} {marks frame : List ℕ} → RanC s lent cs marks frame
      → (κ : _) (a : _) (r : _) (t : _) → offering.Post κ a r t → a.0 ≡ s → a.1.0.now ≡ marks → a.1.1.0.now ≡ frame
      → RanC s lent (record { file = a.1.1.1.0.now; answer = r } ∷ cs) t.1.0.now t.1.1.0.now

-- C asked for a line with a leader strip and an output: this many counts were copied, and this stands in the output afterwards.
pub data AskedC (s : HsdSlate) (marks frame leader : List ℕ) (line : ℕ) (out : List ℕ) : ℕ → List ℕ → Type 0 where
  asked : (κ : _) (a : _) (r : _) (t : _) → asking.Post κ a r t → a.0 ≡ s → a.1.0.now ≡ marks → a.1.1.0.now ≡ frame → a.1.1.1.0.now ≡ leader
      → a.1.1.1.1.0 ≡ line → a.1.1.1.1.1.0.now ≡ out → AskedC s marks frame leader line out r t.1.1.1.1.1.0.now
