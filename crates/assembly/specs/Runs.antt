-- Calls of `frame::open`, `offer` and `line_of`, by the contracts as their source has them: `Post` is that of a call with lifetimes κ,
-- arguments a and result r, where t is what stands behind the references at exit.
use Rattle.std.specs.Prelude.{ℕ, ◌≡◌, List, [], ◌∷◌, map}
use Rattle.rules.specs.Rules.{Ruling, Verdict, paper}
use Rattle.slate.specs.declared.Slate.{Slate}
use Rattle.frame.specs.declared.Record.{Record}
use Rattle.frame.proofs.open.Reads as opening
use Rattle.frame.proofs.offer.Reads as offering
use Rattle.frame.proofs.line_of.Reads as asking
use Rattle.assembly.specs.History.{File}

-- an offer that was made
pub record Call : Type 0 where
  pub file : File
  pub verdict : Verdict

abbrev pub files : List Call → List File
files = map (λ (c : Call). c.file)

abbrev pub rulings : List Call → List Ruling
rulings = map (λ (c : Call). paper c.verdict)

-- A frame was opened over the strip `lent`, and then files were offered, each with that same slate, the newest record and the frame as the call
-- before left it. These are the calls, the newest first; the record that is now the newest; and what the frame holds now.
pub data Ran (s : Slate) (lent : List ℕ) : List Call → Record → List ℕ → Type 0 where
  opened : (κ : _) (a : _) (r : _) (t : _) → opening.Post κ a r t → a.0 ≡ s → a.1.0.now ≡ lent → Ran s lent [] r.rec t.1.0.now
  offered : {cs : List Call} {newest : Record} {frame : List ℕ} → Ran s lent cs newest frame
      → (κ : _) (a : _) (r : _) (t : _) → offering.Post κ a r t → a.0 ≡ s → a.1.0 ≡ newest → a.1.1.0.now ≡ frame
      → Ran s lent (record { file = a.1.1.1.0.now; verdict = r.verdict } ∷ cs) r.rec t.1.1.0.now

-- A line was asked for with a leader strip, and this part came back.
pub data Asked (s : Slate) (newest : Record) (frame leader : List ℕ) (line : ℕ) : List ℕ → Type 0 where
  asked : (κ : _) (a : _) (r : _) (t : _) → asking.Post κ a r t → a.0 ≡ s → a.1.0 ≡ newest → a.1.1.0.now ≡ frame
      → a.1.1.1.0.now ≡ leader → a.1.1.1.1.0.0 ≡ line → Asked s newest frame leader line r.now
