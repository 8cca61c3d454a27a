-- Why a file is not a segment of a slate's frame, in document 02's words: nothing here is taken from the tests that the functions make.
use Rattle.std.specs.Prelude.{ℕ, ◌+◌, ◌*◌, ◌-◌, ◌≤◌, ◌<◌, ◌≡◌, Bool, false, List, [], ◌∷◌, length, get_or, Option, Some, None}
use Rattle.rules.specs.Rules.{Turned, turned, fine, refused, judge, paper, Reply, says, refuses}
use Rattle.accept.specs.declared.Facts.{Facts}
use Rattle.accept.specs.Checks.{checks}
use Rattle.accept.specs.Answers.{facts_of}
use Rattle.slate.specs.declared.Slate.{Slate}
use Rattle.slate.specs.declared.Part.{Part}
use Rattle.slate.specs.declared.Part.TheVariants.{Satellite, Day, Timeline, Band, Area, Columns, Total, Lines, FirstLine}
use Rattle.slate.specs.declared.Difference.{Difference}
use Rattle.slate.specs.Parts.{Sides, sides}
use Rattle.frame.specs.Records.{marked}
use Rattle.frame.proofs.offer.Reads as offer
use Rattle.plugin_frames.specs.declared.HsdSlate.{HsdSlate}
use Rattle.plugin_frames.specs.declared.HsdWhy.{HsdWhy}
use Rattle.plugin_frames.proofs.hsd_offer.Reads as hsd_offer
use Rattle.promises.specs.Reels.{Own}
use Rattle.promises.specs.Heights.{height, lines_of}
use Rattle.promises.specs.Slated.{Good, Match, slate_from}

-- The parts in the ask's order, each with the slate's value and the file's. The slate's lines and first line are those of the segment of the file's number.
abbrev pub nine : Slate → Facts → List Sides
nine s f =
    sides Satellite s.satellite f.satellite
    ∷ sides Day s.day f.day
    ∷ sides Timeline s.timeline f.timeline
    ∷ sides Band s.band f.band
    ∷ sides Area s.area f.area
    ∷ sides Columns s.columns f.columns
    ∷ sides Total s.total f.total
    ∷ sides Lines (height s f.number) f.lines
    ∷ sides FirstLine (1 + lines_of s (f.number - 1)) f.first
    ∷ []

-- the first disagreement: that part differs, and all earlier ones agree
pub data Disagreement : List Sides → Difference → Type 0 where
  here : {part : Part} {slate file : ℕ} {ps : List Sides} → (slate ≡ file → ⊥) → Disagreement (sides part slate file ∷ ps) (record { part = part; slate = slate; file = file })
  later : {part : Part} {slate file : ℕ} {ps : List Sides} {d : Difference} → slate ≡ file → Disagreement ps d → Disagreement (sides part slate file ∷ ps) d

abbrev pub Accepted : List ℕ → Type 0
Accepted f = judge fine (checks f) ≡ fine

-- What is said, whatever the slate and the bytes are. `Says` is how an answer is told.
pub record Reasoned (Says : Reply (Option Difference) → Type 0) (s : Slate) (f : List ℕ) : Type 0 where
  -- a bad slate's refusal comes first, then the file's own
  pub bad : (Good s → ⊥) → Says (refuses (turned 13 0 0))
  pub own : Good s → (u : Turned) → Own f u → Says (refuses u)
  pub agrees : Good s → Accepted f → Match s (facts_of f) → Says (says None)
  pub differs : Good s → Accepted f → (d : Difference) → Disagreement (nine s (facts_of f)) d → Says (says (Some d))

-- What it means that they were said to agree, or to differ.
pub record Agreed (s : Slate) (f : List ℕ) : Type 0 where
  pub slate : Good s
  pub file : Accepted f
  pub match : Match s (facts_of f)

pub record Differed (s : Slate) (f : List ℕ) (d : Difference) : Type 0 where
  pub slate : Good s
  pub file : Accepted f
  pub first : Disagreement (nine s (facts_of f)) d

-- an offer gets so far that the file is compared with the slate: no number above N is in, and the frame has a count for each column of each line
pub record SoFar (s : Slate) (marks : List Bool) (size : ℕ) : Type 0 where
  pub above : (k : ℕ) → s.total < k → marked marks k ≡ false
  pub frame : size ≡ lines_of s s.total * s.columns

-- offering could not answer 15: no call does with that slate and file, whatever the record and the frame are
abbrev pub Never : Slate → List ℕ → Type 0
Never s f = (κ : _) (a : _) (r : _) (t : _) → offer.Post κ a r t → a.0 ≡ s → a.1.1.1.0.now ≡ f → (b p : ℕ) → paper r.verdict ≡ refused (turned 15 b p) → ⊥

-- every call that gets so far answers 15
abbrev pub Always : Slate → List ℕ → Type 0
Always s f = (κ : _) (a : _) (r : _) (t : _) → offer.Post κ a r t → a.0 ≡ s → a.1.1.1.0.now ≡ f → SoFar s a.1.0.marks (length a.1.1.0.now) → paper r.verdict ≡ refused (turned 15 0 0)

-- ---- from C

-- the parts by C's numbers
abbrev pub rank : Part → ℕ
rank Satellite = 1
rank Day = 2
rank Timeline = 3
rank Band = 4
rank Area = 5
rank Columns = 6
rank Total = 7
rank Lines = 8
rank FirstLine = 9

abbrev pub ShownWhy : HsdWhy → Reply (Option Difference) → Type 0
ShownWhy r (says None) = r ≡ record { refusal = 0; block = 0; part = 0; offset = 0; slate = 0; file = 0 }
ShownWhy r (says (Some d)) = r ≡ record { refusal = 0; block = 0; part = rank d.part; offset = 0; slate = d.slate; file = d.file }
ShownWhy r (refuses (turned n b p)) = r ≡ record { refusal = n; block = b; part = 0; offset = p; slate = 0; file = 0 }

-- marks are 99 bytes, each 0 or 1, with none set above N
pub record SoFarC (s : HsdSlate) (marks : List ℕ) (size : ℕ) : Type 0 where
  pub long : length marks ≡ 99
  pub bits : (i : ℕ) → get_or marks i 0 ≤ 1
  pub above : (i : ℕ) → s.total ≤ i → get_or marks i 0 ≡ 0
  pub frame : size ≡ lines_of (slate_from s) s.total * s.columns

abbrev pub NeverC : HsdSlate → List ℕ → Type 0
NeverC s f = (κ : _) (a : _) (r : _) (t : _) → hsd_offer.Post κ a r t → a.0 ≡ s → a.1.1.1.0.now ≡ f → r.refusal ≡ 15 → ⊥

abbrev pub AlwaysC : HsdSlate → List ℕ → Type 0
AlwaysC s f = (κ : _) (a : _) (r : _) (t : _) → hsd_offer.Post κ a r t → a.0 ≡ s → a.1.1.1.0.now ≡ f → SoFarC s a.1.0.now (length a.1.1.0.now) → (r.refusal ≡ 15) × (r.block ≡ 0) × (r.offset ≡ 0)
