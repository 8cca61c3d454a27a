-- A reel in document 02's words: it is what its files are written as, and nothing else is.
use Rattle.std.specs.Prelude.{ℕ, ◌≤◌, ◌<◌, ◌≡◌, List, ◌∷◌, ◌++◌, map, length, drop}
use Rattle.wire.specs.Wire.{Bytes, join}
use Rattle.rules.specs.Rules.{Turned, turned, Ruling, fine, refused, judge, Reply, says, refuses}
use Rattle.accept.specs.Checks.{checks}
use Rattle.reel.specs.Reels.{File, reel_of, Good}

-- a reel can hold these parts: one or more, at most 255, and it is smaller than 2 to the 32
pub record Fits (ps : List File) : Type 0 where
  pub some : 1 ≤ length ps
  pub few : length ps ≤ 255
  pub short : length (reel_of ps) < 4294967296

-- these bytes are the parts end to end and then the trailer that points back at them, whatever the parts are
pub record Laid (s : List ℕ) (ps : List File) : Type 0 where
  pub is : s ≡ reel_of ps
  pub fits : Fits ps

-- a reel and its files: each part is an accepted file
pub record Reel (s : List ℕ) (fs : List File) : Type 0 where
  pub laid : Laid s fs
  pub files : Good fs

-- a list as it is handed over: its files end to end, and their lengths
pub record Handed (files lengths : List ℕ) (fs : List File) : Type 0 where
  pub together : files ≡ join fs
  pub each : lengths ≡ map length fs

-- a file's own refusal
abbrev pub Own : File → Turned → Type 0
Own f u = judge fine (checks f) ≡ refused u

-- What opening these bytes says, whatever they are: how many files a reel has; under a sound trailer the first bad part's own refusal; and else
-- REEL, before any part is read. `Says` is how an answer is told.
pub record Opening (Says : Reply ℕ → Type 0) (s : List ℕ) : Type 0 where
  pub good : (fs : List File) → Reel s fs → Says (says (length fs))
  pub own : (fs gs : List File) (f : File) (u : Turned) → Laid s (fs ++ (f ∷ gs)) → Good fs → Own f u → Says (refuses u)
  pub broken : Bytes s → ((ps : List File) → Laid s ps → ⊥) → Says (refuses (turned 18 0 0))

-- What writing says and leaves, whatever is handed over: what the list is written as and then the rest of the output as it was; the first bad
-- file's own refusal; last ROOM; and REEL before all of these, where no list that a reel can hold was handed over. A refusal leaves the output.
pub record Writing (Says : Ruling → Type 0) (bytes : List File → List ℕ) (files lengths out left : List ℕ) : Type 0 where
  pub good : (fs : List File) → Handed files lengths fs → Fits fs → Good fs → length (bytes fs) ≤ length out
      → Says fine × (left ≡ bytes fs ++ drop (length (bytes fs)) out)
  pub own : (fs gs : List File) (f : File) (u : Turned) → Handed files lengths (fs ++ (f ∷ gs)) → Fits (fs ++ (f ∷ gs)) → Good fs → Own f u
      → Says (refused u) × (left ≡ out)
  pub room : (fs : List File) → Handed files lengths fs → Fits fs → Good fs → length out < length (bytes fs)
      → Says (refused (turned 17 0 0)) × (left ≡ out)
  pub reel : ((ps : List File) → Handed files lengths ps → Fits ps → ⊥) → Says (refused (turned 18 0 0)) × (left ≡ out)
