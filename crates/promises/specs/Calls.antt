-- Calls of `accept`, of the four readers and of the writer, by the contracts as their source has them: `Post` is that of a call with
-- lifetimes κ, arguments a and result r, where t is what stands behind the references at exit.
use Rattle.std.specs.Prelude.{ℕ, ◌≤◌, ◌≡◌, List, [], ◌∷◌, length, take, Result}
use Rattle.rules.specs.Rules.{Verdict}
use Rattle.rules.specs.declared.Refusal.{Refusal}
use Rattle.header.specs.declared.Header.{Header}
use Rattle.header.specs.Places.{a_of, b_of, c_of}
use Rattle.header.specs.Encode.{Entries}
use Rattle.accept.specs.declared.Facts.{Facts}
use Rattle.writer.specs.Sizes.{entries_from}
use Rattle.accept.proofs.accept.Reads as accept
use Rattle.reader.proofs.read.Reads as read
use Rattle.reader.proofs.read_shifts.Reads as read_shifts
use Rattle.reader.proofs.read_times.Reads as read_times
use Rattle.reader.proofs.read_errors.Reads as read_errors
use Rattle.writer.proofs.write.Reads as write

-- the answer x was given to the file s
pub data Answered (s : List ℕ) : Result Facts Refusal → Type 0 where
  answered : (κ : _) (a : _) (x : _) (t : _) → accept.Post κ a x t → a.0.now ≡ s → Answered s x

-- All four readers were called on the file s, over slices with room for its entries. These are the verdict on its values, the verdicts on the entries of blocks 8, 9 and 10,
-- the values, and the entries, which stand first in the slices.
pub data Read (s : List ℕ) : Verdict → List Verdict → Header → Entries → Type 0 where
  all_four :
      (κ₁ : _) (a₁ : _) (r₁ : _) (t₁ : _) → read.Post κ₁ a₁ r₁ t₁ → a₁.0.now ≡ s
      → (κ₈ : _) (a₈ : _) (r₈ : _) (t₈ : _) → read_shifts.Post κ₈ a₈ r₈ t₈ → a₈.0.now ≡ s
      → a_of s ≤ length a₈.1.0.now → a_of s ≤ length a₈.1.1.0.now → a_of s ≤ length a₈.1.1.1.0.now
      → (κ₉ : _) (a₉ : _) (r₉ : _) (t₉ : _) → read_times.Post κ₉ a₉ r₉ t₉ → a₉.0.now ≡ s
      → b_of s ≤ length a₉.1.0.now → b_of s ≤ length a₉.1.1.0.now
      → (κ : _) (a : _) (r : _) (t : _) → read_errors.Post κ a r t → a.0.now ≡ s
      → c_of s ≤ length a.1.0.now → c_of s ≤ length a.1.1.0.now
      → Read s r₁.verdict (r₈ ∷ r₉ ∷ r ∷ []) r₁.header
      (entries_from (take (a_of s) t₈.1.0.now) (take (a_of s) t₈.1.1.0.now) (take (a_of s) t₈.1.1.1.0.now)
      (take (b_of s) t₉.1.0.now) (take (b_of s) t₉.1.1.0.now) (take (c_of s) t.1.0.now) (take (c_of s) t.1.1.0.now))

-- The writer was given the values v and the entries e over the output l. These are its verdict, and the output afterwards.
pub data Written (l : List ℕ) (v : Header) (e : Entries) : Verdict → List ℕ → Type 0 where
  written : (κ : _) (a : _) (r : _) (t : _) → write.Post κ a r t → a.0.now ≡ l → a.1.0 ≡ v
      → entries_from a.1.1.0.now a.1.1.1.0.now a.1.1.1.1.0.now a.1.1.1.1.1.0.now a.1.1.1.1.1.1.0.now a.1.1.1.1.1.1.1.0.now a.1.1.1.1.1.1.1.1.0.now ≡ e
      → Written l v e r t.0.now
