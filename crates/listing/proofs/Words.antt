-- A word after a space, the room that a number takes there, and a line at the front of a buffer.
-- Assumes nothing.
use mathlib.Core.Path.{sym}
use mathlib.Core.List.{List, [], ◌∷◌, append-nil}
use Prim.Native.Nat.{ℕ, suc, ◌+◌, ◌^◌, ◌≤◌, ◌<◌}
use native.Mathlib.Omega.{arith}
use lib.ListN.{length, length-append}
use Rattle.wire.specs.Wire.{join, Stored}
use Rattle.wire.proofs.Stores.{puts, next, done, front}
use Rattle.listing.specs.Lines.{width, numeral, plain, listed, Listed}
use Rattle.listing.proofs.Digits.{width_most, length_decimal}

-- a space and a word, stored one after the other
pub spaced : {w at : ℕ} {l m out word : List ℕ} → Stored 1 l at (32 ∷ []) m → Stored w m (at + 1) word out → Stored (1 + w) l at (32 ∷ word) out
unfolding join
spaced {w} s t = rw append-nil at (puts (1 + w) (omega arith) (next s (next t done)))

-- how much a number and its space take, by a power of ten that is above the number
pub room : {r n at : ℕ} {l out : List ℕ} (w : ℕ) → Stored r l at (plain n) out → n < 10 ^ suc w → r ≤ suc (suc w)
unfolding numeral
room {n = n} w s h = omega (arith, s.long, length_decimal (width n n) n, width_most n w n h)

-- a line at the front of a buffer with room for it
pub at_front : {r : ℕ} {s before after : List ℕ} → Stored r before 0 (listed s) after → r ≤ length before → Listed s before after r
at_front t h = record { long = sym t.long; is = rw t.long (front t h) }

-- the line lies within the buffer
pub within : {r : ℕ} {s before after : List ℕ} → Listed s before after r → r ≤ length after
within t = rw (t.is, length-append) (omega (arith, t.long))
