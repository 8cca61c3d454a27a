-- From 16 bits on, no count is over range.
-- Assumes nothing.
use mathlib.Core.Path.{◌≡◌}
use mathlib.Core.Bool.{false}
use Prim.Native.Nat.{ℕ, ◌^◌, ◌≤◌, ◌<◌}
use native.Mathlib.Nat.{lt_of_lt_of_le}
use lib.Dec.{leb}
use lib.Pow.{pow_mono}
use borrow.Author.Tests.{lt-leb}

pub beyond : (b c : ℕ) → 16 ≤ b → c < 65536 → leb (2 ^ b) c ≡ false
beyond b c h l = lt-leb _ _ (lt_of_lt_of_le l (pow_mono h))
