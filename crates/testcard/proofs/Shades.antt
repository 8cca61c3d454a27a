-- A level without its last bits.
use Rattle.std.proofs.Common.{ℕ, ◌-◌, ◌/◌, ◌^◌, ◌<◌, arith}
use Rattle.std.proofs.Math.Pow.{shr_lt, pow_mono}
use native.Mathlib.Nat.{lt_of_lt_of_le}

pub shade : (level bits : ℕ) → level < 2 ^ 16 → level / 2 ^ (16 - bits) < 2 ^ bits
shade level bits h = shr_lt bits (16 - bits) (lt_of_lt_of_le h (pow_mono {i = 16} (omega arith)))
