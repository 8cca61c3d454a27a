-- Eight bytes as std's words have them.
use Rattle.std.proofs.Common.{◌≡◌, ℕ, List, [], ◌∷◌, length, reverse, w64, arith}
use Rattle.std.specs.Int.{from_le_bytes, from_be_bytes}
use borrow.Author.Tests.{eq-eqb, ne_eqb}
use Rattle.wire.specs.Wire.{num, low}

low_little : (bs : List ℕ) → length bs ≡ 8 → from_le_bytes w64 bs ≡ low bs
unfolding low
low_little [] z = absurd (omega arith)
low_little (a ∷ []) z = absurd (omega arith)
low_little (a ∷ b ∷ []) z = absurd (omega arith)
low_little (a ∷ b ∷ c ∷ []) z = absurd (omega arith)
low_little (a ∷ b ∷ c ∷ d ∷ []) z = absurd (omega arith)
low_little (a ∷ b ∷ c ∷ d ∷ e ∷ []) z = absurd (omega arith)
low_little (a ∷ b ∷ c ∷ d ∷ e ∷ f ∷ []) z = absurd (omega arith)
low_little (a ∷ b ∷ c ∷ d ∷ e ∷ f ∷ g ∷ []) z = absurd (omega arith)
low_little (a ∷ b ∷ c ∷ d ∷ e ∷ f ∷ g ∷ h ∷ []) z = omega arith
low_little (a ∷ b ∷ c ∷ d ∷ e ∷ f ∷ g ∷ h ∷ i ∷ bs) z = absurd (omega arith)

low_big : (bs : List ℕ) → length bs ≡ 8 → from_be_bytes w64 bs ≡ low (reverse bs)
unfolding low
low_big [] z = absurd (omega arith)
low_big (a ∷ []) z = absurd (omega arith)
low_big (a ∷ b ∷ []) z = absurd (omega arith)
low_big (a ∷ b ∷ c ∷ []) z = absurd (omega arith)
low_big (a ∷ b ∷ c ∷ d ∷ []) z = absurd (omega arith)
low_big (a ∷ b ∷ c ∷ d ∷ e ∷ []) z = absurd (omega arith)
low_big (a ∷ b ∷ c ∷ d ∷ e ∷ f ∷ []) z = absurd (omega arith)
low_big (a ∷ b ∷ c ∷ d ∷ e ∷ f ∷ g ∷ []) z = absurd (omega arith)
low_big (a ∷ b ∷ c ∷ d ∷ e ∷ f ∷ g ∷ h ∷ []) z = omega arith
low_big (a ∷ b ∷ c ∷ d ∷ e ∷ f ∷ g ∷ h ∷ i ∷ bs) z = absurd (omega arith)

pub num_little : (o : ℕ) (bs : List ℕ) → o ≡ 0 → length bs ≡ 8 → from_le_bytes w64 bs ≡ num o bs
unfolding num
num_little o bs e h = rw (eq-eqb o 0 e) (low_little bs h)

pub num_big : (o : ℕ) (bs : List ℕ) → (o ≡ 0 → ⊥) → length bs ≡ 8 → from_be_bytes w64 bs ≡ num o bs
unfolding num
num_big o bs e h = rw (ne_eqb o 0 e) (low_big bs h)

pub ruleset eights = (num_little, num_big)
