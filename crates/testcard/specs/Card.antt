-- What a count of the card may be.
use Rattle.std.specs.Prelude.{ℕ, ◌^◌, ◌<◌, ◌≡◌, ◌⊎◌}

-- outside the disk, or a shade of so many valid bits
abbrev pub Shown : ℕ → ℕ → Type 0
Shown bits count = (count ≡ 65534) ⊎ (count < 2 ^ bits)
