-- Counts that rise, and stand still at the end of their type, 64 bits.
use Rattle.std.specs.Prelude.{◌≡◌, ℕ, ◌+◌, ◌-◌, ◌^◌, ◌<◌, ◌⊎◌, min}

-- one more than a count
abbrev pub risen : ℕ → ℕ
risen count = min (count + 1) (2 ^ 64 - 1)

-- a count rose, or it stood at the end of its type already
abbrev pub Rose : ℕ → ℕ → Type 0
Rose old new = (old < new) ⊎ ((new ≡ old) × (old + 1 ≡ 2 ^ 64))
