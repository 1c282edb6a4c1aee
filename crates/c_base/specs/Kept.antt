-- Numbers that are counted in 32 bits.
use Rattle.std.specs.Prelude.{ℕ, ◌-◌, ◌^◌, min}

-- kept up to the greatest number of 32 bits
abbrev pub kept : ℕ → ℕ
kept n = min n (2 ^ 32 - 1)
