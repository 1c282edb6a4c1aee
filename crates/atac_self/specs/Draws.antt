-- Numbers that follow from a seed: a linear congruence modulo 2 to 64, of which a draw takes the upper 31 bits.
use Rattle.std.specs.Prelude.{ℕ, ◌+◌, ◌*◌, ◌/◌, ◌%◌, ◌^◌}

-- the state behind a state
abbrev pub next : ℕ → ℕ
next state = (state * 6364136223846793005 + 1442695040888963407) % 2 ^ 64

-- the number below m that a draw gives, by the state that it leaves
abbrev pub drawn : ℕ → ℕ → ℕ
drawn state m = state / 2 ^ 33 % m
