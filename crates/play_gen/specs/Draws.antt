-- Trusted: the sequence of drawn numbers.
use Rattle.std.specs.Prelude.{ℕ, ◌+◌, ◌*◌, ◌/◌, ◌%◌, ◌^◌}

-- The state of the draws before the first one.
abbrev pub initial_state : ℕ → ℕ
initial_state number = number % 2 ^ 31

-- The state of the draws after the next one.
abbrev pub next_state : ℕ → ℕ
next_state x = (1103515245 * x + 12345) % 2 ^ 31

-- The number below `n` that the next draw gives.
abbrev pub draw : ℕ → ℕ → ℕ
draw x n = next_state x / 65536 % n
