-- Trusted: the limits of values.
use Rattle.std.specs.Prelude.{ℕ}

-- The maximum number of bytes of a text.
abbrev pub most_bytes : ℕ
most_bytes = 4096

-- The maximum number of items of a list.
abbrev pub most_items : ℕ
most_items = 4096
