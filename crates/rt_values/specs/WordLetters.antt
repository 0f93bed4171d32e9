-- Internal: how a word stores its bytes.
use Rattle.std.specs.Prelude.{ℕ, ◌≤◌, List, take}
use Rattle.rt_values.specs.declared.word.Letters.{Letters}
use Rattle.rt_values.specs.declared.word.Letters.TheVariants.{Short, Long}

-- The bytes of a word, in order.
abbrev pub letter_bytes : Letters → List ℕ
letter_bytes (Short len room) = take len room
letter_bytes (Long bytes) = bytes.value.items

-- A short word has at most 14 bytes.
abbrev pub IsSound : Letters → Type 0
IsSound (Short len room) = len ≤ 14
IsSound (Long bytes) = Unit {0}
