-- Trusted: how a table of names in memory represents one of the definitions.
use Rattle.std.specs.Prelude.{◌≡◌, ℕ, List, Option}
use Rattle.std.specs.Str.{bytes_eq}
use Rattle.std.specs.HashMap.{get_by}
use Rattle.lang_script.specs.SnapshotNames.{NamedNumber, latest}
use Rattle.lang_script.specs.declared.names.NameTable.{NameTable}

-- The number of a name in memory, if it has one.
abbrev pub number_in : NameTable → List ℕ → Option ℕ
number_in t name = get_by (λ k. bytes_eq name k.items) t.numbers

-- The table in memory has for each name the number that it was given last.
abbrev pub Holds : NameTable → List NamedNumber → Type 0
Holds t names = (name : List ℕ) → number_in t name ≡ latest names name
