-- Trusted: the table from the names that a script gives to snapshots to the numbers of the snapshots.
use Rattle.std.specs.Prelude.{ℕ, ◌-◌, ◌^◌, List, [], ◌∷◌, Option, Some, None, if◌then◌else◌}
use Rattle.std.specs.Option.{unwrap_or}
use Rattle.std.specs.Str.{bytes_eq}
use Rattle.lang_ast.specs.declared.script.SnapshotRef.{SnapshotRef}
use Rattle.lang_ast.specs.declared.script.SnapshotRef.TheVariants.{Global, Named}

-- A name with the number that it was given.
pub record NamedNumber : Type 0 where
  pub name : List ℕ
  pub number : ℕ

-- The number that a name was given last. The latest names come first.
abbrev pub latest : List NamedNumber → List ℕ → Option ℕ
latest [] name = None
latest (t ∷ more) name = if bytes_eq t.name name then Some t.number else latest more name

-- The snapshot number for a name whose take was refused. No snapshot ever has it.
abbrev pub never_taken : ℕ
never_taken = 2 ^ 64 - 1

-- The number of the snapshot that a step is about.
abbrev pub snapshot_number : List NamedNumber → SnapshotRef → ℕ
snapshot_number table Global = 0
snapshot_number table (Named name) = unwrap_or (latest table name.text) never_taken
