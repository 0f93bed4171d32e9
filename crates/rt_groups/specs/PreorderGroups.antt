-- Trusted: a group forest as the list of its groups in preorder, each with its depth.
use Rattle.std.specs.Prelude.{ℕ, ◌+◌, List, [], ◌∷◌, ◌++◌, map}
use Rattle.rt_groups.specs.GroupForest.{GroupForest, End, Read, Attribute, asks, own_part}
use Rattle.rt_groups.specs.GroupForest as trail
use Rattle.rt_groups.specs.declared.groups.Attribute.{Attribute as CellAtPath}
use Rattle.rt_groups.specs.declared.groups.GroupKind.{GroupKind}
use Rattle.rt_groups.specs.declared.groups.GroupKind.TheVariants as what
use Rattle.rt_groups.specs.declared.groups.Group.{Group}

-- The declared attribute for an attribute of a forest.
abbrev pub flat_attribute : Attribute → CellAtPath
flat_attribute a = record { name = a.name; value = a.value }

-- The declared kind for a kind of a forest.
abbrev pub flat_kind : trail.GroupKind → GroupKind
flat_kind (trail.Call function arguments) = what.Call function arguments
flat_kind (trail.Node kind attributes) = what.Node kind (map flat_attribute attributes)
flat_kind (trail.Key value) = what.Key value
flat_kind (trail.Cell keys value) = what.Cell keys value

-- The reads that the list records with a group: a call's own reads, in order, and nothing for the other kinds.
abbrev pub flat_reads : trail.GroupKind → GroupForest → List ℕ
flat_reads (trail.Call function arguments) inside = asks (own_part inside)
flat_reads (trail.Node kind attributes) inside = []
flat_reads (trail.Key value) inside = []
flat_reads (trail.Cell keys value) inside = []

-- The group with these parts.
abbrev pub flat_group : ℕ → ℕ → ℕ → GroupKind → List ℕ → Group
flat_group depth site number what reads =
    record { depth = depth; site = site; number = number; what = what; reads = reads }

-- The groups of a forest in preorder, each with its depth and its reads.
abbrev pub preorder : ℕ → GroupForest → List Group
preorder depth End = []
preorder depth (Read x rest) = preorder depth rest
preorder depth (trail.Group site number what inside rest) =
    flat_group depth site number (flat_kind what) (flat_reads what inside)
    ∷ (preorder (depth + 1) inside ++ preorder depth rest)
