use Rattle.std.proofs.lemmas.List.Filters.{FiltersInPlace}
use Rattle.snap_ids.specs.IdBlocks.{has_bits}
use Rattle.snap_ids.proofs.blocks.drop_empty.Given as goal

abbrev pub invariant-loop-at : goal.invariant-loop-at
invariant-loop-at l = FiltersInPlace has_bits l.initial.blocks.items l.blocks.items l.kept l.at
