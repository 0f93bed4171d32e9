use Rattle.std.proofs.Common.{◌≡◌, take}
use Rattle.node_tree.proofs.level.copy_attributes.Given as goal

abbrev pub invariant-loop-attribute : goal.invariant-loop-attribute
invariant-loop-attribute l = l.copied ≡ take l.attribute-index l.attributes
