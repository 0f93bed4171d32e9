use Rattle.std.proofs.Common.{◌≡◌, ◌++◌, take, drop}
use Rattle.rt_values.specs.declared.value.Value.{Value as value_data}
use Rattle.node_tree.specs.StoredTree.{data_after_set}
use Rattle.node_tree.proofs.ops.index_of_name.Given as goal

abbrev pub invariant-loop-index : goal.invariant-loop-index
invariant-loop-index l = (value : value_data)
    → data_after_set l.name value l.attributes ≡ take l.index l.attributes ++ data_after_set l.name value
    (drop l.index l.attributes)
