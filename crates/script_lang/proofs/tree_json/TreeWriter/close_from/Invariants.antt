use Rattle.std.proofs.Common.{◌≡◌, ◌++◌, length}
use Rattle.script_lang.specs.GroupJson.{ends_from, state_at}
use Rattle.script_lang.proofs.tree_json.TreeWriter.close_from.Given as goal

abbrev pub invariant-loop-node : goal.invariant-loop-node
invariant-loop-node l = record {
  text : l.text.items ++ ends_from l.depth l.self.open_nodes
      ≡ l.fn.text.items ++ ends_from l.depth l.fn.self.open_nodes;
  state : state_at l.depth l.self.open_nodes l.self.later ≡ state_at l.depth l.fn.self.open_nodes l.fn.self.later;
}

abbrev pub decreases-loop-node : goal.decreases-loop-node
decreases-loop-node l = length l.self.open_nodes
