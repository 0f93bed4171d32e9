use Rattle.std.proofs.Common.{◌≡◌, ◌++◌, length}
use Rattle.script_lang.specs.Lines.{margin}
use Rattle.script_lang.specs.GroupLines.{node_depth}
use Rattle.script_lang.proofs.tree.add_margin.Given as goal

abbrev pub invariant-loop-is_node : goal.invariant-loop-is_node
invariant-loop-is_node l = l.text.items ++ margin (node_depth l.rest) ≡ l.fn.text.items ++ margin (node_depth l.outer)

abbrev pub decreases-loop-is_node : goal.decreases-loop-is_node
decreases-loop-is_node l = length l.rest
