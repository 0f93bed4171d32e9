use Rattle.rt_groups.specs.Nodes.{None as no_nodes}
use Rattle.node_tree.proofs.SameLevels.{anew_calls}
use Rattle.node_tree.proofs.placing.place_anew.Goals as goal

pub returns : goal.returns
returns c = λ n e d.
    anew_calls c.new-calls.result c.push.new.self c.push_level.new.ops n c.new-calls.ensures c.in_ok-push.ensures.ok
    (c.in_ok-push_level.ensures no_nodes n c.part_of_nodes.ensures e tt d)
