use Rattle.std.proofs.Common.{◌++◌, ◌∙◌, ap, List}
use Rattle.rt_groups.specs.PreorderGroups.{preorder}
use Rattle.node_tree.specs.declared.ops.Op.{Op}
use Rattle.play_run.specs.RunOutput.{shown_ops, shown_groups}
use Rattle.play_run.proofs.Written.{says_behind, says_front, says_same}
use Rattle.play_run.proofs.frame.write_composition.Goals as goal

pub returns-in-Ok-clause-says : goal.returns-in-Ok-clause-says
returns-in-Ok-clause-says g c k l at =
    let flags = c.args.flags in
    let groups = preorder 0 k.trail in
    says_same c.write_shown_tree.result _ _ _ _
    (ap (λ (calls : List Op). shown_ops flags calls ++ shown_groups flags groups) (c.items.ensures ∙ c.ops.ensures))
    (says_behind _ _ _ _ _ _ c.in-Ok.ensures.says.all
    (says_same _ _ _ _ _ (ap (shown_groups flags) (c.table.ensures k l at)) c.write_shown_tree.ensures.says))

pub returns-in-Err-clause-says : goal.returns-in-Err-clause-says
returns-in-Err-clause-says g c k l at =
    let flags = c.args.flags in
    let groups = preorder 0 k.trail in
    says_same _ _ _ _ _ (ap (λ (calls : List Op). shown_ops flags calls ++ shown_groups flags groups)
    (c.items.ensures ∙ c.ops.ensures))
    (says_front _ _ _ _ _ (shown_groups flags groups) c.in-Err.ensures.says)
