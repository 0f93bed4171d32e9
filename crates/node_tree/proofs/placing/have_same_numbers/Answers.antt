use Rattle.std.proofs.Common.{◌∙◌, sym, length, eqb-true}
use Rattle.node_tree.proofs.SameLevels.{levels_begin, levels_go_on, levels_end}
use Rattle.node_tree.proofs.placing.have_same_numbers.Goals as goal

pub loop-before-init : goal.loop-before-init
loop-before-init c = λ o n e f. levels_begin o n c.args.old.now c.args.new.now e f

pub loop-before-preserved : goal.loop-before-preserved
loop-before-preserved c = λ o n e f.
    levels_go_on o n c.loop-before.before.now c.loop-before.after.now c.after_first_sibling-before.result.now
    c.after_first_sibling-after.result.now (λ s t p q. c.begin_alike.ensures.alike s t p q c.loop-before-test.true)
    c.after_first_sibling-before.ensures.rest c.after_first_sibling-after.ensures.rest (c.loop-before.invariant o n e f)

pub returns-then-is_empty : goal.returns-then-is_empty
returns-then-is_empty c = λ o n e f is.
    levels_end o n c.loop-before.before.now c.loop-before.after.now (c.loop-before.invariant o n e f)
    (eqb-true (length c.loop-before.before.now) 0 (sym c.is_empty.ensures ∙ c.if-is_empty.true))
    (eqb-true (length c.loop-before.after.now) 0 (sym c.is_empty-then-is_empty.ensures ∙ is))
