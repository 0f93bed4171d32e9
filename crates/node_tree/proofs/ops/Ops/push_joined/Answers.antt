use Rattle.node_tree.proofs.JoinedPushes.{on_ok, pushed_some, pushed_none}
use Rattle.node_tree.proofs.ops.Ops.push_joined.Goals as goal

pub returns-in-Some : goal.returns-in-Some
returns-in-Some c = λ before calls e f.
    on_ok c.push.result _ _ (λ pushed. pushed_some before calls c.args.self.now c.pop.new.self c.push.new.self c.args.op
    c.in-Some.both c.in_ok-both.field-0 c.args.start e f
    (record { none = c.in_ok-both.ensures.none; some = c.in_ok-both.ensures.some }) c.in-Some.is c.pop.ensures pushed)
    c.push.ensures.ok

pub returns-in-None : goal.returns-in-None
returns-in-None c = λ before calls e f.
    on_ok c.push-in-None.result _ _ (λ pushed. pushed_none before calls c.args.self.now c.push-in-None.new.self c.args.op
    c.in_ok-both.field-0 c.args.start e f
    (record { none = c.in_ok-both.ensures.none; some = c.in_ok-both.ensures.some }) c.in-None.is pushed)
    c.push-in-None.ensures.ok
