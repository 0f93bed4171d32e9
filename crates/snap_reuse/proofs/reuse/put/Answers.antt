use Rattle.std.proofs.Common.{◌∙◌}
use Rattle.snap_reuse.proofs.Reusing.{puts_over, puts_front, kept_as_before}
use Rattle.snap_reuse.proofs.reuse.put.Goals as goal

pub returns-in-Some-clause-ok : goal.returns-in-Some-clause-ok
returns-in-Some-clause-ok c = λ apart positive. puts_over c.args.chains.now c.keep.new.self c.overwrite.new.self
    c.args.x _ c.args.kept.now apart positive c.requires.own c.keep.ensures.keeps c.in-Some.r.0 c.in-Some.ensures.free
    c.overwrite.ensures.is c.overwrite.ensures.many

pub returns-in-Ok-clause-ok : goal.returns-in-Ok-clause-ok
returns-in-Ok-clause-ok c = λ apart positive. puts_front c.args.chains.now c.keep.new.self c.prepend.new.self c.args.x _
    c.args.kept.now apart positive c.requires.own c.keep.ensures.keeps c.in-Ok.field-0.0 c.in-None.ensures.free.0
    c.in-Ok.ensures.ok c.in-Ok.ensures.many

pub returns-in-Err-clause-err : goal.returns-in-Err-clause-err
returns-in-Err-clause-err c = λ y. (c.in-Err.ensures.err y).1
    ∙ kept_as_before c.args.chains.now c.keep.new.self c.args.x c.args.kept.now c.keep.ensures.keeps
    c.in-None.ensures.free.1 y
