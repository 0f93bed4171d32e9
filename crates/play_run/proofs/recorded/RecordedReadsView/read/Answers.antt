use Rattle.std.proofs.Common.{ap, ◌∙◌}
use Rattle.play_run.proofs.GivenReads.{asked_next, value_next, not_asked, asks_more}
use Rattle.play_run.proofs.recorded.RecordedReadsView.read.Goals as goal

pub returns-then-not-is_next-clause-part : goal.returns-then-not-is_next-clause-part
returns-then-not-is_next-clause-part c = not_asked _ _

pub returns-clause-value : goal.returns-clause-value
returns-clause-value c m agree =
    let r = c.index_mut.result.now in
    let object = c.is_next.ensures.object r c.if-not-is_next.false in
    c.replace.ensures.value ∙ ap (λ (y : _). y.1) c.index_mut.ensures.value
    ∙ value_next m c.args.self.now.reads.items c.args.self.now.given c.args.x r agree
    (c.is_next.ensures.within c.if-not-is_next.false) object

pub returns-clause-asks : goal.returns-clause-asks
returns-clause-asks c =
    let r = c.index_mut.result.now in
    let object = c.is_next.ensures.object r c.if-not-is_next.false in
    asked_next c.args.self.now.reads.items c.args.self.now.given c.args.x r r c.replace.new.dest
    (c.is_next.ensures.within c.if-not-is_next.false) c.index_mut.ensures.value
    (ap (λ (y : _). y.0) c.index_mut.ensures.value ∙ object)

pub returns-clause-keeps : goal.returns-clause-keeps
returns-clause-keeps c =
    let r = c.index_mut.result.now in
    let object = c.is_next.ensures.object r c.if-not-is_next.false in
    asks_more _ _ c.args.x (asked_next c.args.self.now.reads.items c.args.self.now.given c.args.x r r c.replace.new.dest
    (c.is_next.ensures.within c.if-not-is_next.false) c.index_mut.ensures.value
    (ap (λ (y : _). y.0) c.index_mut.ensures.value ∙ object))
