use Rattle.std.proofs.Common.{ap, Err}
use Rattle.rt_groups.specs.declared.report.Report.{Report}
use Rattle.recomposer.proofs.ShownFrames.{asks_on, asks_refused, shown_kept, shown_refused}
use Rattle.recomposer.proofs.composition.Composition.recompose.Goals as goal

pub returns-in-Ok-clause-frame : goal.returns-in-Ok-clause-frame
returns-in-Ok-clause-frame g c =
    shown_kept c.args.self.now c.keep_composed.new.self (g.V.View.shows c.args.view.now) c.in-Ok.composed
    c.keep_composed.result c.in-Ok.ensures.made c.keep_composed.ensures.settings c.keep_composed.ensures.good
    c.keep_composed.ensures.report

pub returns-in-Ok-clause-reads : goal.returns-in-Ok-clause-reads
returns-in-Ok-clause-reads g c =
    asks_on c.args.self.now (g.V.View.shows c.args.view.now) (g.V.View.asked c.args.view.now)
    (g.V.View.asked c.compose_owed.new.view) c.in-Ok.composed _ c.in-Ok.ensures.reads

pub returns-in-Err-clause-frame : goal.returns-in-Err-clause-frame
returns-in-Err-clause-frame g c =
    shown_refused c.args.self.now (g.V.View.shows c.args.view.now) c.frame_stop.result
    (λ k m h shows stop. c.in-Err.ensures.many k m h shows (ap Err (c.frame_stop.ensures.many stop)))
    c.frame_stop.ensures.not_spent c.frame_stop.ensures.no_fault

pub returns-in-Err-clause-reads : goal.returns-in-Err-clause-reads
returns-in-Err-clause-reads g c =
    asks_refused c.args.self.now (g.V.View.shows c.args.view.now) (g.V.View.asked c.args.view.now)
    (g.V.View.asked c.compose_owed.new.view) Report c.in-Err.stop c.frame_stop.result
    c.frame_stop.ensures.no_fault c.in-Err.ensures.reads
