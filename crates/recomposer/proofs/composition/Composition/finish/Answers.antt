use Rattle.std.proofs.Common.{ap, Err}
use Rattle.rt_groups.specs.declared.report.Report.{Report}
use Rattle.recomposer.proofs.ShownFrames.{asks_on, asks_refused, shown_composed, shown_refused, applier_driven, applier_untouched, logs_on, logs_refused}
use Rattle.recomposer.proofs.Stops.{may_be_called}
use Rattle.recomposer.proofs.composition.Composition.finish.Goals as goal

pub apply-requires : goal.apply-requires
apply-requires g c = record {
  tree = may_be_called _ _ _ c.requires.tree (λ k at. (at.0, at.1, c.in-Ok.ensures.made k at.0 at.1 at.2));
  olds = c.in-Ok.ensures.olds;
}

pub returns-in-Ok-clause-frame : goal.returns-in-Ok-clause-frame
returns-in-Ok-clause-frame g c =
    shown_composed c.args.self.now c.apply.new.self (g.D.View.shows c.args.desk.now) c.in-Ok.draft c.apply.result
    c.in-Ok.ensures.made c.apply.ensures

pub returns-in-Ok-clause-applier : goal.returns-in-Ok-clause-applier
returns-in-Ok-clause-applier g c =
    applier_driven g.A.Applier.tree g.A.Applier.faults c.args.applier.now c.apply.new.applier c.args.self.now
    c.apply.new.self (g.D.View.shows c.args.desk.now) c.in-Ok.draft c.apply.result c.in-Ok.ensures.made
    (λ nothing. (c.in-Ok.ensures.idle nothing).0) c.apply.ensures

pub returns-in-Ok-clause-reads : goal.returns-in-Ok-clause-reads
returns-in-Ok-clause-reads g c =
    asks_on c.args.self.now (g.D.View.shows c.args.desk.now) (g.D.View.asked c.args.desk.now)
    (g.D.View.asked c.compose_and_dispose.new.desk) c.in-Ok.draft c.apply.result c.in-Ok.ensures.reads

pub returns-in-Ok-clause-idle : goal.returns-in-Ok-clause-idle
returns-in-Ok-clause-idle g c h =
    let idle = c.in-Ok.ensures.idle h in
    (idle.1, idle.2)

pub returns-in-Ok-clause-world : goal.returns-in-Ok-clause-world
returns-in-Ok-clause-world g c = c.in-Ok.ensures.world

pub returns-in-Ok-clause-log : goal.returns-in-Ok-clause-log
returns-in-Ok-clause-log g c =
    logs_on c.args.self.now (g.D.View.shows c.args.desk.now) (g.D.View.asked c.args.desk.now)
    (g.D.View.asked c.compose_and_dispose.new.desk) (g.D.Desk.log c.args.desk.now)
    (g.D.Desk.log c.compose_and_dispose.new.desk) (g.D.Desk.caller c.args.desk.now, c.args.begun.name) c.in-Ok.draft
    c.apply.result c.in-Ok.ensures.log

pub returns-in-Ok-clause-desk : goal.returns-in-Ok-clause-desk
returns-in-Ok-clause-desk g c = c.in-Ok.ensures.desk

pub returns-in-Err-clause-frame : goal.returns-in-Err-clause-frame
returns-in-Err-clause-frame g c =
    shown_refused c.args.self.now (g.D.View.shows c.args.desk.now) c.in-Err.stop
    (λ k m h shows stop. c.in-Err.ensures.stops.many k m h shows (ap Err stop))
    (λ stop. c.in-Err.ensures.stops.not_spent (ap Err stop))
    (λ stop. c.in-Err.ensures.stops.no_fault (ap Err stop))

pub returns-in-Err-clause-applier : goal.returns-in-Err-clause-applier
returns-in-Err-clause-applier g c =
    applier_untouched g.A.Applier.tree g.A.Applier.faults c.args.applier.now c.args.self.now
    (g.D.View.shows c.args.desk.now) c.in-Err.stop (λ stop. c.in-Err.ensures.stops.no_fault (ap Err stop))

pub returns-in-Err-clause-reads : goal.returns-in-Err-clause-reads
returns-in-Err-clause-reads g c =
    asks_refused c.args.self.now (g.D.View.shows c.args.desk.now) (g.D.View.asked c.args.desk.now)
    (g.D.View.asked c.compose_and_dispose.new.desk) Report c.in-Err.stop c.in-Err.stop
    (λ stop. c.in-Err.ensures.stops.no_fault (ap Err stop)) c.in-Err.ensures.reads

pub returns-in-Err-clause-idle : goal.returns-in-Err-clause-idle
returns-in-Err-clause-idle g c h =
    let idle = c.in-Err.ensures.idle h in
    (idle.1, idle.2)

pub returns-in-Err-clause-world : goal.returns-in-Err-clause-world
returns-in-Err-clause-world g c = c.in-Err.ensures.world

pub returns-in-Err-clause-log : goal.returns-in-Err-clause-log
returns-in-Err-clause-log g c =
    logs_refused c.args.self.now (g.D.View.shows c.args.desk.now) (g.D.View.asked c.args.desk.now)
    (g.D.View.asked c.compose_and_dispose.new.desk) (g.D.Desk.log c.args.desk.now)
    (g.D.Desk.log c.compose_and_dispose.new.desk) (g.D.Desk.caller c.args.desk.now, c.args.begun.name) Report
    c.in-Err.stop c.in-Err.ensures.log

pub returns-in-Err-clause-desk : goal.returns-in-Err-clause-desk
returns-in-Err-clause-desk g c = c.in-Err.ensures.desk
