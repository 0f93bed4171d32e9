use Rattle.std.proofs.Common.{◌≡◌, ◌∙◌, sym, ap, Ok, Err, None}
use Rattle.rt_groups.specs.declared.report.Report.{Report}
use Rattle.recomposer.proofs.ShownFrames.{asks_on, asks_refused, shown_composed, shown_refused, applier_driven, applier_untouched}
use Rattle.recomposer.proofs.Stops.{may_be_called}
use Rattle.recomposer.proofs.composition.Composition.recompose_with.Goals as goal

pub apply-requires : goal.apply-requires
apply-requires g c =
    record {
      tree = may_be_called _ _ _ c.requires.tree (λ k at. (at.0, at.1, c.in-Ok.ensures.made k at.0 at.1 at.2));
      olds = c.in-Ok.ensures.olds;
    }

pub returns-in-Ok-clause-frame : goal.returns-in-Ok-clause-frame
returns-in-Ok-clause-frame g c =
    shown_composed c.args.self.now c.apply.new.self (g.V.View.shows c.args.view.now) c.in-Ok.composed c.apply.result
    c.in-Ok.ensures.made c.apply.ensures

pub returns-in-Ok-clause-applier : goal.returns-in-Ok-clause-applier
returns-in-Ok-clause-applier g c =
    applier_driven g.A.Applier.tree g.A.Applier.faults c.args.applier.now c.apply.new.applier c.args.self.now
    c.apply.new.self (g.V.View.shows c.args.view.now) c.in-Ok.composed c.apply.result c.in-Ok.ensures.made
    (λ nothing. let both : Ok c.in-Ok.composed ≡ Ok None = sym c.in-Ok.is ∙ (c.compose_owed.ensures.idle nothing).0 in
    cc) c.apply.ensures

pub returns-in-Ok-clause-reads : goal.returns-in-Ok-clause-reads
returns-in-Ok-clause-reads g c =
    asks_on c.args.self.now (g.V.View.shows c.args.view.now) (g.V.View.asked c.args.view.now)
    (g.V.View.asked c.compose_owed.new.view) c.in-Ok.composed c.apply.result c.in-Ok.ensures.reads

pub returns-in-Ok-clause-idle : goal.returns-in-Ok-clause-idle
returns-in-Ok-clause-idle g c h =
    let idle = c.compose_owed.ensures.idle h in
    (idle.1, idle.2)

pub returns-in-Err-clause-frame : goal.returns-in-Err-clause-frame
returns-in-Err-clause-frame g c =
    shown_refused c.args.self.now (g.V.View.shows c.args.view.now) c.frame_stop.result
    (λ k m h shows stop. c.in-Err.ensures.many k m h shows (ap Err (c.frame_stop.ensures.many stop)))
    c.frame_stop.ensures.not_spent c.frame_stop.ensures.no_fault

pub returns-in-Err-clause-applier : goal.returns-in-Err-clause-applier
returns-in-Err-clause-applier g c =
    applier_untouched g.A.Applier.tree g.A.Applier.faults c.args.applier.now c.args.self.now
    (g.V.View.shows c.args.view.now) c.frame_stop.result c.frame_stop.ensures.no_fault

pub returns-in-Err-clause-reads : goal.returns-in-Err-clause-reads
returns-in-Err-clause-reads g c =
    asks_refused c.args.self.now (g.V.View.shows c.args.view.now) (g.V.View.asked c.args.view.now)
    (g.V.View.asked c.compose_owed.new.view) Report c.in-Err.stop c.frame_stop.result
    c.frame_stop.ensures.no_fault c.in-Err.ensures.reads

pub returns-in-Err-clause-idle : goal.returns-in-Err-clause-idle
returns-in-Err-clause-idle g c h =
    let idle = c.compose_owed.ensures.idle h in
    (idle.1, idle.2)
