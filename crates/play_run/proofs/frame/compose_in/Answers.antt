use Rattle.std.proofs.Common.{rules, ◌≡◌}
use Rattle.recomposer.specs.declared.composition.FrameStop.TheVariants.{TooManyGroups}
use Rattle.play_run.proofs.ComposedFrames.{good_for_run, refused_for_run, stopped_for_run}
use Rattle.play_run.proofs.frame.compose_in.Goals as goal

pub returns-in-Ok-clause-frame : goal.returns-in-Ok-clause-frame
returns-in-Ok-clause-frame g c =
    good_for_run c.args.flags c.args.composition.now c.recompose.new.composition (g.V.View.shows c.args.view.now)
    c.in-Ok.report c.in-Ok.ensures.frame c.in-Ok.ensures.calls

pub returns-in-Ok-clause-asks : goal.returns-in-Ok-clause-asks
returns-in-Ok-clause-asks g c = c.in-Ok.ensures.reads.asks

pub returns-in-Err-TooManyGroups-clause-frame : goal.returns-in-Err-TooManyGroups-clause-frame
returns-in-Err-TooManyGroups-clause-frame g c =
    let many : c.in-Err-TooManyGroups.field-0 ≡ TooManyGroups = search rules in
    refused_for_run c.args.flags c.args.composition.now c.recompose.new.composition (g.V.View.shows c.args.view.now)
    c.in-Err-TooManyGroups.field-0 many c.in-Err-TooManyGroups.ensures.frame

pub returns-in-Err-TooManyGroups-clause-asks : goal.returns-in-Err-TooManyGroups-clause-asks
returns-in-Err-TooManyGroups-clause-asks g c = c.in-Err-TooManyGroups.ensures.reads.part

pub returns-clause-frame : goal.returns-clause-frame
returns-clause-frame g c =
    stopped_for_run c.args.flags c.args.composition.now c.recompose.new.composition (g.V.View.shows c.args.view.now) _
    c.recompose.ensures.frame.settings.program
