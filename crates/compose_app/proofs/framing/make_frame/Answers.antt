use Rattle.std.proofs.Common.{◌∙◌}
use Rattle.compose_app.proofs.ScreenFrames.{may_call, finished}
use Rattle.compose_app.proofs.framing.make_frame.Goals as goal

pub finish_frame-requires : goal.finish_frame-requires
finish_frame-requires g c = record {
  tree = may_call g.V.Versions.stands g.A.Applier.tree g.A.Applier.faults c.args.program.now c.in-Ok.ensures.call
      (λ k l m at follows is. c.note.ensures.noted k l m at follows (c.numbers.ensures ∙ is)) c.note.ensures.calls
      c.requires;
}

pub returns : goal.returns
returns g c = finished g.V.Versions.stands g.A.Applier.tree g.A.Applier.faults c.args.program.now c.in-Ok.ensures.call
    (λ k l m at follows is. c.note.ensures.noted k l m at follows (c.numbers.ensures ∙ is)) c.note.ensures.calls
    c.finish_frame.ensures.frame c.finish_frame.ensures.applier c.finish_frame.ensures.world
