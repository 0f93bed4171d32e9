use Rattle.std.proofs.Common.{◌∙◌, inl, inr, subst}
use Rattle.std.specs.Io.KnownBytes.{Appends}
use Rattle.rt_streams.specs.Streams.{AppendsPart}
use Rattle.play_core.proofs.Plays.{gen-is}
use Rattle.play_core.proofs.top.write_summary.Goals as goal

pub returns-clause-all : goal.returns-clause-all
returns-clause-all g c done =
    let text = c.deref.ensures.value
    ∙ gen-is c.args.number c.args.size c.in-Ok.tally c.in-Ok-summary_text.text.items c.in-Ok.ensures
    c.in-Ok-summary_text.ensures in
    subst (Appends (g.K.Sink.written c.args.sink.now) (g.K.Sink.written c.write_status_line.new.sink)) text
    (c.write_status_line.ensures.all done)

pub returns-clause-part : goal.returns-clause-part
returns-clause-part g c stopped =
    let text = c.deref.ensures.value
    ∙ gen-is c.args.number c.args.size c.in-Ok.tally c.in-Ok-summary_text.text.items c.in-Ok.ensures
    c.in-Ok-summary_text.ensures in
    let says = c.write_status_line.ensures in
    subst (AppendsPart (g.K.Sink.written c.args.sink.now) (g.K.Sink.written c.write_status_line.new.sink)) text
    (elim stopped [
      | inl failed ↦ says.part failed
      | inr memory ↦ elim says.answers [ inl done ↦ absurd cc | inr failed ↦ absurd cc ]
    ])
