use Rattle.std.proofs.Common.{Some, sym, ap, ◌∙◌, arith, refl, inr}
use Rattle.rt_streams.proofs.Parts.{part-none}
use Rattle.play_args.specs.CommandWords.{command_of_args, texts}
use Rattle.play_core.specs.Texts.{has_threads}
use Rattle.play_core.specs.Promise.{streams, allowed_by}
use Rattle.play_core.proofs.Plays.{some-output, memory-meets, generated-meets, keeps-same, unlogged-texts}
use Rattle.play_core.proofs.Sizes.{size_fits}
use Rattle.play_core.proofs.top.play_alone.Goals as goal

pub returns-in-Err-clause-meets : goal.returns-in-Err-clause-meets
returns-in-Err-clause-meets g c = record {
  no_command = λ none. inr (refl, keeps-same _);
  command = λ k told needs. memory-meets (has_threads k) (allowed_by k) (λ bytes p. some-output k p) _ _ _ _ _ _ _ _
      (omega arith);
  generated = λ number size told. record {
    answers = inr (inr refl);
    done = λ e. absurd cc;
    part = λ stopped. part-none _ _;
    write_fault = λ e. absurd cc;
  };
  reads = λ e. refl;
  writes = λ e. refl;
}

pub write_summary-requires-clause-some : goal.write_summary-requires-clause-some
write_summary-requires-clause-some g c =
    let made = c.in-Ok-Some-Gen in
    (size_fits (texts c.deref.result.now) made.number made.size
    (sym made.ensures ∙ made.field-0-is ∙ ap Some made.field-0-0-is)).0

pub write_summary-requires-clause-few : goal.write_summary-requires-clause-few
write_summary-requires-clause-few g c =
    let made = c.in-Ok-Some-Gen in
    (size_fits (texts c.deref.result.now) made.number made.size
    (sym made.ensures ∙ made.field-0-is ∙ ap Some made.field-0-0-is)).1

pub returns-in-Ok-Some-Gen-clause-meets : goal.returns-in-Ok-Some-Gen-clause-meets
returns-in-Ok-Some-Gen-clause-meets g c =
    let shown = streams g.S.Source.left g.S.Source.taken g.S.Source.faults g.K.Sink.written g.K.Sink.faults in
    let made = c.in-Ok-Some-Gen in
    let told = c.write_summary.ensures in
    generated-meets (texts c.args.words.now.items) (shown c.args.source.now c.args.sink.now)
    (shown c.args.source.now c.write_summary.new.sink) c.write_summary.result made.number made.size
    (ap (λ ws. command_of_args (texts ws)) (sym c.deref.ensures.value) ∙ sym made.ensures ∙ made.field-0-is
    ∙ ap Some made.field-0-0-is)
    (record { answers = told.answers; done = told.all; part = told.part; write_fault = told.write_fault }) (λ e. refl)
    told.clean

pub returns-in-Err-clause-stops : goal.returns-in-Err-clause-stops
returns-in-Err-clause-stops g c flags run e = unlogged-texts _ flags _ _ _
