use Rattle.std.proofs.Common.{◌∙◌, ap, refl, Err}
use Rattle.rt_streams.specs.declared.source.ReadStop.TheVariants as stop
use Rattle.play_core.specs.Promise.{streams, exactly}
use Rattle.play_core.specs.declared.text.Input.{Input}
use Rattle.play_core.proofs.Plays.{memory-meets, read-fault-meets, long-meets, refused-meets, parsed-input, not-long}
use Rattle.play_core.proofs.top.read_input.Goals as goal

pub returns-in-Err-NoMemory-clause-failed : goal.returns-in-Err-NoMemory-clause-failed
returns-in-Err-NoMemory-clause-failed g c output =
    memory-meets c.args.threads (exactly output) (λ bytes p. (output bytes p, refl)) _ _ _ _ _ _ _ _
    (not-long c.read_all.result stop.NoMemory stop.TooLong _
    (c.in-Err-NoMemory.is ∙ ap Err c.in-Err-NoMemory.field-0-is) (λ e. absurd cc) c.read_all.ensures.too_long.1)

pub returns-in-Err-ReadFault-clause-failed : goal.returns-in-Err-ReadFault-clause-failed
returns-in-Err-ReadFault-clause-failed g c output =
    read-fault-meets c.args.threads (exactly output) (λ bytes p. (output bytes p, refl)) _ _ _ _ _ _ _ _
    (not-long c.read_all.result stop.ReadFault stop.TooLong _
    (c.in-Err-ReadFault.is ∙ ap Err c.in-Err-ReadFault.field-0-is) (λ e. absurd cc)
    c.read_all.ensures.too_long.1)
    (c.read_all.ensures.fault (c.in-Err-ReadFault.is ∙ ap Err c.in-Err-ReadFault.field-0-is))

pub returns-in-Err-TooLong-clause-failed : goal.returns-in-Err-TooLong-clause-failed
returns-in-Err-TooLong-clause-failed g c output =
    let said = c.write_status_line.ensures in
    long-meets c.args.threads (exactly output) _ _ c.write_status_line.result said.answers said.all said.part said.fault
    (c.read_all.ensures.too_long.0 (c.in-Err-TooLong.is ∙ ap Err c.in-Err-TooLong.field-0-is))
    c.read_all.ensures.at_most c.read_all.ensures.told

pub returns-in-Err-clause-failed : goal.returns-in-Err-clause-failed
returns-in-Err-clause-failed g c output =
    let shown = streams g.S.Source.left g.S.Source.taken g.S.Source.faults g.K.Sink.written g.K.Sink.faults in
    let parsed = c.in-Err.ensures in
    refused-meets {T = Input} c.args.threads (exactly output) (shown c.args.source.now c.args.sink.now)
    (shown c.read_all.new.source c.parse_or_refuse.new.sink)
    (Err c.in-Err.status) _ c.in-Ok.bytes.items c.deref.ensures.value c.in-Ok.ensures.bytes.0
    c.in-Ok.ensures.bytes.1 c.in-Ok.ensures.within.0 c.in-Ok.ensures.within.1
    parsed.bad_input (parsed.part output) parsed.write_fault parsed.others

pub returns-in-Ok-parse_or_refuse-clause-parsed : goal.returns-in-Ok-parse_or_refuse-clause-parsed
returns-in-Ok-parse_or_refuse-clause-parsed g c =
    let shown = streams g.S.Source.left g.S.Source.taken g.S.Source.faults g.K.Sink.written g.K.Sink.faults in
    let parsed = c.in-Ok-parse_or_refuse.ensures in
    parsed-input c.args.threads (shown c.args.source.now c.args.sink.now)
    (shown c.read_all.new.source c.parse_or_refuse.new.sink) c.in-Ok-parse_or_refuse.input _ c.in-Ok.bytes.items
    c.deref.ensures.value c.in-Ok.ensures.bytes.0 c.in-Ok.ensures.bytes.1 c.in-Ok.ensures.within.0
    c.in-Ok.ensures.within.1
    parsed.parsed parsed.good parsed.still
