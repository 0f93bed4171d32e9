use Rattle.std.proofs.Common.{true, refl, sym, subst}
use Rattle.play_core.specs.Promise.{streams, CommandMeets, allowed_by}
use Rattle.play_core.specs.declared.top.Status.{Status}
use Rattle.play_args.specs.declared.command.Command.TheVariants.{Threads}
use Rattle.play_core.proofs.Plays.{one-output, parsed-meets, rejected-meets, woven-is}
use Rattle.play_core.proofs.top.play_threads.Goals as goal

pub returns-in-Ok-clause-meets : goal.returns-in-Ok-clause-meets
returns-in-Ok-clause-meets g c =
    let shown = streams g.S.Source.left g.S.Source.taken g.S.Source.faults g.K.Sink.written g.K.Sink.faults in
    let before = shown c.args.source.now c.args.sink.now in
    let middle = shown c.read_input.new.source c.read_input.new.sink in
    let read = c.in-Ok.ensures.parsed in
    let said = c.run_threads.ensures.says in
    subst (λ (s : Status). CommandMeets (Threads c.args.flags) before
    (shown c.read_input.new.source c.run_threads.new.sink) s) (sym c.status_of.ensures)
    (parsed-meets true (allowed_by (Threads c.args.flags)) before middle c.in-Ok.bytes.items c.in-Ok.input c.run_threads.result _ _ read
    (λ t text. (said.0, woven-is c.args.flags read.parsed.read t text said.0 said.1, said.2))
    c.run_threads.ensures.faults)

pub returns-in-Err-clause-meets : goal.returns-in-Err-clause-meets
returns-in-Err-clause-meets g c =
    rejected-meets (Threads c.args.flags) true refl _ _ c.in-Err.status
    (c.in-Err.ensures.failed (one-output (Threads c.args.flags)))
