use Rattle.std.proofs.Common.{◌≡◌, ◌⊎◌, ℕ, List, Option, ◌∙◌, ap, Err, sym, subst, false}
use Rattle.std.proofs.KnownBytes.{Consumes-whole}
use Rattle.lang_forms.specs.Sources.{Source}
use Rattle.play_core.specs.CommandOutput.{run_status}
use Rattle.play_core.specs.Promise.{streams, TextMeets, CommandMeets, allowed_by, LogsText, StopsText}
use Rattle.play_core.specs.Texts.{IsText}
use Rattle.play_core.specs.declared.top.Status.{Status}
use Rattle.play_core.specs.declared.top.Status.TheVariants as status
use Rattle.play_core.proofs.Plays.{one-output, parsed-meets, rejected-meets, done-after, stopped-after, unlogged-texts}
use Rattle.play_core.proofs.top.play_input.Goals as goal

pub returns-in-Ok-clause-meets : goal.returns-in-Ok-clause-meets
returns-in-Ok-clause-meets g c =
    let shown = streams g.S.Source.left g.S.Source.taken g.S.Source.faults g.K.Sink.written g.K.Sink.faults in
    let before = shown c.args.source.now c.args.sink.now in
    let middle = shown c.read_input.new.source c.read_input.new.sink in
    let after = shown c.read_input.new.source c.do_command.new.sink in
    let read = c.in-Ok.ensures.parsed in
    let k = c.args.command in
    subst (λ (s : Status). CommandMeets k before after s) (sym c.status_of.ensures)
    (subst (λ b. TextMeets b (allowed_by k) before after (run_status c.do_command.result)) (sym c.requires.alone)
    (parsed-meets false (allowed_by k) before middle c.in-Ok.bytes.items c.in-Ok.input c.do_command.result _ _ read
    (λ t text. c.do_command.ensures.says c.in-Ok.bytes.items t read.parsed text) c.do_command.ensures.faults))

pub returns-in-Err-clause-meets : goal.returns-in-Err-clause-meets
returns-in-Err-clause-meets g c =
    rejected-meets c.args.command false c.requires.alone _ _ c.in-Err.status
    (c.in-Err.ensures.failed (one-output c.args.command))

pub returns-in-Ok-clause-log : goal.returns-in-Ok-clause-log
returns-in-Ok-clause-log g c flags run e =
    let read = c.in-Ok.ensures.parsed in
    let Logged : List ℕ → Type 0 = λ bs. (t : Source) → IsText false bs t
    → LogsText t (g.V.Versions.log c.args.world.now) (g.V.Versions.log c.do_command.new.world) in
    Consumes-whole _ _ c.in-Ok.bytes.items Logged read.consumed read.end
    (λ t text. done-after c.do_command.result (sym c.status_of.ensures ∙ e)
    (c.do_command.ensures.log c.in-Ok.bytes.items t flags run read.parsed text))

pub returns-in-Err-clause-log : goal.returns-in-Err-clause-log
returns-in-Err-clause-log g c flags run e = absurd (c.in-Err.ensures.undone (ap Err e))

pub returns-in-Ok-clause-stops : goal.returns-in-Ok-clause-stops
returns-in-Ok-clause-stops g c flags run e =
    let read = c.in-Ok.ensures.parsed in
    let old = g.V.Versions.log c.args.world.now in
    let new = g.V.Versions.log c.do_command.new.world in
    let now = g.K.Sink.written c.do_command.new.sink in
    let Stopped : List ℕ → Type 0 = λ bs. (t : Source) → IsText false bs t
    → StopsText flags t old new (g.K.Sink.written c.args.sink.now) now in
    let stopped = subst (λ (s : Status). (s ≡ status.WriteFault) ⊎ (s ≡ status.NoMemory)) c.status_of.ensures e in
    Consumes-whole _ _ c.in-Ok.bytes.items Stopped read.consumed read.end
    (λ t text. subst (λ (b : Option (List ℕ)). StopsText flags t old new b now) read.written
    (stopped-after c.do_command.result stopped (c.do_command.ensures.stops c.in-Ok.bytes.items t flags run read.parsed text)))

pub returns-in-Err-clause-stops : goal.returns-in-Err-clause-stops
returns-in-Err-clause-stops g c flags run e = unlogged-texts _ flags _ _ _
