use Rattle.std.proofs.Common.{inr, ◌∙◌, sym}
use Rattle.snap_policy.specs.Table.{table}
use Rattle.snap_api.specs.World.{call}
use Rattle.play_run.specs.RunPromise.{job_titles}
use Rattle.play_run.proofs.CallLines.{replied, made_line, nothing_said}
use Rattle.play_run.proofs.RunLogs.{adds_entry}
use Rattle.play_run.proofs.Stops.{may_add_none}
use Rattle.play_run.proofs.Written.{says_same}
use Rattle.play_run.proofs.calls.make_call.Goals as goal

pub returns-then-is_no_memory-clause-says : goal.returns-then-is_no_memory-clause-says
returns-then-is_no_memory-clause-says g c w stood = nothing_said _ _ _

pub returns-in-Ok-end_line-clause-says : goal.returns-in-Ok-end_line-clause-says
returns-in-Ok-end_line-clause-says g c w stood =
    let told = replied (g.V.Versions.stands c.args.world.now) (g.V.Versions.stands c.call-reply.new.self)
    (λ v. call table v c.args.actor.number c.args.request) c.call-reply.result
    (sym c.is_no_memory.ensures ∙ c.if-is_no_memory.false) c.call-reply.ensures.call w stood in
    says_same _ _ _ _ _ (made_line (job_titles c.args.actor.job.now) w c.args.actor.number c.args.request
    c.call-reply.result _ c.in-Ok.ensures told)
    (record { all = c.in-Ok-end_line.ensures.says.all; part = tt })

pub returns-in-Err-clause-says : goal.returns-in-Err-clause-says
returns-in-Err-clause-says g c w stood =
    let told = replied (g.V.Versions.stands c.args.world.now) (g.V.Versions.stands c.call-reply.new.self)
    (λ v. call table v c.args.actor.number c.args.request) c.call-reply.result
    (sym c.is_no_memory.ensures ∙ c.if-is_no_memory.false) c.call-reply.ensures.call w stood in
    says_same _ _ _ _ _ (made_line (job_titles c.args.actor.job.now) w c.args.actor.number c.args.request
    c.call-reply.result _ c.in-Ok.ensures told)
    (record { all = tt; part = c.in-Err.ensures.says.part })

pub returns-in-Ok-end_line-clause-log : goal.returns-in-Ok-end_line-clause-log
returns-in-Ok-end_line-clause-log g c w stood =
    let had = sym c.is_no_memory.ensures ∙ c.if-is_no_memory.false in
    adds_entry (g.V.Versions.log c.args.world.now) (g.V.Versions.log c.call-reply.new.self) w c.args.actor.number
    c.args.request c.call-reply.result had c.call-reply.ensures.log
    (replied (g.V.Versions.stands c.args.world.now) (g.V.Versions.stands c.call-reply.new.self)
    (λ v. call table v c.args.actor.number c.args.request) c.call-reply.result had c.call-reply.ensures.call w
    stood)

pub returns-then-is_no_memory-clause-stops : goal.returns-then-is_no_memory-clause-stops
returns-then-is_no_memory-clause-stops g c w stood =
    may_add_none _ _ c.args.actor.number c.args.request c.call-reply.result _
    (sym c.is_no_memory.ensures ∙ c.if-is_no_memory.true) c.call-reply.ensures.log

pub returns-in-Err-clause-stops : goal.returns-in-Err-clause-stops
returns-in-Err-clause-stops g c w stood =
    let had = sym c.is_no_memory.ensures ∙ c.if-is_no_memory.false in
    inr (adds_entry (g.V.Versions.log c.args.world.now) (g.V.Versions.log c.call-reply.new.self) w c.args.actor.number
    c.args.request c.call-reply.result had c.call-reply.ensures.log
    (replied (g.V.Versions.stands c.args.world.now) (g.V.Versions.stands c.call-reply.new.self)
    (λ v. call table v c.args.actor.number c.args.request) c.call-reply.result had c.call-reply.ensures.call w
    stood))
