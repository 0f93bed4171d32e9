use Rattle.std.proofs.Common.{rules, subst}
use Rattle.snap_policy.specs.Table.{table}
use Rattle.snap_api.specs.Calls.{Calls}
use Rattle.snap_api.specs.declared.data.Reply.TheVariants as reply
use Rattle.snap_api.specs.declared.data.Request.TheVariants as request
use Rattle.compose_app.proofs.framing.finish_frame.Goals as goal

pub returns-clause-world : goal.returns-clause-world
returns-clause-world g c m shown inner =
    let name = c.args.begun.name in
    let desk = c.new-desk.result in
    let ended = c.finish.new.desk.world.now in
    let told : Calls table (g.V.Versions.stands desk.world.now) (g.V.Versions.stands ended) desk.caller
    (request.Dispose name) reply.Disposed = c.finish.ensures.world m (search rules) inner in
    let mine = subst (λ n. Calls table (g.V.Versions.stands desk.world.now) (g.V.Versions.stands ended) n
    (request.Dispose name) reply.Disposed) c.new-desk.ensures.rest.0 told in
    subst (λ v. Calls table (g.V.Versions.stands c.args.world.now) (g.V.Versions.stands v) 0 (request.Dispose name)
    reply.Disposed) (search rules)
    (subst (λ v. Calls table (g.V.Versions.stands v) (g.V.Versions.stands ended) 0 (request.Dispose name)
    reply.Disposed) c.new-desk.ensures.world mine)
