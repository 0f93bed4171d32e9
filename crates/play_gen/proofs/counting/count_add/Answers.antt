use Rattle.std.proofs.Common.{◌≡◌, rules, refl, ◌∙◌, ap, sym, List, [], ◌∷◌, None}
use Rattle.lang_ast.specs.declared.script.SnapshotRef.TheVariants.{Global}
use Rattle.snap_api.specs.declared.data.Reply.{Reply}
use Rattle.lang_script.specs.StepCalls.{Read, WriteSum, ActorPart, of_actor, sum_request, value_read}
use Rattle.play_run.specs.RunOutput.{parts_after}
use Rattle.play_gen.proofs.CountedParts.{counts_then, counts_no_call, then_ok}
use Rattle.play_gen.proofs.counting.count_add.Goals as goal

pub returns-in-Some : goal.returns-in-Some
returns-in-Some g c functions r h =
    let read : List ActorPart = of_actor 0 (Read Global c.args.object) ∷ [] in
    let sum : List ActorPart = of_actor 0 (WriteSum Global c.args.object c.args.amount) ∷ [] in
    let first = c.in_ok-reply.ensures.counts functions r (Read Global c.args.object) tt refl h in
    let told : c.sum_request.result ≡ sum_request 0 c.args.object c.args.amount (value_read c.in_ok-reply.reply) =
    search rules in
    let asks = ap (λ (y : Reply). sum_request 0 c.args.object c.args.amount (value_read y))
    (sym (c.in_ok-reply.ensures.reply r.standing.world h.world_stands)) ∙ sym told ∙ c.in-Some.is in
    let second = c.count_request.ensures functions (parts_after functions r read)
    (WriteSum Global c.args.object c.args.amount) tt asks first.facts in
    then_ok _ _ c.count_request.result None None c.args.counting.now.tally r read sum _ refl first second

pub returns : goal.returns
returns g c functions r h =
    let read : List ActorPart = of_actor 0 (Read Global c.args.object) ∷ [] in
    let sum : List ActorPart = of_actor 0 (WriteSum Global c.args.object c.args.amount) ∷ [] in
    let first = c.in_ok-reply.ensures.counts functions r (Read Global c.args.object) tt refl h in
    let told : c.sum_request.result ≡ sum_request 0 c.args.object c.args.amount (value_read c.in_ok-reply.reply) =
    search rules in
    let asks = ap (λ (y : Reply). sum_request 0 c.args.object c.args.amount (value_read y))
    (sym (c.in_ok-reply.ensures.reply r.standing.world h.world_stands)) ∙ sym told ∙ c.in-None.is in
    counts_then None None c.args.counting.now.tally r read sum first
    (counts_no_call c.count_call.new.counting None (parts_after functions r read)
    (WriteSum Global c.args.object c.args.amount) first.facts asks)
