use Rattle.std.proofs.Common.{◌≡◌, rules, refl, ◌∙◌, ◌++◌, ap, sym, List, [], ◌∷◌, Some, None, codes}
use Rattle.rt_values.specs.declared.names.Kind.TheVariants.{Mutable}
use Rattle.lang_ast.specs.declared.script.SnapshotRef.TheVariants.{Global}
use Rattle.snap_api.specs.declared.data.Request.TheVariants as request
use Rattle.lang_script.specs.StepCalls.{Take, Write, Apply, ActorPart, of_actor, number_taken}
use Rattle.play_run.specs.RunOutput.{parts_after}
use Rattle.play_gen.specs.GeneratedScript.{named_g}
use Rattle.play_gen.proofs.CountedParts.{then_ok}
use Rattle.play_gen.proofs.counting.count_raise.Goals as goal

pub returns : goal.returns
returns g c functions r h =
    let take : List ActorPart = of_actor 0 (Take (codes "g") Mutable Global) ∷ [] in
    let write : List ActorPart = of_actor 0 (Write named_g c.args.object c.args.value) ∷ [] in
    let apply : List ActorPart = of_actor 0 (Apply named_g) ∷ [] in
    let t = c.args.counting.now.tally in
    let told : c.number_taken-name.result ≡ number_taken c.in_ok-count_call.field-0 = search rules in
    let number = ap number_taken (sym (c.in_ok-count_call.ensures.reply r.standing.world h.world_stands)) ∙ sym told in
    let first = c.in_ok-count_call.ensures.counts functions r (Take (codes "g") Mutable Global) tt refl h in
    let second = c.in_ok-count_request.ensures functions (parts_after functions r take)
    (Write named_g c.args.object c.args.value) tt
    (ap (λ n. Some (request.Write n c.args.object c.args.value)) number) first.facts in
    let third = c.count_request-2.ensures functions
    (parts_after functions (parts_after functions r take) write) (Apply named_g) tt
    (ap (λ n. Some (request.Apply n)) number) second.facts in
    then_ok _ _ c.count_request-2.result None None t r take (write ++ apply) _ refl first
    (then_ok _ _ c.count_request-2.result None None c.count_call.new.counting.tally (parts_after functions r take) write
    apply _ refl second third)
