use Rattle.std.proofs.Common.{refl, ap, subst, List, [], ◌∷◌, ℕ, Option, Some, None}
use Rattle.lang_script.specs.StepCalls.{BeginFrame, EndFrame, ActorPart, of_actor, end_request}
use Rattle.play_run.specs.RunOutput.{parts_after}
use Rattle.play_gen.specs.Counting.{CountsAt}
use Rattle.play_gen.proofs.CountedParts.{counts_then, counts_no_call, then_ok}
use Rattle.play_gen.proofs.counting.count_frame.Goals as goal

pub returns-in-Some : goal.returns-in-Some
returns-in-Some g c functions r h =
    let begin : List ActorPart = of_actor 0 BeginFrame ∷ [] in
    let end : List ActorPart = of_actor 0 EndFrame ∷ [] in
    let t = c.args.counting.now.tally in
    let begun = subst (λ (o : Option ℕ). CountsAt functions g.V.Versions.stands begin c.begin_frame.new.world
    c.begin_frame.new.counting o t r) c.in-Some.is (c.in_ok-name.ensures functions r h) in
    then_ok _ _ c.end_frame.result (Some c.in-Some.name) None t r begin end _ refl begun
    (c.end_frame.ensures functions (parts_after functions r begin) begun.facts)

pub returns-in-None : goal.returns-in-None
returns-in-None g c functions r h =
    let begin : List ActorPart = of_actor 0 BeginFrame ∷ [] in
    let end : List ActorPart = of_actor 0 EndFrame ∷ [] in
    let t = c.args.counting.now.tally in
    let begun = subst (λ (o : Option ℕ). CountsAt functions g.V.Versions.stands begin c.begin_frame.new.world
    c.begin_frame.new.counting o t r) c.in-None.is (c.in_ok-name.ensures functions r h) in
    counts_then None None t r begin end begun
    (counts_no_call c.begin_frame.new.counting None (parts_after functions r begin) EndFrame begun.facts
    (ap end_request begun.facts.noted))
