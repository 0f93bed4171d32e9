use Rattle.std.proofs.Common.{[], ◌∷◌, ap, sym, ◌∙◌, ◌++◌, append_assoc, List}
use Rattle.lang_script.specs.StepCalls.{ActorPart}
use Rattle.play_laws.specs.Woven.{actor_parts}
use Rattle.play_steps.specs.PartLists.{parts_in}
use Rattle.play_steps.proofs.PartsAdded.{actor_parts_first}
use Rattle.play_steps.proofs.part_lists.add_actor.Goals as goal

pub loop-form-preserved : goal.loop-form-preserved
loop-form-preserved c =
    let a = c.args.actor in
    let actors = c.args.actors.now in
    let rest = actor_parts a actors c.in-Some.more.now in
    ap (λ (l : List ActorPart). l ++ rest) c.in_ok-add_form_of.ensures
    ∙ append_assoc (parts_in c.loop-form.parts.items) (actor_parts a actors (c.in-Some.form.now ∷ [])) rest
    ∙ sym (ap (λ (l : List ActorPart). parts_in c.loop-form.parts.items ++ l)
    (actor_parts_first a actors c.in-Some.form.now c.in-Some.more.now))
    ∙ ap (λ l. parts_in c.loop-form.parts.items ++ actor_parts a actors l) (sym c.in-Some.ensures.cases.0)
    ∙ c.loop-form.invariant
