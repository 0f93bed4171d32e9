use Rattle.std.proofs.Common.{[], ◌∷◌, ap, sym, ◌∙◌, ◌++◌, append_assoc, List}
use Rattle.lang_script.specs.Scripts.{written_out}
use Rattle.lang_script.specs.StepCalls.{ActorPart, steps_parts}
use Rattle.play_steps.specs.PartLists.{parts_in, parts_of}
use Rattle.play_steps.proofs.PartsAdded.{form_on}
use Rattle.play_steps.proofs.part_lists.add_forms.Goals as goal

pub loop-form-preserved : goal.loop-form-preserved
loop-form-preserved c =
    let rest = parts_of c.args.actor (steps_parts (written_out c.in-Some.more.now)) in
    ap (λ (l : List ActorPart). l ++ rest) c.in_ok-add_form.ensures
    ∙ append_assoc (parts_in c.loop-form.parts.items)
    (parts_of c.args.actor (steps_parts (written_out (c.in-Some.form.now ∷ [])))) rest
    ∙ sym (ap (λ (l : List ActorPart). parts_in c.loop-form.parts.items ++ l)
    (form_on c.args.actor c.in-Some.form.now c.in-Some.more.now))
    ∙ ap (λ l. parts_in c.loop-form.parts.items ++ parts_of c.args.actor (steps_parts (written_out l)))
    (sym c.in-Some.ensures.cases.0)
    ∙ c.loop-form.invariant
