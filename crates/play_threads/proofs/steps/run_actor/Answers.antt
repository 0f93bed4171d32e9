use Rattle.std.proofs.Common.{◌≡◌, ◌++◌, [], ap, sym, ◌∙◌, subst, append-nil, false, None, List}
use Rattle.lang_script.specs.StepCalls.{ActorPart, script_parts}
use Rattle.play_laws.specs.Woven.{AreOf, actor_parts, initial_actor}
use Rattle.play_laws.specs.PartTurns.{Alternates}
use Rattle.play_laws.proofs.Callers.{parts_are_of, parts_are_of_script}
use Rattle.play_laws.proofs.ScriptTurns.{parts_turns}
use Rattle.play_steps.specs.PartLists.{parts_in}
use Rattle.play_threads.specs.declared.steps.EndedActor.{EndedActor}
use Rattle.play_threads.specs.ActorSteps.{ActsThrough}
use Rattle.play_threads.proofs.ActorEnds.{started, ended, unstarted}
use Rattle.play_threads.proofs.steps.run_actor.Goals as goal

pub returns-in_default : goal.returns-in_default
returns-in_default g c =
    let new = c.requires.seat in
    let parts = script_parts c.args.job.now.script.actors.items c.args.job.now.script.forms.items in
    record {
      acts = record {
        seated = record { fits = new.0.0; is_callers = new.1 };
        acted = λ o stood counts. unstarted parts c.args.run.now.number c.args.seat new.0.1;
      };
    }

pub returns-in_default-add_actor : goal.returns-in_default-add_actor
returns-in_default-add_actor g c =
    let new = c.requires.seat in
    let parts = script_parts c.args.job.now.script.actors.items c.args.job.now.script.forms.items in
    record {
      acts = record {
        seated = record { fits = new.0.0; is_callers = new.1 };
        acted = λ o stood counts. unstarted parts c.args.run.now.number c.args.seat new.0.1;
      };
    }

pub make_parts-requires-clause-own : goal.make_parts-requires-clause-own
make_parts-requires-clause-own g c =
    let a = c.args.run.now.number in
    let actors = c.args.job.now.script.actors.items in
    let forms = c.args.job.now.script.forms.items in
    let listed : parts_in c.add_actor.new.parts.items ≡ actor_parts a actors forms =
    c.in-Ok-add_actor.ensures ∙ ap (λ l. parts_in l ++ actor_parts a c.as_slice-actors.result.now c.as_slice.result.now)
    c.new-steps.ensures.items
    ∙ ap (λ l. actor_parts a l c.as_slice.result.now) c.as_slice-actors.ensures.value
    ∙ ap (λ l. actor_parts a actors l) c.as_slice.ensures.value in
    subst (λ (l : List ActorPart). AreOf a l) (parts_are_of_script a actors forms ∙ sym listed)
    (parts_are_of a (script_parts actors forms))

pub returns : goal.returns
returns g c =
    let new = c.requires.seat in
    let a = c.args.run.now.number in
    let actors = c.args.job.now.script.actors.items in
    let forms = c.args.job.now.script.forms.items in
    let parts = script_parts actors forms in
    let listed : parts_in c.add_actor.new.parts.items ≡ actor_parts a actors forms =
    c.in-Ok-add_actor.ensures ∙ ap (λ l. parts_in l ++ actor_parts a c.as_slice-actors.result.now c.as_slice.result.now)
    c.new-steps.ensures.items
    ∙ ap (λ l. actor_parts a l c.as_slice.result.now) c.as_slice-actors.ensures.value
    ∙ ap (λ l. actor_parts a actors l) c.as_slice.ensures.value in
    let all = append-nil (parts_in c.add_actor.new.parts.items) ∙ listed in
    let turn = subst (λ (l : List ActorPart). Alternates l false) (sym all) (parts_turns a actors forms) in
    let run = c.make_parts in
    record {
      acts = subst (λ (e : EndedActor g.row.V.Denot). ActsThrough g.V.Versions.stands c.args.run.now.shared.now parts a
          e.seat e.short) (sym c.end.ensures)
          (record {
            seated = run.ensures.seated;
            acted = λ o stood counts. ended o parts a run.result
                (run.ensures.makes o stood counts (initial_actor parts a) []
                (started o parts (parts_in c.add_actor.new.parts.items ++ []) a
                (record { seat = c.args.seat; memory = c.in-Ok.memory; step = 0; short = false; failed = None })
                (all ∙ sym (parts_are_of_script a actors forms)) turn new.0.1 c.in-Ok.ensures));
          });
    }
