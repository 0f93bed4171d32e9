use Rattle.std.proofs.Common.{[], ◌∷◌, ◌∙◌, ap, sym, subst, rules, length, arith}
use Rattle.play_laws.specs.Woven.{AreOf}
use Rattle.play_steps.specs.ActorNotes.{part_of}
use Rattle.play_steps.specs.PartLists.{parts_in}
use Rattle.play_threads.specs.ActorSteps.{Makes}
use Rattle.play_threads.proofs.Sequences.{leads_as, leads_on, none_left}
use Rattle.play_threads.proofs.steps.make_parts.Goals as goal

pub loop-step-init : goal.loop-step-init
loop-step-init g c =
    let all = ap parts_in c.into_iter-step-iterator.ensures.into_iter_gives.0 in
    record {
      counted = search rules;
      seated = c.requires.seated;
      own = subst (AreOf c.args.run.now.number) (sym all) c.requires.own;
      leads = leads_as g.V.Versions.stands c.args.run.now.shared.now c.args.worker c.args.worker _ _ _ (sym all)
          (λ o stood counts before rest start. start);
    }

pub loop-step-preserved : goal.loop-step-preserved
loop-step-preserved g c =
    let stands = g.V.Versions.stands in
    let shared = c.args.run.now.shared.now in
    let a = c.args.run.now.number in
    let step = c.in-Some.step in
    let steps = c.in-Some.ensures.steps.0 in
    let split = ap parts_in steps in
    let own = subst (AreOf a) split c.loop-step.invariant.own in
    record {
      counted = (let was = c.loop-step.invariant.counted in let gone = c.in-Some.ensures.steps.1 in
          let short = ap length steps in omega arith);
      seated = c.make_step-worker.ensures.seated;
      own = own.1;
      leads = leads_on stands shared c.args.worker c.loop-step.worker c.make_step-worker.result _
          (parts_in (step ∷ [])) _
          (leads_as stands shared c.args.worker c.loop-step.worker _ _ _ split c.loop-step.invariant.leads)
          (subst (λ n. Makes stands shared c.loop-step.worker c.make_step-worker.result
          (record { actor = n; part = part_of step.part } ∷ [])) (sym own.0) c.make_step-worker.ensures.makes);
    }

pub returns-clause-makes : goal.returns-clause-makes
returns-clause-makes g c =
    leads_as g.V.Versions.stands c.args.run.now.shared.now c.args.worker c.loop-step.worker _ _ _
    (ap parts_in (none_left _ (sym c.loop-step.invariant.counted ∙ c.in-None.ensures.steps.0)))
    c.loop-step.invariant.leads
