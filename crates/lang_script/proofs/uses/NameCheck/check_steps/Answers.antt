use Rattle.std.proofs.Common.{◌∙◌, sym, ap, subst}
use Rattle.lang_script.specs.ScriptFaults.{text_steps, text_step}
use Rattle.lang_script.specs.NameScans.{scans, IsAt}
use Rattle.lang_script.proofs.Scans.{scans_append, empty_list}
use Rattle.lang_script.proofs.uses.NameCheck.check_steps.Goals as goal

pub loop-step-preserved : goal.loop-step-preserved
loop-step-preserved c threads states s at =
    let run = c.loop-step.invariant threads states s at in (
      scans threads states run.0 (text_step c.args.actor c.in-Some.step.now),
      c.in_ok-check_step.ensures threads states run.0 run.1,
      sym (scans_append threads states run.0 (text_step c.args.actor c.in-Some.step.now)
          (text_steps c.args.actor c.in-Some.more.now))
          ∙ ap (λ l. scans threads states run.0 (text_steps c.args.actor l)) (sym c.in-Some.ensures.cases.0) ∙ run.2,
    )

pub returns : goal.returns
returns c threads states s at =
    let run = c.loop-step.invariant threads states s at in
    subst (IsAt threads states c.loop-step.self)
    (ap (λ l. scans threads states run.0 (text_steps c.args.actor l))
    (sym (empty_list _ c.in_default.ensures.cases)) ∙ run.2) run.1
