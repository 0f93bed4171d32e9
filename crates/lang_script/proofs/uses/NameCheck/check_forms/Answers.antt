use Rattle.std.proofs.Common.{◌∙◌, sym, ap, subst}
use Rattle.lang_script.specs.ScriptFaults.{text_forms, text_form}
use Rattle.lang_script.specs.NameScans.{scans, IsAt}
use Rattle.lang_script.proofs.Scans.{scans_append, empty_list}
use Rattle.lang_script.proofs.uses.NameCheck.check_forms.Goals as goal

pub loop-form-preserved : goal.loop-form-preserved
loop-form-preserved c threads states s at =
    let run = c.loop-form.invariant threads states s at in (
      scans threads states run.0 (text_form c.args.actor c.in-Some.form.now),
      c.in_ok-check_form.ensures threads states run.0 run.1,
      sym (scans_append threads states run.0 (text_form c.args.actor c.in-Some.form.now)
          (text_forms c.args.actor c.in-Some.more.now))
          ∙ ap (λ l. scans threads states run.0 (text_forms c.args.actor l)) (sym c.in-Some.ensures.cases.0) ∙ run.2,
    )

pub returns : goal.returns
returns c threads states s at =
    let run = c.loop-form.invariant threads states s at in
    subst (IsAt threads states c.loop-form.self)
    (ap (λ l. scans threads states run.0 (text_forms c.args.actor l))
    (sym (empty_list _ c.in_default.ensures.cases)) ∙ run.2) run.1
