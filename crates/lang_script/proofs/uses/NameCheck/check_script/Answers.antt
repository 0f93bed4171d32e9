use Rattle.std.proofs.Common.{◌∙◌, sym, ap, subst}
use Rattle.lang_script.specs.Scripts.{index_of}
use Rattle.lang_script.specs.ScriptFaults.{text_script, text_forms}
use Rattle.lang_script.specs.NameScans.{scans, IsAt}
use Rattle.lang_script.proofs.Scans.{scans_append, empty_list}
use Rattle.lang_script.proofs.uses.NameCheck.check_script.Goals as goal

pub loop-form-preserved : goal.loop-form-preserved
loop-form-preserved c threads states s at =
    let run = c.loop-form.invariant threads states s at in
    let numbered = subst (λ a. IsAt threads states c.check_forms.new.self
    (scans threads states run.0 (text_forms a c.items.result.now)))
    (c.index_of-actor.ensures ∙ ap (λ n. index_of n c.args.actors.now) c.bytes.ensures)
    (c.in_ok-check_forms.ensures threads states run.0 run.1) in
    let here = subst (λ xs. IsAt threads states c.check_forms.new.self
    (scans threads states run.0 (text_forms (index_of c.in-Some.form.now.actor.text c.args.actors.now) xs)))
    c.items.ensures numbered in
    let steps = text_forms (index_of c.in-Some.form.now.actor.text c.args.actors.now) c.in-Some.form.now.steps in (
      scans threads states run.0 steps,
      here,
      sym (scans_append threads states run.0 steps (text_script c.args.actors.now c.in-Some.more.now))
          ∙ ap (λ l. scans threads states run.0 (text_script c.args.actors.now l)) (sym c.in-Some.ensures.cases.0)
          ∙ run.2,
    )

pub returns : goal.returns
returns c threads states s at =
    let run = c.loop-form.invariant threads states s at in
    subst (IsAt threads states c.loop-form.self)
    (ap (λ l. scans threads states run.0 (text_script c.args.actors.now l))
    (sym (empty_list _ c.in_default.ensures.cases)) ∙ run.2) run.1
