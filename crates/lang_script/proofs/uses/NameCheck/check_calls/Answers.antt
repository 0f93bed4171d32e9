use Rattle.std.proofs.Common.{◌∙◌, sym, ap, subst}
use Rattle.lang_script.specs.ScriptFaults.{text_calls, CallStep}
use Rattle.lang_script.specs.NameScans.{scan, scans, IsAt}
use Rattle.lang_script.proofs.Scans.{empty_list}
use Rattle.lang_script.proofs.uses.NameCheck.check_calls.Goals as goal

pub loop-call-preserved : goal.loop-call-preserved
loop-call-preserved c threads states s at =
    let run = c.loop-call.invariant threads states s at in (
      scan threads states run.0 (CallStep c.args.actor c.in-Some.call.now),
      c.in_ok-check_call.ensures threads states run.0 run.1,
      ap (λ l. scans threads states run.0 (text_calls c.args.actor l)) (sym c.in-Some.ensures.cases.0) ∙ run.2,
    )

pub returns : goal.returns
returns c threads states s at =
    let run = c.loop-call.invariant threads states s at in
    subst (IsAt threads states c.loop-call.self)
    (ap (λ l. scans threads states run.0 (text_calls c.args.actor l))
    (sym (empty_list _ c.in_default.ensures.cases)) ∙ run.2) run.1
