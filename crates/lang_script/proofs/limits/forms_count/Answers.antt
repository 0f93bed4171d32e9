use Rattle.std.proofs.Common.{ap}
use Rattle.lang_script.specs.Scripts.{forms_count}
use Rattle.lang_script.proofs.Capped.{capped_here}
use Rattle.lang_script.proofs.Scans.{empty_list}
use Rattle.lang_script.proofs.limits.forms_count.Goals as goal

pub returns : goal.returns
returns c = capped_here _ _ _ (ap forms_count (empty_list _ c.in_default.ensures.cases)) c.loop-form.invariant.0
    c.loop-form.invariant.1
