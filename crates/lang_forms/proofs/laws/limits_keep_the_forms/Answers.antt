use Rattle.lang_forms.proofs.Unlimited.{unlimited_forms, clamped_forms}
use Rattle.lang_forms.proofs.laws.limits_keep_the_forms.Goals as goal

pub returns-clause-unlimited : goal.returns-clause-unlimited
returns-clause-unlimited c = unlimited_forms

pub returns-clause-clamped : goal.returns-clause-clamped
returns-clause-clamped c = clamped_forms
