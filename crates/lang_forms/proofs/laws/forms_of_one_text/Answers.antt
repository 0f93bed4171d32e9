use Rattle.std.proofs.Common.{◌∙◌, sym}
use Rattle.lang_forms.proofs.TextIsRead.{text_read}
use Rattle.lang_forms.proofs.TextHasForms.{ok_same}
use Rattle.lang_forms.proofs.laws.forms_of_one_text.Goals as goal

pub returns : goal.returns
returns c = λ f t u has other. ok_same t u (sym (text_read 0 f t has) ∙ text_read 0 f u other)
