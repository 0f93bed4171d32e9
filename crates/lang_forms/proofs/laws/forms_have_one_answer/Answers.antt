use Rattle.std.proofs.Common.{sym, ◌∙◌}
use Rattle.lang_forms.specs.TextAnswers.{text_answer}
use Rattle.lang_forms.proofs.ByForms.{answer_is, answer_one}
use Rattle.lang_forms.proofs.laws.forms_have_one_answer.Goals as goal

pub returns-clause-some : goal.returns-clause-some
returns-clause-some c = λ end f. (text_answer end f, answer_is end f)

pub returns-clause-one : goal.returns-clause-one
returns-clause-one c = λ end f a b left right. answer_one end f a left ∙ sym (answer_one end f b right)
