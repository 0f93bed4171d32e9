use Rattle.std.proofs.Common.{Result, subst, sym}
use Rattle.lang_forms.specs.Sources.{Source, parsed_source_view}
use Rattle.lang_forms.proofs.Limits.{forms_answer, small_answers, stop_answers, limit_answers}
use Rattle.lang_forms.specs.declared.stop.FormStop.{FormStop}
use Rattle.lang_forms.specs.FirstWrong.{Answers}
use Rattle.lang_forms.proofs.ByForms.{answer_one}
use Rattle.lang_forms.proofs.parse_program.program.Goals as goal

pub returns-clause-answer : goal.returns-clause-answer
returns-clause-answer c = λ a h. subst (λ (x : Result Source FormStop). Answers parsed_source_view
    c.text_or_limit.result x) (sym (answer_one c.args.end _ a h)) c.text_or_limit.ensures.read

pub returns-clause-forms : goal.returns-clause-forms
returns-clause-forms c =
    forms_answer parsed_source_view c.args.end _ c.text_or_limit.result c.text_or_limit.ensures.read

pub returns-clause-small : goal.returns-clause-small
returns-clause-small c =
    small_answers parsed_source_view c.args.end _ c.text_or_limit.result c.text_or_limit.ensures.read

pub returns-clause-stop : goal.returns-clause-stop
returns-clause-stop c =
    λ at. stop_answers parsed_source_view c.args.end at _ c.text_or_limit.result c.text_or_limit.ensures.read

pub returns-clause-limit : goal.returns-clause-limit
returns-clause-limit c =
    λ at. limit_answers parsed_source_view c.args.end at _ c.text_or_limit.result c.text_or_limit.ensures.read
