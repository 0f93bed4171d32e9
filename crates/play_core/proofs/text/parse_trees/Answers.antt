use Rattle.sexp_text.specs.View.{forest_view}
use Rattle.lang_forms.proofs.ByForms.{answer_is}
use Rattle.play_core.proofs.Numbers.{parsed_is_numbered}
use Rattle.play_core.proofs.text.parse_trees.Goals as goal

pub returns-clause-read : goal.returns-clause-read
returns-clause-read c = c.program.ensures.answer _ (answer_is _ _)

pub returns-clause-numbered : goal.returns-clause-numbered
returns-clause-numbered c =
    parsed_is_numbered (forest_view c.args.trees.now) c.program.result c.program.ensures.forms c.program.ensures.small
