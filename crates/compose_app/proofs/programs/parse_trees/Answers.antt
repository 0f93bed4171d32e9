use Rattle.sexp_text.specs.View.{forest_view}
use Rattle.play_core.proofs.Numbers.{parsed_is_numbered}
use Rattle.compose_app.proofs.programs.parse_trees.Goals as goal

pub returns-clause-numbered : goal.returns-clause-numbered
returns-clause-numbered c =
    parsed_is_numbered (forest_view c.args.trees.now) c.program.result c.program.ensures.forms c.program.ensures.small
