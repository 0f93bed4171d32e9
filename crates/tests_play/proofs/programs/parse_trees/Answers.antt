use Rattle.sexp_text.specs.View.{forest_view}
use Rattle.play_core.proofs.Numbers.{parsed_is_numbered}
use Rattle.tests_play.proofs.programs.parse_trees.Goals as goal

pub returns : goal.returns
returns c = record {
  numbered = parsed_is_numbered (forest_view c.args.trees.now) c.program.result c.program.ensures.forms
      c.program.ensures.small;
}
