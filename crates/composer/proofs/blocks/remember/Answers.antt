use Rattle.std.proofs.Common.{rules}
use Rattle.lang_ast.specs.SyntaxView.{expr_view}
use Rattle.lang_ast.specs.Evaluation.{eval}
use Rattle.lang_eval.proofs.Grows.{grew_none}
use Rattle.composer.proofs.blocks.remember.Goals as goal

pub returns-in_err-kept-clause-part : goal.returns-in_err-kept-clause-part
returns-in_err-kept-clause-part g c m h = let none =
    grew_none (g.V.View.asked c.args.view.now) (eval m (expr_view c.args.value.now) c.args.env.now).reads in
    search rules
