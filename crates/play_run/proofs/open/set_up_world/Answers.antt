use Rattle.std.proofs.Common.{◌≤◌, length, sym, subst}
use Rattle.lang_ast.specs.Programs.{program_view}
use Rattle.lang_ast.specs.SyntaxView.{functions_view}
use Rattle.lang_ast.proofs.Limits.{few_states}
use Rattle.play_run.specs.Opening.{StatesFit}
use Rattle.play_run.proofs.Openings.{program-fits}
use Rattle.play_run.proofs.open.set_up_world.Goals as goal

pub open_world-requires-clause-fit : goal.open_world-requires-clause-fit
open_world-requires-clause-fit g c =
    subst StatesFit (sym c.states.ensures.states)
    (program-fits (program_view c.args.program.now) c.states.ensures.checked.fine)

pub open_world-requires-clause-few : goal.open_world-requires-clause-few
open_world-requires-clause-few g c =
    subst (λ ss. length ss ≤ 256) (sym c.states.ensures.states)
    (few_states c.args.program.now.states.items (functions_view c.args.program.now.functions.items)
    c.args.program.now.small)
