use Rattle.std.proofs.Common.{rules, ◌≡◌, refl, Err}
use Rattle.composer.specs.declared.stop.ComposeStop.TheVariants.{NoMemory}
use Rattle.composer.specs.FrameDrafts.{root_of}
use Rattle.lang_ast.specs.Programs.{functions_of}
use Rattle.composer.proofs.WholeFrames.{nothing_composed}
use Rattle.composer.proofs.composing.compose.Goals as goal

pub returns-in_err-last-clause-frame : goal.returns-in_err-last-clause-frame
returns-in_err-last-clause-frame g c k m h holds owing =
    let e : c.from_residual.result ≡ Err NoMemory = search rules in
    nothing_composed (functions_of c.args.program.now) (root_of c.args.program.now) c.args.owed.now k m
    (g.V.View.asked c.args.view.now) (g.V.View.asked c.args.view.now) c.from_residual.result refl e
