use Rattle.std.proofs.Common.{rules, ◌≡◌, ap, Err}
use Rattle.lang_ast.specs.SyntaxView.{functions_view}
use Rattle.compose_model.specs.Composing.{forest}
use Rattle.lang_meaning.specs.declared.composition.ScratchStop.{ScratchStop}
use Rattle.lang_meaning.specs.declared.composition.ScratchStop.TheVariants.{TooManyGroups}
use Rattle.lang_meaning.proofs.StatementCases.{forest_ran, few, many}
use Rattle.lang_meaning.proofs.composition.scratch.Goals as goal

pub returns-clause-groups : goal.returns-clause-groups
returns-clause-groups g c m h =
    let r = forest_ran m c.args.functions.now c.args.root _ _ _ _ _ _ _ _ c.new-arguments.ensures c.clear.ensures
    (c.in_ok-run_call.ensures.ran m h) in
    r.made

pub returns-clause-fits : goal.returns-clause-fits
returns-clause-fits g c m h =
    let r = forest_ran m c.args.functions.now c.args.root _ _ _ _ _ _ _ _ c.new-arguments.ensures c.clear.ensures
    (c.in_ok-run_call.ensures.ran m h) in
    few (forest (functions_view c.args.functions.now) c.args.root m) _ _ r.made c.in_ok-run_call.ensures.fits

pub returns-clause-asks : goal.returns-clause-asks
returns-clause-asks g c m h =
    let r = forest_ran m c.args.functions.now c.args.root _ _ _ _ _ _ _ _ c.new-arguments.ensures c.clear.ensures
    (c.in_ok-run_call.ensures.ran m h) in
    r.came

pub returns-in_err-run_call-clause-part : goal.returns-in_err-run_call-clause-part
returns-in_err-run_call-clause-part g c m h =
    let e : c.from_residual.result ≡ Err c.in_err-run_call.field-0.0 = search rules in
    let r = forest_ran m c.args.functions.now c.args.root _ _ _ _ _ _ _ _ c.new-arguments.ensures c.clear.ensures
    (c.in_err-run_call.ensures.ran m h) in
    rw e r.part

pub returns-in_err-run_call-clause-many : goal.returns-in_err-run_call-clause-many
returns-in_err-run_call-clause-many g c m h x =
    let e : c.from_residual.result ≡ Err c.in_err-run_call.field-0.0 = search rules in
    let r = forest_ran m c.args.functions.now c.args.root _ _ _ _ _ _ _ _ c.new-arguments.ensures c.clear.ensures
    (c.in_err-run_call.ensures.ran m h) in
    let y : c.in_err-run_call.field-0.0 ≡ TooManyGroups = cc in
    many (forest (functions_view c.args.functions.now) c.args.root m) _ (r.many (ap (λ (w : ScratchStop). Err w) y))
