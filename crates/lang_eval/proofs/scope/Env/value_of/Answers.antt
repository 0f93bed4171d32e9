use Rattle.std.proofs.Common.{rules, ◌≡◌, ◌∙◌, ap}
use Rattle.rt_values.specs.Values.{is_flat}
use Rattle.lang_ast.specs.Evaluation.{lookup}
use Rattle.lang_eval.proofs.Lookups.{lookup_last}
use Rattle.lang_eval.proofs.scope.Env.value_of.Goals as goal

pub returns-then-is : goal.returns-then-is
returns-then-is c =
    let latest = lookup_last c.loop-binding.rest.now c.in-Some.before.now c.in-Some.binding.now c.args.name.now
    c.in-Some.ensures.cases.0 in
    search rules

pub loop-binding-preserved : goal.loop-binding-preserved
loop-binding-preserved c =
    let latest = lookup_last c.loop-binding.rest.now c.in-Some.before.now c.in-Some.binding.now c.args.name.now
    c.in-Some.ensures.cases.0 in
    search rules

pub returns-in_err-copy-clause-free : goal.returns-in_err-copy-clause-free
returns-in_err-copy-clause-free c flat =
    let latest = lookup_last c.loop-binding.rest.now c.in-Some.before.now c.in-Some.binding.now c.args.name.now
    c.in-Some.ensures.cases.0 in
    let here : c.in-Some.binding.now.value ≡ lookup c.args.self.now c.args.name.now = search rules in
    absurd (c.in_err-copy.ensures.flat (ap is_flat here ∙ flat))
