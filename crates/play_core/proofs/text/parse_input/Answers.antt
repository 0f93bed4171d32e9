use Rattle.std.proofs.Common.{◌≡◌, ◌∙◌, ap, sym, subst, Err, inl, inr}
use Rattle.std.specs.Prelude.{IfErr}
use Rattle.sexp_text.specs.TextFaults.{Cause}
use Rattle.sexp_text.specs.View.{forest_view}
use Rattle.play_core.specs.declared.text.TextEnd.TheVariants.{Bad}
use Rattle.play_core.proofs.Uniques.{refused_none}
use Rattle.play_core.proofs.Refusals.{cause-fault, stop-none, stopped, refused-fault, read-fault, answered}
use Rattle.play_core.proofs.text.parse_input.Goals as goal

pub returns-in-Err-clause-bad : goal.returns-in-Err-clause-bad
returns-in-Err-clause-bad c fault e =
    let ends : c.from.result ≡ Bad fault = cc in
    let same = sym c.from.ensures ∙ ends in (
      stop-none c.args.threads c.args.bytes.now c.in-Err.stop (c.read.ensures.refused c.in-Err.stop c.in-Err.is) fault
          same,
      cause-fault c.args.threads c.args.bytes.now c.in-Err.stop
          (subst (λ r. IfErr r (Cause c.args.bytes.now)) c.in-Err.is c.read.ensures.cause) fault same,
    )

pub returns-in-Err-clause-told : goal.returns-in-Err-clause-told
returns-in-Err-clause-told c fault f = elim (stopped c.args.threads c.args.bytes.now c.read.result c.read.ensures.told
    c.in-Err.stop c.in-Err.is (c.read.ensures.refused c.in-Err.stop c.in-Err.is) fault f) [
      | inl e ↦ inl (ap Err (c.from.ensures ∙ e))
      | inr e ↦ inr (ap Err (c.from.ensures ∙ e))
    ]

pub returns-clause-bad : goal.returns-clause-bad
returns-clause-bad c fault e =
    let refused = c.parse_forms.ensures.bad fault e in (
      refused_none c.args.threads c.args.bytes.now (forest_view c.in-Ok.trees.items) (Bad fault) c.in-Ok.ensures.ok.0
          refused,
      refused-fault c.args.threads c.args.bytes.now (forest_view c.in-Ok.trees.items) fault
          c.in-Ok.ensures.ok.0 c.in-Ok.ensures.ok.1 refused,
    )

pub returns-clause-told : goal.returns-clause-told
returns-clause-told c fault f =
    answered c.parse_forms.result _ fault c.parse_forms.ensures.fine c.parse_forms.ensures.bad
    (read-fault c.args.threads c.args.bytes.now c.read.result c.read.ensures.told c.in-Ok.trees c.in-Ok.is
    (forest_view c.in-Ok.trees.items) c.in-Ok.ensures.ok.0 fault f)
