use Rattle.std.proofs.Common.{if◌then◌else◌, ap, sym, ◌∙◌}
use Rattle.std.specs.Option.{option_map}
use Rattle.remember_cells.specs.Cells.{cell_answer}
use Rattle.remember_cells.specs.declared.answers.CellAnswer.TheVariants as answer
use Rattle.remember_cells.proofs.EqualKeys.{kept_for_equal_keys}
use Rattle.remember_cells.proofs.cell.Goals as goal

pub returns-in-Some-clause-kept : goal.returns-in-Some-clause-kept
returns-in-Some-clause-kept c =
    kept_for_equal_keys (option_map (λ x. x.now.keys.now) c.args.old) c.args.keys.now answer.Kept (sym (
    ap (λ o. cell_answer (option_map (λ x. x.now.keys.now) o) c.args.keys.now) c.in-Some.is
    ∙ ap (λ b. if b then answer.Kept else answer.Calculate) (sym c.same_keys.ensures ∙ c.if-same_keys.true)
    ))

pub returns-in_default-clause-kept : goal.returns-in_default-clause-kept
returns-in_default-clause-kept c =
    kept_for_equal_keys (option_map (λ x. x.now.keys.now) c.args.old) c.args.keys.now answer.Calculate (sym (
    ap (λ o. cell_answer (option_map (λ x. x.now.keys.now) o) c.args.keys.now) c.in-Some.is
    ∙ ap (λ b. if b then answer.Kept else answer.Calculate) (sym c.same_keys.ensures ∙ c.if-same_keys.false)
    ))
