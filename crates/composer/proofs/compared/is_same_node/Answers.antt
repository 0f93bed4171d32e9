use Rattle.std.proofs.Common.{List, ℕ, ap, sym, ◌∙◌}
use Rattle.std.specs.Str.{bytes_eq}
use Rattle.rt_groups.specs.declared.groups.Attribute.{Attribute}
use Rattle.composer.specs.Comparisons.{same_attributes}
use Rattle.composer.proofs.EqualKinds.{equal_nodes}
use Rattle.composer.proofs.compared.is_same_node.Goals as goal

pub returns-else-not-is : goal.returns-else-not-is
returns-else-not-is c e =
    equal_nodes c.args.what.now c.args.kind.now c.in-Node.word c.args.attributes.now c.in-Node.others c.in-Node.is
    (ap (λ (k : List ℕ). bytes_eq c.in-Node.word k) (sym c.bytes.ensures) ∙ sym c.is.ensures ∙ c.if-not-is.false)
    (ap (λ (l : List Attribute). same_attributes l c.args.attributes.now) (sym c.items-olds.ensures)
    ∙ sym c.same_attributes.ensures ∙ e)
