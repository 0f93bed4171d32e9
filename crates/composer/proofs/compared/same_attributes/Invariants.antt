use Rattle.std.proofs.Common.{◌≡◌, drop}
use Rattle.composer.specs.Comparisons.{same_attributes}
use Rattle.composer.proofs.compared.same_attributes.Given as goal

abbrev pub invariant-loop-attribute : goal.invariant-loop-attribute
invariant-loop-attribute l =
    same_attributes (drop l.attribute-index l.attributes) l.rest ≡ same_attributes l.attributes l.others
