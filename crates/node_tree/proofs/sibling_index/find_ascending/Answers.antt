use Rattle.std.proofs.Common.{rules, sym, ◌∙◌}
use Rattle.std.proofs.Math.Dec.{ltb}
use Rattle.std.proofs.lemmas.List.Sorted.{IsPartitionPoint-from_clause}
use Rattle.node_tree.specs.declared.siblings.Sibling.{Sibling}
use Rattle.node_tree.proofs.SiblingIndexes.{only_numbered, parted_by, not_numbered_at}
use Rattle.node_tree.proofs.sibling_index.find_ascending.Goals as goal

pub returns-then-has_number : goal.returns-then-has_number
returns-then-has_number c = only_numbered c.args.siblings.now c.args.number c.args.guess c.requires
    (sym c.has_number.ensures ∙ c.if-has_number.true)

pub returns-then-has_number-2 : goal.returns-then-has_number-2
returns-then-has_number-2 c = only_numbered c.args.siblings.now c.args.number c.partition_point-index.result c.requires
    (sym c.has_number-2.ensures ∙ c.if-has_number-2.true)

pub returns-else-has_number-2 : goal.returns-else-has_number-2
returns-else-has_number-2 c =
    let point = IsPartitionPoint-from_clause (λ (s : Sibling). ltb s.number c.args.number) _ _
    c.partition_point-index.ensures.partitioned (parted_by c.args.siblings.now c.args.number c.requires)
    (λ a r f k. search rules) in
    not_numbered_at c.args.siblings.now c.args.number c.partition_point-index.result c.requires point
    (sym c.has_number-2.ensures ∙ c.if-has_number-2.false)
