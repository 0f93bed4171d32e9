use Rattle.std.proofs.Common.{◌≡◌, ◌++◌, ◌∷◌, false, drop}
use Rattle.serde_json.specs.Written.{members_text}
use Rattle.script_lang.specs.SortedAttributes.{sorted_members}
use Rattle.script_lang.proofs.tree_json.add_members.Given as goal

abbrev pub invariant-loop-attribute : goal.invariant-loop-attribute
invariant-loop-attribute l = l.text.items ++ members_text l.later (sorted_members (drop l.attribute-index l.attributes))
    ≡ l.fn.text.items ++ 123 ∷ members_text false (sorted_members l.attributes)
