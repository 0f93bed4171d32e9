use Rattle.std.proofs.Common.{◌≡◌, length, map}
use Rattle.serde_json.specs.Data.{no_members}
use Rattle.script_lang.specs.TreeJson.{with_attributes}
use Rattle.script_lang.specs.GroupLines.{plain_attribute}
use Rattle.script_lang.specs.SortedAttributes.{sorted_members}
use Rattle.script_lang.proofs.tree_json.sort_by_name.Given as goal

abbrev pub invariant-loop-attribute : goal.invariant-loop-attribute
invariant-loop-attribute l = with_attributes (sorted_members l.sorted.items) (map plain_attribute l.rest)
    ≡ with_attributes no_members (map plain_attribute l.attributes)

abbrev pub decreases-loop-attribute : goal.decreases-loop-attribute
decreases-loop-attribute l = length l.rest
