use Rattle.std.proofs.Common.{◌≡◌, ◌++◌, length, map}
use Rattle.script_lang.specs.Lines.{attributes_text}
use Rattle.script_lang.specs.GroupLines.{plain_attribute}
use Rattle.script_lang.proofs.tree.add_attributes.Given as goal

abbrev pub invariant-loop-attribute : goal.invariant-loop-attribute
invariant-loop-attribute l = l.text.items ++ attributes_text (map plain_attribute l.rest)
    ≡ l.fn.text.items ++ attributes_text (map plain_attribute l.attributes)

abbrev pub decreases-loop-attribute : goal.decreases-loop-attribute
decreases-loop-attribute l = length l.rest
