use Rattle.std.proofs.Common.{◌≡◌, ◌++◌, take}
use Rattle.rt_values.specs.Values.{items_text}
use Rattle.rt_values.proofs.value.append_items.Given as goal

abbrev pub invariant-loop-item : goal.invariant-loop-item
invariant-loop-item l = l.text.items ≡ l.fn.text.items ++ items_text (take l.item-index l.items)
