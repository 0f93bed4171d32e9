use Rattle.std.proofs.Common.{◌≡◌, ◌++◌, length}
use Rattle.serde_json.specs.Data.{array}
use Rattle.serde_json.specs.Written.{compact_text, items_text}
use Rattle.script_lang.specs.TreeJson.{integers_data}
use Rattle.script_lang.proofs.tree_json.add_integers.Given as goal

abbrev pub invariant-loop-integer : goal.invariant-loop-integer
invariant-loop-integer l = l.text.items ++ items_text l.later (integers_data l.rest)
    ≡ l.fn.text.items ++ compact_text (array (integers_data l.integers))

abbrev pub decreases-loop-integer : goal.decreases-loop-integer
decreases-loop-integer l = length l.rest
