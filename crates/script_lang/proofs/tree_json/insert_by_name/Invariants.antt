use Rattle.std.proofs.Common.{◌≡◌, take, drop}
use Rattle.serde_json.specs.Data.{put}
use Rattle.script_lang.specs.TreeJson.{value_data}
use Rattle.script_lang.specs.SortedAttributes.{members_then, sorted_members}
use Rattle.script_lang.proofs.tree_json.insert_by_name.Given as goal

abbrev pub invariant-loop-index : goal.invariant-loop-index
invariant-loop-index l = record {
  same : l.sorted ≡ l.fn.sorted;
  placed : members_then (take l.index l.sorted.items)
      (put l.attribute.name (value_data l.attribute.value) (sorted_members (drop l.index l.sorted.items)))
      ≡ put l.attribute.name (value_data l.attribute.value) (sorted_members l.fn.sorted.items);
}
