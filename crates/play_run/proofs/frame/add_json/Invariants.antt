use Rattle.std.proofs.Common.{◌≡◌, ◌++◌, ◌-◌, codes, length, drop}
use Rattle.script_lang.specs.GroupJson.{groups_json}
use Rattle.play_run.specs.RunOutput.{json_line}
use Rattle.play_run.proofs.frame.add_json.Given as goal

abbrev pub invariant-loop-i : goal.invariant-loop-i
invariant-loop-i l = l.text.items ++ (groups_json l.writer (drop l.i l.table.groups) ++ codes "]\n") ≡ l.fn.text.items ++ json_line l.table.groups

abbrev pub decreases-loop-i : goal.decreases-loop-i
decreases-loop-i l = length l.table.groups - l.i
