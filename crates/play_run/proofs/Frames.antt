-- The lines of a frame, and what it leaves.
use Rattle.std.proofs.Common.{◌≡◌, List, [], ◌∷◌, ◌++◌, map, Bool, true, false, if◌then◌else◌, Option, Some, None, refl, sym, ap, ◌∙◌, append_assoc, append-nil}
use Rattle.std.specs.List.{flat_map}
use Rattle.std.proofs.lemmas.Grind.{flat_map-append}
use Rattle.std.specs.Option.{option_map, unwrap_or}
use Rattle.node_tree.specs.declared.ops.Op.{Op}
use Rattle.rt_groups.specs.declared.report.Report.{Report}
use Rattle.rt_groups.specs.Frames.{LastFrame}
use Rattle.rt_groups.specs.GroupForest.{GroupForest}
use Rattle.rt_groups.specs.Nodes.{nodes}
use Rattle.rt_groups.specs.PreorderGroups as groups
use Rattle.compose_model.specs.Frame.{FrameResult, kept_after}
use Rattle.script_lang.specs.declared.flags.Flags.{Flags}
use Rattle.script_lang.specs.Lines.{line, report_line, tree_lines, op_line, ops_lines, shown_tree, frame_lines}
use Rattle.node_tree.specs.FrameOps.{frame_ops}
use Rattle.script_lang.specs.TreeJson.{tree_json}
use Rattle.script_lang.specs.GroupLines.{group_lines}
use Rattle.script_lang.specs.GroupJson.{groups_json, initial_json}
use Rattle.script_lang.proofs.Trees.{groups_tell_the_tree}
use Rattle.script_lang.proofs.Jsons.{groups_tell_the_json}
use Rattle.play_run.specs.RunOutput.{shown_ops, json_line, shown_groups}
use Rattle.play_run.specs.RunState.{MadeCalls, flat}

-- The lines of a tree are those of its groups.
shown : (flags : Flags) (t : GroupForest) → shown_groups flags (groups.preorder 0 t) ≡ flat (shown_tree flags (nodes t))
shown flags t = by flags.json
  where
    by : (b : Bool) → (if b then json_line (groups.preorder 0 t) else group_lines [] (groups.preorder 0 t))
        ≡ flat (if b then line (tree_json (nodes t)) ∷ [] else tree_lines 0 (nodes t))
    by true =
        sym (append_assoc (91 ∷ groups_json initial_json (groups.preorder 0 t)) (93 ∷ []) (10 ∷ []))
        ∙ ap line (groups_tell_the_json t) ∙ sym (append-nil (line (tree_json (nodes t))))
    by false = groups_tell_the_tree t

-- The lines of calls on an applier.
shown_calls : (flags : Flags) (k : LastFrame) (trail : GroupForest) (calls : List Op)
    → (flags.ops ≡ true → calls ≡ frame_ops k trail) → shown_ops flags calls ≡ flat (ops_lines flags k trail)
shown_calls flags k trail calls made = by flags.ops made
  where
    mapped : (xs : List Op) → flat_map op_line xs ≡ flat (map op_line xs)
    mapped [] = refl
    mapped (x ∷ xs) = ap (λ l. op_line x ++ l) (mapped xs)

    by : (b : Bool) → (b ≡ true → calls ≡ frame_ops k trail)
        → (if b then flat_map op_line calls else []) ≡ flat (if b then map op_line (frame_ops k trail) else [])
    by true is = ap (flat_map op_line) (is refl) ∙ mapped (frame_ops k trail)
    by false is = refl

-- The lines of a good frame are those of its report, of its calls on an applier and of its groups.
pub good_lines : (flags : Flags) (good : Option FrameResult) (k : LastFrame) (r : Report) (calls : List Op)
    → Some r ≡ option_map (λ g. g.told) good → MadeCalls flags k good calls →
    report_line r ++ (shown_ops flags calls ++ shown_groups flags (groups.preorder 0 (kept_after k good).trail))
    ≡ flat (frame_lines flags k good)
good_lines flags None k r calls e made = absurd cc
good_lines flags (Some good) k r calls e made =
    let trail = good.left.trail in
    ap (λ t. report_line t ++ (shown_ops flags calls ++ shown_groups flags (groups.preorder 0 trail)))
    (ap (λ o. unwrap_or o r) e)
    ∙ ap (λ l. report_line good.told ++ (l ++ shown_groups flags (groups.preorder 0 trail)))
    (shown_calls flags k trail calls made)
    ∙ ap (λ l. report_line good.told ++ (flat (ops_lines flags k trail) ++ l)) (shown flags trail)
    ∙ ap (λ l. report_line good.told ++ l)
    (sym (flat_map-append (λ l. l) (ops_lines flags k trail) (shown_tree flags (nodes trail))))
