-- Internal: what the parts of steps print and leave.
use Rattle.std.specs.Prelude.{ℕ, List, [], ◌∷◌, ◌++◌, codes, if◌then◌else◌, Option, Some, None}
use Rattle.std.specs.List.{flat_map}
use Rattle.lang_ast.specs.declared.program.State.{State}
use Rattle.lang_ast.specs.Terms.{Func}
use Rattle.node_tree.specs.declared.ops.Op.{Op}
use Rattle.snap_policy.specs.Table.{table}
use Rattle.snap_api.specs.declared.data.Request.{Request}
use Rattle.snap_api.specs.declared.data.Entry.{Entry}
use Rattle.snap_api.specs.World.{History, call}
use Rattle.lang_script.specs.StepCalls.{ActorPart, Notes, no_notes, request_of, notes_after, entry}
use Rattle.rt_groups.specs.declared.groups.Group.{Group}
use Rattle.script_lang.specs.declared.flags.Flags.{Flags}
use Rattle.script_lang.specs.GroupLines.{group_lines}
use Rattle.script_lang.specs.GroupJson.{groups_json, initial_json}
use Rattle.script_lang.specs.Lines.{LineStyle, Standing, initial_standing, lines_at, next, op_line}

-- The state of a run between two parts: what its lines depend on, what its calls depend on, and the calls so far that
-- are printed. `first` is the state of the walk before the first part, and `log` the log of the world then.
pub record Run : Type 0 where
  pub standing : Standing
  pub notes : Notes
  pub made : History
  pub first : Standing
  pub log : Option (List Entry)

-- The state before the first part, with the world's log.
abbrev pub first_run : List State → Option (List Entry) → Run
first_run states log =
    record {
      standing = initial_standing states;
      notes = no_notes;
      made = [];
      first = initial_standing states;
      log = log;
    }

module _ (style : LineStyle) (functions : List Func) where
  -- The lines of the call that an actor makes, if it makes one.
  abbrev pub request_lines : Run → ℕ → Option Request → List (List ℕ)
  request_lines r actor None = []
  request_lines r actor (Some q) = lines_at style functions r.standing (entry r.standing.world actor q)

  -- The lines of a part.
  abbrev pub part_lines : Run → ActorPart → List (List ℕ)
  part_lines r p = request_lines r p.actor (request_of r.notes p.part)

module _ (functions : List Func) where
  -- The state after that call.
  abbrev pub run_after_request : Run → ActorPart → Option Request → Run
  run_after_request r p None = r
  run_after_request r p (Some q) = record {
    standing = next functions r.standing (entry r.standing.world p.actor q);
    notes = notes_after r.notes p.part (call table r.standing.world p.actor q).1;
    made = r.made ++ entry r.standing.world p.actor q ∷ [];
    first = r.first;
    log = r.log;
  }

  -- The state after a part.
  abbrev pub part_after : Run → ActorPart → Run
  part_after r p = run_after_request r p (request_of r.notes p.part)

  -- The state after parts.
  abbrev pub parts_after : Run → List ActorPart → Run
  parts_after r [] = r
  parts_after r (p ∷ ps) = parts_after (part_after r p) ps

-- The lines of parts, one after the other.
abbrev pub parts_lines : LineStyle → List Func → Run → List ActorPart → List (List ℕ)
parts_lines style functions r [] = []
parts_lines style functions r (p ∷ ps) =
    part_lines style functions r p ++ parts_lines style functions (part_after functions r p) ps

-- The lines of calls on an applier, with `--ops`.
abbrev pub shown_ops : Flags → List Op → List ℕ
shown_ops flags calls = if flags.ops then flat_map op_line calls else []

-- The line of a tree as JSON, from its groups in preorder.
abbrev pub json_line : List Group → List ℕ
json_line groups = 91 ∷ groups_json initial_json groups ++ codes "]\n"

-- The lines of a tree, from its groups in preorder.
abbrev pub shown_groups : Flags → List Group → List ℕ
shown_groups flags groups = if flags.json then json_line groups else group_lines [] groups
