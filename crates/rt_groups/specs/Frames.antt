-- Trusted: what a frame counts as run, calculated and read, and the numbers of its nodes, from the forest of the last
-- good frame and the new one.
use Rattle.std.specs.Prelude.{ℕ, ◌+◌, ◌-◌, ◌^◌, min, List, [], ◌∷◌, ◌++◌, map, length, Bool, true, false, not, ◌&&◌, ◌||◌, ◌==◌, nat_lt, Option, Some, None, if◌then◌else◌}
use Rattle.std.specs.List.{filter, list_any}
use Rattle.std.specs.Option.{is_none}
use Rattle.rt_values.specs.declared.value.Value.{Value}
use Rattle.rt_groups.specs.declared.report.Report.{Report}
use Rattle.rt_values.specs.Values.{same_values}
use Rattle.rt_values.specs.Maps.{Map, contains}
use Rattle.rt_groups.specs.GroupForest.{GroupForest, End, Read, Group, GroupKind, Call, Node, Key, Cell, is_call, is_node, asks, own_part, how_many, how_many_nodes}
use Rattle.rt_groups.specs.Paths.{Path, GroupKey, sibling, step, Found, at_path}

-- The number of a node, and the next unused number: the number at its path in the old forest, or the next unused
-- number if the path is new.
abbrev pub number_for : Option Found → ℕ → ℕ × ℕ
number_for (Some old) next = (old.number, next)
number_for None next = (next, next + 1)

abbrev pub given_number : GroupKind → Option Found → ℕ → ℕ × ℕ
given_number what old next = if is_node what then number_for old next else (0, next)

-- The new forest with its nodes' numbers, and the next unused number.
abbrev pub numbered_forest : GroupForest → Path → List GroupKey → ℕ → GroupForest → GroupForest × ℕ
numbered_forest old here seen next End = (End, next)
numbered_forest old here seen next (Read x rest) =
    let more = numbered_forest old here seen next rest in (Read x more.0, more.1)
numbered_forest old here seen next (Group site number what inside rest) =
    let path = here ++ step site what seen ∷ [] in
    let own_number = given_number what (at_path path old) next in
    let within = numbered_forest old path [] own_number.1 inside in
    let more = numbered_forest old here (sibling site what ∷ seen) within.1 rest in
    (Group site own_number.0 what within.0 more.0, more.1)

-- A call with its path.
pub record CallAtPath : Type 0 where
  pub path : Path
  pub what : GroupKind

-- The caller of the root, which is no call.
abbrev pub nobody : CallAtPath
nobody = record { path = []; what = Call 0 [] }

abbrev pub innermost_call : CallAtPath → Path → GroupKind → CallAtPath
innermost_call caller path what = if is_call what then record { path = path; what = what } else caller

-- The calls of a forest in preorder.
abbrev pub calls : Path → List GroupKey → GroupForest → List CallAtPath
calls here seen End = []
calls here seen (Read x rest) = calls here seen rest
calls here seen (Group site number what inside rest) =
    let path = here ++ step site what seen ∷ [] in
    (if is_call what then record { path = path; what = what } ∷ [] else [])
    ++ (calls path [] inside ++ calls here (sibling site what ∷ seen) rest)

-- The reads of a forest in order, each with the innermost call that contains it.
abbrev pub trace : CallAtPath → Path → List GroupKey → GroupForest → List (CallAtPath × ℕ)
trace caller here seen End = []
trace caller here seen (Read x rest) = (caller, x) ∷ trace caller here seen rest
trace caller here seen (Group site number what inside rest) =
    let path = here ++ step site what seen ∷ [] in
    trace (innermost_call caller path what) path [] inside ++ trace caller here (sibling site what ∷ seen) rest

-- A cell with the innermost call that contains it, its path and its keys.
pub record CellAtPath : Type 0 where
  pub caller : CallAtPath
  pub path : Path
  pub keys : List Value

abbrev pub cell_in_group : CallAtPath → Path → GroupKind → List CellAtPath
cell_in_group caller path (Call f vs) = []
cell_in_group caller path (Node k as_) = []
cell_in_group caller path (Key v) = []
cell_in_group caller path (Cell ks v) = record { caller = caller; path = path; keys = ks } ∷ []

-- The cells of a forest in preorder.
abbrev pub cells : CallAtPath → Path → List GroupKey → GroupForest → List CellAtPath
cells caller here seen End = []
cells caller here seen (Read x rest) = cells caller here seen rest
cells caller here seen (Group site number what inside rest) =
    let path = here ++ step site what seen ∷ [] in
    cell_in_group caller path what
    ++ (cells (innermost_call caller path what) path [] inside ++ cells caller here (sibling site what ∷ seen) rest)

abbrev pub meets : List ℕ → List ℕ → Bool
meets xs ys = list_any (λ x. contains x ys) xs

abbrev pub same_call : GroupKind → GroupKind → Bool
same_call (Call f vs) (Call g ws) = (f == g) && same_values vs ws
same_call _ _ = false

-- Whether a call counts as run: its path is new, or the old call has other arguments, or the old own reads contain an
-- owed object.
abbrev pub runs_after : List ℕ → Option Found → GroupKind → Bool
runs_after owed None what = true
runs_after owed (Some old) what = not (same_call old.what what) || meets (asks (own_part old.inside)) owed

abbrev pub call_runs : List ℕ → GroupForest → CallAtPath → Bool
call_runs owed old caller = runs_after owed (at_path caller.path old) caller.what

abbrev pub has_keys : List Value → GroupKind → Bool
has_keys ks (Cell js v) = same_values js ks
has_keys ks _ = false

abbrev pub other_keys : Option Found → List Value → Bool
other_keys None ks = true
other_keys (Some old) ks = not (has_keys ks old.what)

-- Whether a cell counts as calculated: its call runs, and its path is new or the old cell has other keys.
abbrev pub is_calculated : List ℕ → GroupForest → CellAtPath → Bool
is_calculated owed old cell = call_runs owed old cell.caller && other_keys (at_path cell.path old) cell.keys

-- The calls that run.
abbrev pub ran : List ℕ → GroupForest → GroupForest → List CallAtPath
ran owed old new = filter (call_runs owed old) (calls [] [] new)

-- The cells that are calculated.
abbrev pub calculated_cells : List ℕ → GroupForest → GroupForest → List CellAtPath
calculated_cells owed old new = filter (is_calculated owed old) (cells nobody [] [] new)

-- The objects that the running calls read, in order, repeats included.
abbrev pub reads : List ℕ → GroupForest → GroupForest → List ℕ
reads owed old new = map (λ r. r.1) (filter (λ r. call_runs owed old r.0) (trace nobody [] [] new))

-- The report of a frame.
abbrev pub report : List ℕ → GroupForest → GroupForest → Report
report owed old new = record {
  ran = length (ran owed old new);
  calculated = length (calculated_cells owed old new);
  reads = min (length (reads owed old new)) (2 ^ 64 - 1);
  groups = how_many new;
  nodes = how_many_nodes new;
}

-- The state between frames: the map of the last good frame (`None` before the first), its forest with the nodes'
-- numbers, and the next unused number.
pub record LastFrame : Type 0 where
  pub seen : Option Map
  pub trail : GroupForest
  pub next : ℕ

abbrev pub no_last_frame : LastFrame
no_last_frame = record { seen = None; trail = End; next = 1 }

-- A composition is detached after an applier failed: it keeps nothing, but nodes had numbers.
abbrev pub is_detached : LastFrame → Bool
is_detached k = is_none k.seen && nat_lt 1 k.next

-- The maximum number of groups of a composition.
abbrev pub most_groups : ℕ
most_groups = 1000000
