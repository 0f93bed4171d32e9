-- What a frame leaves.
use Rattle.std.proofs.Common.{Bor, ◌≡◌, ℕ, ◌-◌, ◌^◌, ◌++◌, ◌==◌, ◌<◌, ◌≤◌, ◌&&◌, List, [], ◌∷◌, length, refl, sym, ap, ◌∙◌, subst, Bool, true, false, not, Option, Some, None, Result, Ok, Err, OnOk, OnErr, nat_lt, min, cond, le-leb, append-nil, arith}
use Rattle.std.proofs.lemmas.Bool.{eqb-true, lt-leb}
use Rattle.std.specs.Option.{option_map, is_none}
use Rattle.rt_values.specs.Maps.{Map, differ, contains}
use Rattle.rt_values.specs.Views.{Grew}
use Rattle.rt_groups.specs.declared.report.Report.{Report}
use Rattle.rt_groups.specs.GroupForest.{GroupForest, End, Read, Group, asks, how_many, how_many_nodes}
use Rattle.rt_groups.specs.Frames.{LastFrame, numbered_forest, most_groups, reads, report, is_detached}
use Rattle.compose_model.specs.Composing.{forest}
use Rattle.compose_model.specs.Frame.{FrameResult, good_frame, frame, kept_after}
use Rattle.lang_ast.specs.declared.program.Program.{Program}
use Rattle.recompose_laws.specs.Numbering.{without_numbers}
use Rattle.recompose_laws.specs.Idle.{unchanged_report}
use Rattle.recompose_laws.proofs.Idles.{idle_frame, kept_is_numbered}
use Rattle.recompose_laws.proofs.Plain.{kept_trail_is_the_forest}
use Rattle.recompose_scopes.specs.Scopes.{AreScopesOf, own_reads}
use Rattle.composer.specs.OwedObjects.{OwedObjects}
use Rattle.composer.specs.FrameDrafts.{DraftGroups, HeldGroups, Holds, IsOwing, IsFrameDraft, root_of}
use Rattle.lang_ast.specs.Programs.{program_view, functions_of}
use Rattle.lang_checks.specs.CheckedProgram.{IsChecked}
use Rattle.rt_groups.specs.Nodes.{nodes}
use Rattle.rt_groups.specs.Nodes as tree
use Rattle.node_tree.specs.declared.ops.Op.{Op}
use Rattle.node_tree.specs.declared.ops.Op.TheVariants as op
use Rattle.node_tree.specs.NodeTrees.{CursorTree}
use Rattle.node_tree.specs.Calls.{AllMayCome, BecomesAfter, tree_after_calls}
use Rattle.node_tree.specs.Placing.{ops}
use Rattle.node_tree.specs.Premises.{CanFollow}
use Rattle.snap_api.specs.declared.data.Entry.{Entry}
use Rattle.recomposer.specs.declared.composition.Composition.{Composition}
use Rattle.recomposer.specs.declared.composition.FrameStop.{FrameStop}
use Rattle.recomposer.specs.AppliedFrames.{Mirrors, ops_of, kept_after_fault, Applies}
use Rattle.node_tree.specs.FrameOps.{frame_ops}
use Rattle.recomposer.specs.Compositions.{IsKept, Owes, IsAt, frame_reads, MakesFrame, MakesNoFrame, LogsNoFrame}
use Rattle.recomposer.proofs.Applied.{next_follows, still_from_one, detached_if_called, nothing_is_kept, anew_ops, usual_ops, applied, applied_nothing, frame_turns}
use Rattle.recomposer.proofs.Owings.{owes_nothing, owing, same_below}
use Rattle.recomposer.proofs.Reports.{owed_report, owed_reads}
use Rattle.recomposer.proofs.StateReads.{kept_below}

-- Node numbers do not change how many groups there are.

pub groups_counted : (t : GroupForest) → how_many (without_numbers t) ≡ how_many t
groups_counted End = refl
groups_counted (Read x rest) = groups_counted rest
groups_counted (Group site n what inside rest) =
    let e = groups_counted inside in
    let f = groups_counted rest in
    omega (arith, e, f)

pub nodes_counted : (t : GroupForest) → how_many_nodes (without_numbers t) ≡ how_many_nodes t
nodes_counted End = refl
nodes_counted (Read x rest) = nodes_counted rest
nodes_counted (Group site n what inside rest) =
    let e = nodes_counted inside in
    let f = nodes_counted rest in
    omega (arith, e, f)

module _ (p : Program) (k : LastFrame) (m : Map) where
  -- A forest with few enough groups gives a good frame.
  pub good_is : how_many (forest (functions_of p) (root_of p) m) ≤ most_groups
      → frame (functions_of p) k m ≡ Some (good_frame k m (forest (functions_of p) (root_of p) m))
  good_is few = ap (λ b. option_map (good_frame k m) (cond b (Some (forest (functions_of p) (root_of p) m)) None))
      (le-leb (how_many (forest (functions_of p) (root_of p) m)) most_groups few)

  -- A larger forest gives a refused frame.
  pub refused_is : most_groups < how_many (forest (functions_of p) (root_of p) m) → frame (functions_of p) k m ≡ None
  refused_is many = ap (λ b. option_map (good_frame k m) (cond b (Some (forest (functions_of p) (root_of p) m)) None))
      (lt-leb (how_many (forest (functions_of p) (root_of p) m)) most_groups many)

  -- The report of a good frame.
  pub told_good : (r : Report) (owed : OwedObjects)
      → r ≡ report owed.objects k.trail (forest (functions_of p) (root_of p) m)
      → how_many (forest (functions_of p) (root_of p) m) ≤ most_groups → IsChecked (program_view p)
      → Owes p k.seen k.trail (Some m) owed →
      Some r ≡ option_map (λ g. g.told) (frame (functions_of p) k m)
  told_good r owed is few checked owes =
      ap Some (is ∙ owed_report p k.seen k.trail m owed (forest (functions_of p) (root_of p) m) checked owes)
      ∙ sym (ap (option_map (λ (g : FrameResult). g.told)) (good_is few))

  abbrev pub new_trail : GroupForest
  new_trail = (numbered_forest k.trail [] [] k.next (forest (functions_of p) (root_of p) m)).0

  same_groups : how_many new_trail ≡ how_many (forest (functions_of p) (root_of p) m)
  same_groups = sym (groups_counted new_trail)
      ∙ ap how_many (kept_trail_is_the_forest k.trail k.next (functions_of p) (root_of p) m)

  same_nodes : how_many_nodes new_trail ≡ how_many_nodes (forest (functions_of p) (root_of p) m)
  same_nodes = sym (nodes_counted new_trail)
      ∙ ap how_many_nodes (kept_trail_is_the_forest k.trail k.next (functions_of p) (root_of p) m)

-- The composition after a good frame.
pub finished_at : (c c' : Composition) (k : LastFrame) (m : Map) (d : DraftGroups) → IsAt c k (Some m)
    → how_many (forest (functions_of c.program.now) (root_of c.program.now) m) ≤ most_groups →
    IsFrameDraft (functions_of c.program.now) (root_of c.program.now) c.owed k m d → c'.program ≡ c.program
    → c'.held.groups ≡ d.groups → c'.held.next ≡ d.next
    → AreScopesOf (own_reads c'.held.groups) c'.held.scopes → c'.groups ≡ d.report.groups
    → c'.nodes ≡ d.report.nodes →
    c'.owed ≡ record { all = false; objects = []; states = c.owed.states }
    → IsAt c' (kept_after k (frame (functions_of c.program.now) k m)) (Some m)
finished_at c c' k m d h few draft program held_groups held_next scopes groups nodes owed =
    let p = c.program.now in
    let new = forest (functions_of p) (root_of p) m in
    let left = (good_frame k m new).left in
    let same = ap (λ q. q.now) program in
    let kept : IsKept p m (good_frame k m new).left.trail =
    record {
      composed = kept_trail_is_the_forest k.trail k.next (functions_of p) (root_of p) m;
      few = few;
      numbered = kept_is_numbered k.trail new k.next;
    } in
    subst (λ (o : Option FrameResult). IsAt c' (kept_after k o) (Some m)) (sym (good_is p k m few)) (record {
      checked = subst (λ (q : Program). IsChecked (program_view q)) (sym same) h.checked;
      holds = (held_groups ∙ draft.groups, held_next ∙ draft.next, scopes);
      owes = subst (λ (q : Program). Owes q (Some m) left.trail (Some m) c'.owed) (sym same)
          (owes_nothing p m left.trail c'.owed (ap (λ (o : OwedObjects). o.all) owed)
          (ap (λ (o : OwedObjects). o.objects) owed) kept);
      numbers = (next_follows p k (Some m) m c.owed h.checked h.owes h.numbers).1;
      from_one = still_from_one p k (Some m) m c.owed h.checked h.owes h.from_one;
      states =
          ap (λ (o : OwedObjects). o.states) owed ∙ h.states ∙ ap (λ (q : Program). length q.states.items) (sym same);
      groups = groups ∙ ap (λ (r : Report). r.groups) draft.report ∙ sym (same_groups p k m);
      nodes = nodes ∙ ap (λ (r : Report). r.nodes) draft.report ∙ sym (same_nodes p k m);
    })

-- The composition after a frame whose applier failed.
pub detached_at : (c c' : Composition) (k : LastFrame) (m : Map) (d : DraftGroups) → IsAt c k (Some m)
    → how_many (forest (functions_of c.program.now) (root_of c.program.now) m) ≤ most_groups →
    IsFrameDraft (functions_of c.program.now) (root_of c.program.now) c.owed k m d → c'.program ≡ c.program
    → c'.held.groups ≡ [] → c'.held.next ≡ d.next → AreScopesOf (own_reads c'.held.groups) c'.held.scopes
    → c'.groups ≡ 0 → c'.nodes ≡ 0 →
    c'.owed ≡ record { all = true; objects = c.owed.objects; states = c.owed.states }
    → IsAt c' (kept_after_fault k (frame (functions_of c.program.now) k m)) (Some m)
detached_at c c' k m d h few draft program held_groups held_next scopes groups nodes owed =
    subst (λ (o : Option FrameResult). IsAt c' (kept_after_fault k o) (Some m)) (sym (good_is c.program.now k m few))
    (record {
      checked = subst (λ (q : Bor Program). IsChecked (program_view q.now)) (sym program) h.checked;
      holds = (held_groups, held_next ∙ draft.next, scopes);
      owes = (refl, ap (λ (o : OwedObjects). o.all) owed);
      numbers = λ x. (omega arith, λ above. refl);
      from_one = ((still_from_one c.program.now k (Some m) m c.owed h.checked h.owes h.from_one).0, refl);
      states = ap (λ (o : OwedObjects). o.states) owed ∙ h.states
          ∙ ap (λ (q : Bor Program). length q.now.states.items) (sym program);
      groups = groups;
      nodes = nodes;
    })

-- A composition with the same parts, except for the calls of its last frame.
pub same_at : (c c' : Composition) (k : LastFrame) (l : Option Map) → c'.program ≡ c.program → c'.held ≡ c.held
    → c'.owed ≡ c.owed → c'.groups ≡ c.groups → c'.nodes ≡ c.nodes → IsAt c k l → IsAt c' k l
same_at c c' k l program held owed groups nodes h = record {
  checked = subst (λ (q : Bor Program). IsChecked (program_view q.now)) (sym program) h.checked;
  holds = subst (λ (x : HeldGroups). Holds x k) (sym held) h.holds;
  owes = subst (λ (x : OwedObjects). Owes c'.program.now k.seen k.trail l x) (sym owed)
      (subst (λ (q : Bor Program). Owes q.now k.seen k.trail l c.owed) (sym program) h.owes);
  numbers = h.numbers;
  from_one = h.from_one;
  states = ap (λ (x : OwedObjects). x.states) owed ∙ h.states
      ∙ ap (λ (q : Bor Program). length q.now.states.items) (sym program);
  groups = groups ∙ h.groups;
  nodes = nodes ∙ h.nodes;
}

-- What a frame owes.
pub owing_at : (c : Composition) (k : LastFrame) (m : Map) → IsAt c k (Some m)
    → IsOwing (functions_of c.program.now) (root_of c.program.now) k.seen k.trail m c.owed
owing_at c k m h = owing c.program.now k.seen k.trail m c.owed h.checked h.owes

-- The report of a frame.
pub told_at : (c : Composition) (k : LastFrame) (m : Map) (d : DraftGroups) → IsAt c k (Some m)
    → how_many (forest (functions_of c.program.now) (root_of c.program.now) m) ≤ most_groups →
    IsFrameDraft (functions_of c.program.now) (root_of c.program.now) c.owed k m d
    → Some d.report ≡ option_map (λ g. g.told) (frame (functions_of c.program.now) k m)
told_at c k m d h few draft = told_good c.program.now k m d.report c.owed draft.report few h.checked h.owes

-- The reads of a frame.
pub reads_at : (c : Composition) (k : LastFrame) (m : Map) → IsAt c k (Some m)
    → reads c.owed.objects k.trail (forest (functions_of c.program.now) (root_of c.program.now) m)
    ≡ frame_reads c.program.now k m
reads_at c k m h = owed_reads c.program.now k.seen k.trail m c.owed
    (forest (functions_of c.program.now) (root_of c.program.now) m) h.checked h.owes

-- A frame that owes nothing.

pub all_of : (a b : Bool) → (not a && b) ≡ true → a ≡ false
all_of true b e = absurd cc
all_of false b e = refl

empty : (xs : List ℕ) → length xs ≡ 0 → xs ≡ []
empty [] e = refl
empty (x ∷ xs) e = absurd (omega (arith, e))

pub none_of : (a : Bool) (xs : List ℕ) → (not a && (length xs == 0)) ≡ true → xs ≡ []
none_of true xs e = absurd cc
none_of false xs e = empty xs (eqb-true (length xs) 0 e)

no_reads : (xs : List ℕ) → min (length xs) (2 ^ 64 - 1) ≡ 0 → xs ≡ []
no_reads [] e = refl
no_reads (x ∷ xs) e = absurd (omega (arith, e))

-- A frame that owes nothing keeps everything, and reads nothing.
record IsIdle (p : Program) (k : LastFrame) (m : Map) : Type 0 where
  is : frame (functions_of p) k m
      ≡ Some (record {
        left = record { seen = Some m; trail = k.trail; next = k.next };
        told = unchanged_report k.trail;
      })
  kept : IsKept p m k.trail
  reads_none : frame_reads p k m ≡ []

idle_from : (p : Program) (seen : Option Map) (trail : GroupForest) (next : ℕ) (m : Map) (owed : OwedObjects)
    → owed.all ≡ false → owed.objects ≡ [] → IsChecked (program_view p) → Owes p seen trail (Some m) owed
    → IsIdle p (record { seen = seen; trail = trail; next = next }) m
idle_from p None trail next m owed all none checked h = absurd (let e : true ≡ false = sym h.1 ∙ all in cc)
idle_from p (Some seen) trail next m owed all none checked h =
    let functions = functions_of p in
    let root = root_of p in
    let new = forest functions root m in
    let k : LastFrame = record { seen = Some seen; trail = trail; next = next } in
    let same : (x : ℕ) → x < length p.states.items → contains x [] ≡ contains x (differ (Some seen) m) =
    λ x low. ap (λ l. contains x l) (sym none) ∙ h.2 x low in
    let still = idle_frame seen m functions root trail next h.3.composed h.3.numbered
    (same_below (length p.states.items) seen m [] h.1 same (asks trail)
    (kept_below p seen trail checked h.3.composed)) in
    let composed : without_numbers trail ≡ new = ap (λ (q : GroupForest × ℕ). without_numbers q.0) (sym still.0)
    ∙ kept_trail_is_the_forest trail next functions root m in
    let few : how_many new ≤ most_groups =
    subst (λ t. how_many t ≤ most_groups) (sym h.3.composed ∙ composed) h.3.few in
    let told : report (differ (Some seen) m) trail new ≡ unchanged_report trail =
    sym (owed_report p (Some seen) trail m owed new checked h) ∙ ap (λ l. report l trail new) none ∙ still.1 in
    record {
      is = good_is p k m few
          ∙ ap (λ (q : GroupForest × ℕ). Some (good (record { seen = Some m; trail = q.0; next = q.1 })
          (report (differ (Some seen) m) trail new))) still.0
          ∙ ap (λ r. Some (good (record { seen = Some m; trail = trail; next = next }) r)) told;
      kept = record { composed = composed; few = few; numbered = h.3.numbered };
      reads_none = no_reads (reads (differ (Some seen) m) trail new) (ap (λ (r : Report). r.reads) told);
    }
  where
    good : LastFrame → Report → FrameResult
    good left told = record { left = left; told = told }

module _ (c : Composition) (k : LastFrame) (m : Map) (h : IsAt c k (Some m)) (all : c.owed.all ≡ false)
    (none : c.owed.objects ≡ []) where
  idle : IsIdle c.program.now k m
  idle = idle_from c.program.now k.seen k.trail k.next m c.owed all none h.checked h.owes

  -- The composition after a frame that owes nothing.
  pub idle_at : IsAt c (kept_after k (frame (functions_of c.program.now) k m)) (Some m)
  idle_at = subst (λ (o : Option FrameResult). IsAt c (kept_after k o) (Some m)) (sym idle.is) (record {
    checked = h.checked;
    holds = h.holds;
    owes = owes_nothing c.program.now m k.trail c.owed all none idle.kept;
    numbers = h.numbers;
    from_one = h.from_one;
    states = h.states;
    groups = h.groups;
    nodes = h.nodes;
  })

  -- The report of a frame that owes nothing.
  pub idle_told : (r : Report) → r ≡ record { ran = 0; calculated = 0; reads = 0; groups = c.groups; nodes = c.nodes }
      → Some r ≡ option_map (λ g. g.told) (frame (functions_of c.program.now) k m)
  idle_told r is =
      ap Some (is ∙ ap (λ n. idle_report n c.nodes) h.groups ∙ ap (λ n. idle_report (how_many k.trail) n) h.nodes)
      ∙ sym (ap (option_map (λ (g : FrameResult). g.told)) idle.is)
    where
      idle_report : ℕ → ℕ → Report
      idle_report groups nodes = record { ran = 0; calculated = 0; reads = 0; groups = groups; nodes = nodes }

  -- A frame that owes nothing reads nothing.
  pub idle_reads : frame_reads c.program.now k m ≡ []
  idle_reads = idle.reads_none

  pub idle_asks : (asked asked' : List ℕ) → asked' ≡ asked → asked' ≡ asked ++ frame_reads c.program.now k m
  idle_asks asked asked' same = same ∙ sym (append-nil asked) ∙ ap (λ l. asked ++ l) (sym idle_reads)

-- A first part of the reads.
pub part_at : (c : Composition) (k : LastFrame) (m : Map) (asked asked' last : List ℕ) → IsAt c k (Some m)
    → last ≡ asked' → Grew asked asked'
    (reads c.owed.objects k.trail (forest (functions_of c.program.now) (root_of c.program.now) m))
    → Grew asked last (frame_reads c.program.now k m)
part_at c k m asked asked' last h same grew = subst (λ l. Grew asked l (frame_reads c.program.now k m)) (sym same)
    (subst (λ l. Grew asked asked' l) (reads_at c k m h) grew)

-- A first part of the reads, with any result.
pub grew_in_all : {X E : Type 0} (r : Result X E) (asked asked' last all : List ℕ) → last ≡ asked'
    → OnOk r (asked' ≡ asked ++ all) → OnErr r (Grew asked asked' all) → Grew asked last all
grew_in_all (Ok d) asked asked' last all same whole part = record { rest = []; is = append-nil last ∙ same ∙ whole }
grew_in_all (Err e) asked asked' last all same whole part = subst (λ l. Grew asked l all) (sym same) part

-- A frame that was made of the same program.
pub made_frame : (p p' : Program) (k : LastFrame) (at_frame : LastFrame → Option Map → Type 0)
    (last : Option Map → Type 0) (does : List ℕ → Type 0) (applies : Option FrameResult → Type 0) (told : Report)
    → p' ≡ p → MakesFrame p' k at_frame last does applies told → MakesFrame p k at_frame last does applies told
made_frame p p' k at_frame last does applies told same made =
    subst (λ (q : Program). MakesFrame q k at_frame last does applies told) same made

-- A frame of the same program that was not made.
pub made_no_frame : (p p' : Program) (k : LastFrame) (at_frame : LastFrame → Option Map → Type 0)
    (last : Option Map → Type 0) (does : List ℕ → Type 0) (old new : Option (List Entry)) (caller watcher : ℕ)
    (stop : FrameStop) → p' ≡ p →
    MakesNoFrame p' k at_frame last does (LogsNoFrame p' k old new caller watcher) stop
    → MakesNoFrame p k at_frame last does (LogsNoFrame p k old new caller watcher) stop
made_no_frame p p' k at_frame last does old new caller watcher stop same made =
    subst (λ (q : Program). MakesNoFrame q k at_frame last does (LogsNoFrame q k old new caller watcher) stop) same
    made

-- The calls of a frame.

-- The new tree can follow the kept one.
pub tree_follows : (c : Composition) (k : LastFrame) (m : Map) → IsAt c k (Some m)
    → CanFollow (nodes k.trail) (nodes (new_trail c.program.now k m))
tree_follows c k m h = (next_follows c.program.now k (Some m) m c.owed h.checked h.owes h.numbers).0

pub none_kept : (c : Composition) (k : LastFrame) (l : Option Map) → IsAt c k l → is_detached k ≡ true → k.trail ≡ End
none_kept c k l h e = nothing_is_kept c.program.now k l c.owed h.owes e

-- A composed frame has a result.
pub has_result : (c : Composition) (k : LastFrame) (m : Map) (d : DraftGroups)
    → how_many (forest (functions_of c.program.now) (root_of c.program.now) m) ≤ most_groups
    → frame (functions_of c.program.now) k m ≡ None → ⊥
has_result c k m d few none = let both = sym none ∙ good_is c.program.now k m few in cc

pub no_calls : (calls : List Op) → length calls ≡ 0 → calls ≡ []
no_calls [] none = refl
no_calls (call ∷ calls) none = absurd (omega (arith, none))

-- The calls of a composed frame, from the lists of nodes.
module _ (c : Composition) (k : LastFrame) (m : Map) (d : DraftGroups) (h : IsAt c k (Some m))
    (few : how_many (forest (functions_of c.program.now) (root_of c.program.now) m) ≤ most_groups) where
  pub calls_are : frame_ops k (new_trail c.program.now k m) ≡ ops_of k (frame (functions_of c.program.now) k m)
  calls_are = ap (λ (o : Option FrameResult). ops_of k o) (sym (good_is c.program.now k m few))

  pub calls_anew : is_detached k ≡ true
      → op.Clear ∷ ops tree.None (nodes (new_trail c.program.now k m))
      ≡ ops_of k (frame (functions_of c.program.now) k m)
  calls_anew e = anew_ops k (new_trail c.program.now k m) e (none_kept c k (Some m) h e) ∙ calls_are

  pub calls_usual : is_detached k ≡ false
      → ops (nodes k.trail) (nodes (new_trail c.program.now k m)) ≡ ops_of k (frame (functions_of c.program.now) k m)
  calls_usual e = usual_ops k (new_trail c.program.now k m) e ∙ calls_are

  -- If there are calls, the composition is detached after a fault.
  pub detached_after : (calls : List Op) → calls ≡ ops_of k (frame (functions_of c.program.now) k m)
      → (length calls ≡ 0 → ⊥) → is_detached (kept_after_fault k (frame (functions_of c.program.now) k m)) ≡ true
  detached_after calls is some =
      ap (λ (o : Option FrameResult). is_detached (kept_after_fault k o)) (good_is c.program.now k m few)
      ∙ detached_if_called c.program.now k (Some m) m c.owed h.checked h.owes h.numbers h.from_one
      (λ none. some (ap (λ (l : List Op). length l) (is ∙ sym calls_are ∙ none)))

  -- The calls may be made.
  pub calls_may : (calls : List Op) (t : CursorTree) → calls ≡ ops_of k (frame (functions_of c.program.now) k m)
      → Mirrors (Some t) k → AllMayCome t calls
  calls_may calls t is mirrors =
      subst (λ (l : List Op). AllMayCome t l) (sym (is ∙ sym calls_are))
      (frame_turns k (new_trail c.program.now k m) t (tree_follows c k m h) (none_kept c k (Some m) h) mirrors).1

  -- The calls were made.
  pub frame_applies : (before mid now : Option CursorTree) (made calls : List Op) → mid ≡ before
      → BecomesAfter mid now calls → calls ≡ made → made ≡ ops_of k (frame (functions_of c.program.now) k m) →
      Applies before now made k (frame (functions_of c.program.now) k m)
  frame_applies before mid now made calls same becomes is made_is =
      subst (λ (o : Option FrameResult). Applies before now made k o) (sym (good_is c.program.now k m few))
      (applied before mid now made calls k
      (good_frame k m (forest (functions_of c.program.now) (root_of c.program.now) m)) same becomes is
      (made_is ∙ sym calls_are) (tree_follows c k m h) (none_kept c k (Some m) h))

  -- No call was to make.
  pub none_applies : (tree : Option CursorTree) (made calls : List Op) → made ≡ calls → length calls ≡ 0
      → calls ≡ ops_of k (frame (functions_of c.program.now) k m)
      → Applies tree tree made k (frame (functions_of c.program.now) k m)
  none_applies tree made calls is none calls_are_these =
      frame_applies tree tree tree made calls refl (stays tree (no_calls calls none)) (sym is) (is ∙ calls_are_these)
    where
      stays : (t : Option CursorTree) → calls ≡ [] → BecomesAfter t t calls
      stays None e = refl
      stays (Some t) e = ap (λ (l : List Op). Some (tree_after_calls t l)) (sym e)

-- A frame that owes nothing makes no calls.
pub idle_applies : (c : Composition) (k : LastFrame) (m : Map) → IsAt c k (Some m) → c.owed.all ≡ false
    → c.owed.objects ≡ [] → (now : Option CursorTree) → Applies now now [] k (frame (functions_of c.program.now) k m)
idle_applies c k m h all none now =
    subst (λ (o : Option FrameResult). Applies now now [] k o) (sym (idle c k m h all none).is)
    (applied_nothing now k (record {
      left = record { seen = Some m; trail = k.trail; next = k.next };
      told = unchanged_report k.trail;
    }) h.numbers (attached k.seen h.owes) refl)
  where
    attached : (seen : Option Map) → Owes c.program.now seen k.trail (Some m) c.owed
        → (is_none seen && nat_lt 1 k.next) ≡ false
    attached None o = absurd (let e : true ≡ false = sym o.1 ∙ all in cc)
    attached (Some s) o = refl
