use Rattle.std.proofs.Common.{◌≡◌, ◌≤◌, ◌+◌, ◌-◌, ◌*◌, drop, length, List, ℕ}
use Rattle.rt_groups.specs.Frames.{most_groups}
use Rattle.rt_groups.specs.GroupForest.{GroupForest}
use Rattle.rt_values.specs.Maps.{Map}
use Rattle.lang_ast.specs.SyntaxView.{stmt_view, stmts_view, functions_view}
use Rattle.compose_model.specs.StatementForests.{body_forest, loop_forest}
use Rattle.compose_model.proofs.Sizes.{stmt_size, body_size, weight}
use Rattle.recompose_laws.specs.CalculatedCells.{StmtsCalculate}
use Rattle.composer.specs.BesideContracts.{LastComposition, IsSince, OldSiblings, IsOldPart}
use Rattle.composer.specs.OldGroups.{Begins}
use Rattle.composer.specs.WrittenGroups.{state_of}
use Rattle.composer.specs.Recomposes.{BesideProgress, IsBeside, StaysIn, StaysInHand, FitsIn}
use Rattle.composer.proofs.SkipLoops.{GroupsLeft}
use Rattle.composer.proofs.composing.+again.Given as goal

abbrev pub invariant-run_all-loop-statement : goal.invariant-run_all-loop-statement
invariant-run_all-loop-statement g l = record {
  keeps : g.V.View.keeps l.initial.view l.view;
  same : (m : Map) → g.V.View.shows l.initial.view m → g.V.View.shows l.view m;
  same_scope : l.made.scope ≡ l.initial.made.scope;
  longer : length l.initial.made.writer.groups ≤ length l.made.writer.groups;
  fits : StaysIn l.level l.made;
  counted : (m : Map) → g.V.View.shows l.initial.view m
      → l.made.writer.reads + length l.made.reads + length (g.V.View.asked l.initial.view)
      ≡ l.initial.made.writer.reads + length l.initial.made.reads + length (g.V.View.asked l.view);
  going : (m : Map) (o : OldSiblings) → g.V.View.shows l.initial.view m
      → IsBeside o l.level.last.now.owed.objects m (functions_view l.level.functions.now) l.level.depth
      l.initial.made.pending → StmtsCalculate o.last.calculation (stmts_view l.body) →
      BesideProgress l.level.last.now.owed.objects o.old l.level.depth o.seen
      (body_forest m l.level.functions.now (stmts_view (drop l.statement-index l.body)) l.initial.made.scope)
      (body_forest m l.level.functions.now (stmts_view l.body) l.initial.made.scope)
      (state_of l.initial.made.writer (g.V.View.asked l.initial.view) l.initial.made.reads)
      (state_of l.made.writer (g.V.View.asked l.view) l.made.reads) l.made.pending;
}

abbrev pub invariant-run_turns-loop-item : goal.invariant-run_turns-loop-item
invariant-run_turns-loop-item g l = record {
  keeps : g.V.View.keeps l.initial.view l.view;
  same : (m : Map) → g.V.View.shows l.initial.view m → g.V.View.shows l.view m;
  same_scope : l.made.scope ≡ l.initial.made.scope;
  longer : length l.initial.made.writer.groups ≤ length l.made.writer.groups;
  fits : StaysIn l.level l.made;
  counted : (m : Map) → g.V.View.shows l.initial.view m
      → l.made.writer.reads + length l.made.reads + length (g.V.View.asked l.initial.view)
      ≡ l.initial.made.writer.reads + length l.initial.made.reads + length (g.V.View.asked l.view);
  going : (m : Map) (o : OldSiblings) → g.V.View.shows l.initial.view m
      → IsBeside o l.level.last.now.owed.objects m (functions_view l.level.functions.now) l.level.depth
      l.initial.made.pending → StmtsCalculate o.last.calculation (stmts_view l.body) →
      BesideProgress l.level.last.now.owed.objects o.old l.level.depth o.seen
      (loop_forest m l.level.functions.now l.name.text (stmts_view l.body) l.initial.made.scope
      (drop l.item-index l.items))
      (loop_forest m l.level.functions.now l.name.text (stmts_view l.body) l.initial.made.scope l.items)
      (state_of l.initial.made.writer (g.V.View.asked l.initial.view) l.initial.made.reads)
      (state_of l.made.writer (g.V.View.asked l.view) l.made.reads) l.made.pending;
}

abbrev pub invariant-skip_all-loop-at : goal.invariant-skip_all-loop-at
invariant-skip_all-loop-at g l = record {
  keeps : g.V.View.keeps l.initial.view l.view;
  same : (m : Map) → g.V.View.shows l.initial.view m → g.V.View.shows l.view m;
  in_hand : StaysInHand l.initial.made l.made;
  longer : length l.initial.made.writer.groups ≤ length l.made.writer.groups;
  fits : FitsIn l.level.last.now.groups l.made.writer;
  counted : (m : Map) → g.V.View.shows l.initial.view m
      → l.made.writer.reads + length (g.V.View.asked l.initial.view)
      ≡ l.initial.made.writer.reads + length (g.V.View.asked l.view);
  going : (m : Map) → g.V.View.shows l.initial.view m → (a : LastComposition) (t : GroupForest) (mine : List ℕ)
      → IsSince a (functions_view l.level.functions.now) → IsOldPart a l.level.last.now.owed.objects m t
      → Begins l.level.depth (drop l.first l.level.last.now.groups) t →
      GroupsLeft m l.level.last.now.owed.objects a (functions_view l.level.functions.now) l.level.depth t
      (drop l.at l.level.last.now.groups) (state_of l.initial.made.writer (g.V.View.asked l.initial.view) mine)
      (state_of l.made.writer (g.V.View.asked l.view) mine);
}

abbrev pub decreases-skip_all-loop-at : goal.decreases-skip_all-loop-at
decreases-skip_all-loop-at g l = length l.level.last.now.groups - l.at

abbrev pub decreases-run_all : goal.decreases-run_all
decreases-run_all g l =
    8 * weight l.level.now.functions.now + 8 * body_size l.body.now + 4 + 3 * (most_groups - l.level.now.depth)

abbrev pub decreases-run_one : goal.decreases-run_one
decreases-run_one g l = 8 * weight l.level.now.functions.now + 8 * stmt_size (stmt_view l.statement.now) + 3 + 3 * (most_groups - l.level.now.depth)

abbrev pub decreases-run_block : goal.decreases-run_block
decreases-run_block g l =
    8 * weight l.level.now.functions.now + 8 * body_size l.body.now + 7 + 3 * (most_groups - l.level.now.depth)

abbrev pub decreases-run_inside : goal.decreases-run_inside
decreases-run_inside g l =
    8 * weight l.level.now.functions.now + 8 * body_size l.body.now + 5 + 3 * (most_groups - l.level.now.depth)

abbrev pub decreases-run_if : goal.decreases-run_if
decreases-run_if g l = 8 * weight l.level.now.functions.now + 8 * (body_size l.then_branch.now + body_size l.else_branch.now) + 5 + 3 * (most_groups - l.level.now.depth)

abbrev pub decreases-run_bound : goal.decreases-run_bound
decreases-run_bound g l =
    8 * weight l.level.now.functions.now + 8 * body_size l.body.now + 5 + 3 * (most_groups - l.level.now.depth)

abbrev pub decreases-run_turns : goal.decreases-run_turns
decreases-run_turns g l =
    8 * weight l.level.now.functions.now + 8 * body_size l.body.now + 6 + 3 * (most_groups - l.level.now.depth)

abbrev pub decreases-run_arguments : goal.decreases-run_arguments
decreases-run_arguments g l = 8 * weight l.level.now.functions.now + 4 + 3 * (most_groups - l.level.now.depth)

abbrev pub decreases-run_call : goal.decreases-run_call
decreases-run_call g l = 8 * weight l.level.now.functions.now + 3 + 3 * (most_groups - l.level.now.depth)

abbrev pub decreases-run_body : goal.decreases-run_body
decreases-run_body g l = 8 * weight l.level.now.functions.now + 3 * (most_groups - l.level.now.depth)

abbrev pub decreases-skip_call : goal.decreases-skip_call
decreases-skip_call g l = 8 * weight l.level.now.functions.now + 2 + 3 * (most_groups - l.level.now.depth)

abbrev pub decreases-skip_group : goal.decreases-skip_group
decreases-skip_group g l = 8 * weight l.level.now.functions.now + 1 + 3 * (most_groups - l.level.now.depth)

abbrev pub decreases-skip_all : goal.decreases-skip_all
decreases-skip_all g l = 8 * weight l.level.now.functions.now + 2 + 3 * (most_groups - l.level.now.depth)

abbrev pub decreases-skip_inside : goal.decreases-skip_inside
decreases-skip_inside g l = 8 * weight l.level.now.functions.now + 3 * (most_groups - l.level.now.depth)
