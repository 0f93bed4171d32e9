use Rattle.std.proofs.Common.{◌≡◌, ◌≤◌, ◌+◌, ◌*◌, drop, length}
use Rattle.rt_groups.specs.Frames.{most_groups}
use Rattle.rt_values.specs.Maps.{Map}
use Rattle.lang_ast.specs.SyntaxView.{stmt_view, stmts_view}
use Rattle.lang_meaning.specs.ComposesForest.{LoopProgress}
use Rattle.compose_model.specs.StatementForests.{body_forest, loop_forest}
use Rattle.compose_model.proofs.Sizes.{stmt_size, body_size, weight}
use Rattle.lang_meaning.proofs.composition.+run.Given as goal

abbrev pub invariant-run_all-loop-statement : goal.invariant-run_all-loop-statement
invariant-run_all-loop-statement g l = record {
  keeps : g.V.View.keeps l.initial.view l.view;
  same : (m : Map) → g.V.View.shows l.initial.view m → g.V.View.shows l.view m;
  same_scope : l.made.scope ≡ l.initial.made.scope;
  longer : length l.initial.made.groups ≤ length l.made.groups;
  fits : length l.made.groups ≤ most_groups;
  going : (m : Map) → g.V.View.shows l.initial.view m
      → LoopProgress l.level.depth
      (body_forest m l.level.functions.now (stmts_view (drop l.statement-index l.body)) l.initial.made.scope)
      (body_forest m l.level.functions.now (stmts_view l.body) l.initial.made.scope)
      l.initial.made.groups l.made.groups (g.V.View.asked l.initial.view) (g.V.View.asked l.view) l.initial.made.reads
      l.made.reads;
}

abbrev pub invariant-run_turns-loop-item : goal.invariant-run_turns-loop-item
invariant-run_turns-loop-item g l = record {
  keeps : g.V.View.keeps l.initial.view l.view;
  same : (m : Map) → g.V.View.shows l.initial.view m → g.V.View.shows l.view m;
  same_scope : l.made.scope ≡ l.initial.made.scope;
  longer : length l.initial.made.groups ≤ length l.made.groups;
  fits : length l.made.groups ≤ most_groups;
  going : (m : Map) → g.V.View.shows l.initial.view m
      → LoopProgress l.level.depth
      (loop_forest m l.level.functions.now l.name.text (stmts_view l.body) l.initial.made.scope
      (drop l.item-index l.items))
      (loop_forest m l.level.functions.now l.name.text (stmts_view l.body) l.initial.made.scope l.items)
      l.initial.made.groups l.made.groups (g.V.View.asked l.initial.view) (g.V.View.asked l.view) l.initial.made.reads
      l.made.reads;
}

abbrev pub decreases-run_all : goal.decreases-run_all
decreases-run_all g l = 8 * weight l.level.now.functions.now + 8 * body_size l.body.now + 4

abbrev pub decreases-run_one : goal.decreases-run_one
decreases-run_one g l = 8 * weight l.level.now.functions.now + 8 * stmt_size (stmt_view l.statement.now) + 3

abbrev pub decreases-run_block : goal.decreases-run_block
decreases-run_block g l = 8 * weight l.level.now.functions.now + 8 * body_size l.body.now + 7

abbrev pub decreases-run_if : goal.decreases-run_if
decreases-run_if g l =
    8 * weight l.level.now.functions.now + 8 * (body_size l.then_branch.now + body_size l.else_branch.now) + 5

abbrev pub decreases-run_bound : goal.decreases-run_bound
decreases-run_bound g l = 8 * weight l.level.now.functions.now + 8 * body_size l.body.now + 5

abbrev pub decreases-run_turns : goal.decreases-run_turns
decreases-run_turns g l = 8 * weight l.level.now.functions.now + 8 * body_size l.body.now + 6

abbrev pub decreases-run_arguments : goal.decreases-run_arguments
decreases-run_arguments g l = 8 * weight l.level.now.functions.now + 3

abbrev pub decreases-run_call : goal.decreases-run_call
decreases-run_call g l = 8 * weight l.level.now.functions.now + 2
