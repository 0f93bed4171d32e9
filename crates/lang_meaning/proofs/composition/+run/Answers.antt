use Rattle.std.proofs.Common.{rules, ◌≡◌, ◌++◌, ◌∷◌, [], arith, sym, ap, ◌∙◌, subst, List, ℤ, pos, Err, Ok, refl, length, length-append, get_or, true, false, to_z, of_z, w64}
use Rattle.rt_values.specs.declared.value.Value.{Value}
use Rattle.rt_values.specs.declared.value.Value.TheVariants as value
use Rattle.rt_groups.specs.declared.groups.GroupKind.TheVariants as what
use Rattle.rt_groups.specs.PreorderGroups.{flat_group}
use Rattle.rt_values.specs.Maps.{Map}
use Rattle.rt_values.specs.Operators.{is_true}
use Rattle.rt_groups.specs.GroupForest.{GroupForest, End, Group, Call}
use Rattle.lang_ast.specs.declared.binding.Binding.{Binding}
use Rattle.lang_ast.specs.declared.syntax.Function.{Function}
use Rattle.lang_ast.specs.Evaluation.{new_binding, eval}
use Rattle.lang_ast.specs.SyntaxView.{expr_view, stmt_view, stmts_view}
use Rattle.lang_meaning.specs.ComposesForest.{ComposesForest}
use Rattle.compose_model.specs.StatementForests.{statement_forest, body_forest, call_forest}
use Rattle.lang_meaning.specs.declared.composition.ScratchStop.{ScratchStop}
use Rattle.lang_meaning.specs.declared.composition.ScratchStop.TheVariants.{NoMemory}
use Rattle.lang_eval.proofs.Grows.{grew_none}
use Rattle.compose_model.proofs.Sizes.{size_at, falls_at}
use Rattle.lang_meaning.proofs.StatementCases.{call_ran, choice_ran, block_ran, body_as, bound_as, loop_as, call_body, call_none}
use Rattle.compose_model.proofs.StatementForests.{all_at, all_end, turns_at, turns_end}
use Rattle.lang_meaning.proofs.ForestSteps.{stopped, on_ok, then_same, one_added, added_on, longer_by_one, longer_after, ran_stop, ran_stop_after, ran_after, ran_full_as, ran_added, ran_call, ran_call_stop, ran_first, ran_second, going_more, going_done, going_stop}
use Rattle.lang_meaning.proofs.Blocks.{remains_as, ran_failed}
use Rattle.lang_meaning.proofs.composition.+run.Goals as goal

-- Statements one after another.

pub run_all-returns : goal.run_all-returns
run_all-returns g t c = record {
  keeps = c.loop-statement.invariant.keeps;
  same = c.loop-statement.invariant.same;
  same_scope = c.loop-statement.invariant.same_scope;
  longer = c.loop-statement.invariant.longer;
  fits = c.loop-statement.invariant.fits;
  ran = λ m h. going_done _ _ _ _ _ _ _ _ _
      (all_end m c.args.level.now.functions.now c.args.body.now c.loop-statement.statement-index c.args.made.now.scope
      (omega arith)) (c.loop-statement.invariant.going m h);
}

pub run_all-returns-in_err-run_one : goal.run_all-returns-in_err-run_one
run_all-returns-in_err-run_one g t c =
    let e : c.from_residual.result ≡ Err c.in_err-run_one.field-0.0 = search rules in
    record {
      keeps = g.met.V.View.keeps_on _ _ _ c.loop-statement.invariant.keeps c.in_err-run_one.ensures.keeps;
      same = λ m h. c.in_err-run_one.ensures.same m (c.loop-statement.invariant.same m h);
      same_scope = stopped _ _ _ e;
      longer = stopped _ _ _ e;
      fits = stopped _ _ _ e;
      ran = λ m h.
          let P : List Binding → Type 0 = λ env. ComposesForest c.args.level.now.depth
          (statement_forest m c.args.level.now.functions.now (stmt_view c.statement-item.result) env)
          c.loop-statement.made.groups c.run_one.new.made.groups (g.V.View.asked c.loop-statement.view)
          (g.V.View.asked c.run_one.new.view)
          c.loop-statement.made.reads c.run_one.new.made.reads {U = Unit {0}} (Err c.in_err-run_one.field-0.0) in
          let ran = subst P c.loop-statement.invariant.same_scope
          (c.in_err-run_one.ensures.ran m (c.loop-statement.invariant.same m h)) in
          going_stop _ _ _ _ _ _ _ _ _ _ _ _ _ _ _ _
          (all_at m c.args.level.now.functions.now c.args.body.now c.loop-statement.statement-index
          c.statement-item.result c.args.made.now.scope (omega arith) c.statement-item.is)
          (c.loop-statement.invariant.going m h) ran e;
    }

pub run_all-loop-statement-preserved : goal.run_all-loop-statement-preserved
run_all-loop-statement-preserved g t c =
    let P : Map → List Binding → Type 0 = λ m env. ComposesForest c.args.level.now.depth
    (statement_forest m c.args.level.now.functions.now (stmt_view c.statement-item.result) env)
    c.loop-statement.made.groups c.run_one.new.made.groups (g.V.View.asked c.loop-statement.view)
    (g.V.View.asked c.run_one.new.view)
    c.loop-statement.made.reads c.run_one.new.made.reads {U = Unit {0}} (Ok tt) in
    let ran : (m : Map) → g.V.View.shows c.args.view.now m → P m c.args.made.now.scope =
    λ m h. subst (P m) c.loop-statement.invariant.same_scope
    (c.in_ok-run_one.ensures.ran m (c.loop-statement.invariant.same m h)) in
    record {
      keeps = g.met.V.View.keeps_on _ _ _ c.loop-statement.invariant.keeps c.in_ok-run_one.ensures.keeps;
      same = λ m h. c.in_ok-run_one.ensures.same m (c.loop-statement.invariant.same m h);
      same_scope = c.in_ok-run_one.ensures.same_scope ∙ c.loop-statement.invariant.same_scope;
      longer = omega (arith, c.loop-statement.invariant.longer, c.in_ok-run_one.ensures.longer);
      fits = c.in_ok-run_one.ensures.fits;
      going = λ m h. going_more _ _ _ _ _ _ _ _ _ _ _ _ _ _ _
          (all_at m c.args.level.now.functions.now c.args.body.now c.loop-statement.statement-index
          c.statement-item.result c.args.made.now.scope (omega arith) c.statement-item.is)
          (c.loop-statement.invariant.going m h) (ran m h);
    }

pub run_all-run_one-requires : goal.run_all-run_one-requires
run_all-run_one-requires g t c κs w =
    let least = size_at c.args.body.now c.loop-statement.statement-index c.statement-item.result (omega arith)
    c.statement-item.is in
    search rules

-- One statement.

pub run_one-returns-in-Call : goal.run_one-returns-in-Call
run_one-returns-in-Call g t c = record {
  keeps = c.run_arguments.ensures.keeps;
  same = c.run_arguments.ensures.same;
  same_scope = c.run_arguments.ensures.same_scope;
  longer = c.run_arguments.ensures.longer;
  fits = c.run_arguments.ensures.fits;
  ran = λ m h.
      call_ran m c.args.level.now.functions.now _ c.args.made.now.scope _ _ _ _ _ _ _ _ _ _ _ _ _ _ c.in-Call.is (search rules)
      (c.run_arguments.ensures.ran m h);
}

pub run_one-returns-in-If : goal.run_one-returns-in-If
run_one-returns-in-If g t c = record {
  keeps = c.run_if.ensures.keeps;
  same = c.run_if.ensures.same;
  same_scope = c.run_if.ensures.same_scope;
  longer = c.run_if.ensures.longer;
  fits = c.run_if.ensures.fits;
  ran = λ m h.
      let r = c.run_if.ensures.ran m h in search (rules, choice_ran);
}

pub run_one-returns-in-Block : goal.run_one-returns-in-Block
run_one-returns-in-Block g t c = record {
  keeps = c.run_block.ensures.keeps;
  same = c.run_block.ensures.same;
  same_scope = c.run_block.ensures.same_scope;
  longer = c.run_block.ensures.longer;
  fits = c.run_block.ensures.fits;
  ran = λ m h.
      block_ran m c.args.level.now.functions.now _ c.args.made.now.scope _ _ _ _ _ _ _ _ _ _ _ _ _ c.in-Block.is (search rules)
      (c.run_block.ensures.ran m h);
}

-- A block.

pub run_block-returns-in_err-enter_block : goal.run_block-returns-in_err-enter_block
run_block-returns-in_err-enter_block g t c =
    let e : c.from_residual.result ≡ Err c.in_err-enter_block.field-0.0 = search rules in
    let go : Map → List Binding → GroupForest =
    λ m env. body_forest m c.args.level.now.functions.now (stmts_view c.args.body.now) env in
    record {
      keeps = c.in_err-enter_block.ensures.keeps;
      same = c.in_err-enter_block.ensures.same;
      same_scope = stopped _ _ _ e;
      longer = stopped _ _ _ e;
      fits = stopped _ _ _ e;
      ran = λ m h. ran_failed _ _ _ _ _ _ _ _ _ _ e (c.in_err-enter_block.ensures.failed m (go m) h);
    }

pub run_block-returns-in-Inside : goal.run_block-returns-in-Inside
run_block-returns-in-Inside g t c = record {
  keeps = g.met.V.View.keeps_on _ _ _ c.in_ok-enter_block.ensures.keeps c.run_all.ensures.keeps;
  same = λ m h. c.run_all.ensures.same m (c.in_ok-enter_block.ensures.same m h);
  same_scope = then_same _ _ _ _ c.run_all.ensures.same_scope c.in_ok-enter_block.ensures.same_scope;
  longer = longer_after _ _ _ _ c.in_ok-enter_block.ensures.longer c.run_all.ensures.longer;
  fits = c.run_all.ensures.fits;
  ran = λ m h.
      let go : List Binding → GroupForest =
      λ env. body_forest m c.args.level.now.functions.now (stmts_view c.args.body.now) env in
      (remains_as _ _ c.in-Inside.is (c.in_ok-enter_block.ensures.remains m go h)).whole _ _ _ _
      (body_as m c.args.level.now.functions.now (stmts_view c.args.body.now) _ _ _ _ _ _ _ _ _ _
      c.in_ok-enter_block.ensures.same_scope (c.run_all.ensures.ran m (c.in_ok-enter_block.ensures.same m h)));
}

pub run_block-returns-in-Bound : goal.run_block-returns-in-Bound
run_block-returns-in-Bound g t c = record {
  keeps = g.met.V.View.keeps_on _ _ _ c.in_ok-enter_block.ensures.keeps c.run_bound.ensures.keeps;
  same = λ m h. c.run_bound.ensures.same m (c.in_ok-enter_block.ensures.same m h);
  same_scope = then_same _ _ _ _ c.run_bound.ensures.same_scope c.in_ok-enter_block.ensures.same_scope;
  longer = longer_after _ _ _ _ c.in_ok-enter_block.ensures.longer c.run_bound.ensures.longer;
  fits = c.run_bound.ensures.fits;
  ran = λ m h.
      let go : List Binding → GroupForest =
      λ env. body_forest m c.args.level.now.functions.now (stmts_view c.args.body.now) env in
      (remains_as _ _ c.in-Bound.is (c.in_ok-enter_block.ensures.remains m go h)).whole _ _ _ _
      (bound_as m c.args.level.now.functions.now (stmts_view c.args.body.now) c.in-Bound.name.now.text _ _ _ _ _ _ _ _ _ _ _ _
      c.in_ok-enter_block.ensures.same_scope refl (c.run_bound.ensures.ran m (c.in_ok-enter_block.ensures.same m h)));
}

pub run_block-returns-in-Turns : goal.run_block-returns-in-Turns
run_block-returns-in-Turns g t c = record {
  keeps = g.met.V.View.keeps_on _ _ _ c.in_ok-enter_block.ensures.keeps c.run_turns.ensures.keeps;
  same = λ m h. c.run_turns.ensures.same m (c.in_ok-enter_block.ensures.same m h);
  same_scope = then_same _ _ _ _ c.run_turns.ensures.same_scope c.in_ok-enter_block.ensures.same_scope;
  longer = longer_after _ _ _ _ c.in_ok-enter_block.ensures.longer c.run_turns.ensures.longer;
  fits = c.run_turns.ensures.fits;
  ran = λ m h.
      let go : List Binding → GroupForest =
      λ env. body_forest m c.args.level.now.functions.now (stmts_view c.args.body.now) env in
      (remains_as _ _ c.in-Turns.is (c.in_ok-enter_block.ensures.remains m go h)).whole _ _ _ _
      (loop_as m c.args.level.now.functions.now (stmts_view c.args.body.now) c.in-Turns.name.now.text _ _ _ _ _ _ _ _ _ _ _ _
      c.in_ok-enter_block.ensures.same_scope c.items.ensures (c.run_turns.ensures.ran m (c.in_ok-enter_block.ensures.same m h)));
}

-- One of two lists of statements.

pub run_if-returns-in_err-condition : goal.run_if-returns-in_err-condition
run_if-returns-in_err-condition g t c =
    let e : c.from_residual.result ≡ Err NoMemory = search rules in
    record {
      keeps = c.in_err-condition.ensures.keeps;
      same = c.in_err-condition.ensures.same;
      same_scope = stopped _ _ _ e;
      longer = stopped _ _ _ e;
      fits = stopped _ _ _ e;
      ran = λ m h.
          ran_stop_after _ _ _ _ _ _ _ _ _ _ e (c.in_err-condition.ensures.part m h);
    }

pub run_if-returns-then-is_true : goal.run_if-returns-then-is_true
run_if-returns-then-is_true g t c = record {
  keeps = g.met.V.View.keeps_on _ _ _ c.in_ok-condition.ensures.keeps c.run_all.ensures.keeps;
  same = λ m h. c.run_all.ensures.same m (c.in_ok-condition.ensures.same m h);
  same_scope = c.run_all.ensures.same_scope;
  longer = c.run_all.ensures.longer;
  fits = c.run_all.ensures.fits;
  ran = λ m h.
      let inner = c.run_all.ensures.ran m (c.eval_noting.ensures.same m h) in
      let b : is_true (eval m (expr_view c.args.condition.now) c.args.made.now.scope).value ≡ true =
      ap is_true (sym (c.in_ok-condition.ensures.value m h)) ∙ sym c.is_true.ensures ∙ c.if-is_true.true in
      ran_after _ _ _ _ _ _ _ _ _ _ _ _ (c.in_ok-condition.ensures.asks m h) (c.in_ok-condition.ensures.reads m h)
      (ran_first _ _ _ _ _ _ _ _ _ _ _ b inner);
}

pub run_if-returns : goal.run_if-returns
run_if-returns g t c = record {
  keeps = g.met.V.View.keeps_on _ _ _ c.in_ok-condition.ensures.keeps c.run_all-2.ensures.keeps;
  same = λ m h. c.run_all-2.ensures.same m (c.in_ok-condition.ensures.same m h);
  same_scope = c.run_all-2.ensures.same_scope;
  longer = c.run_all-2.ensures.longer;
  fits = c.run_all-2.ensures.fits;
  ran = λ m h.
      let inner = c.run_all-2.ensures.ran m (c.eval_noting.ensures.same m h) in
      let b : is_true (eval m (expr_view c.args.condition.now) c.args.made.now.scope).value ≡ false =
      ap is_true (sym (c.in_ok-condition.ensures.value m h)) ∙ sym c.is_true.ensures ∙ c.if-is_true.false in
      ran_after _ _ _ _ _ _ _ _ _ _ _ _ (c.in_ok-condition.ensures.asks m h) (c.in_ok-condition.ensures.reads m h)
      (ran_second _ _ _ _ _ _ _ _ _ _ _ b inner);
}

-- A name more in scope.

pub run_bound-returns-in_err-name : goal.run_bound-returns-in_err-name
run_bound-returns-in_err-name g t c =
    let e : c.from_residual.result ≡ Err NoMemory = search rules in
    record {
      keeps = g.met.V.View.keeps_itself _;
      same = λ m h. h;
      same_scope = stopped _ _ _ e;
      longer = stopped _ _ _ e;
      fits = stopped _ _ _ e;
      ran = λ m h.
          ran_stop _ _ _ _ _ _ _ _ _ e (grew_none _ _);
    }

pub run_bound-returns-in_err-push : goal.run_bound-returns-in_err-push
run_bound-returns-in_err-push g t c =
    let e : c.from_residual-in_err-push.result ≡ Err NoMemory = search rules in
    record {
      keeps = g.met.V.View.keeps_itself _;
      same = λ m h. h;
      same_scope = stopped _ _ _ e;
      longer = stopped _ _ _ e;
      fits = stopped _ _ _ e;
      ran = λ m h.
          ran_stop _ _ _ _ _ _ _ _ _ e (grew_none _ _);
    }

-- A loop.

pub run_turns-returns : goal.run_turns-returns
run_turns-returns g t c = record {
  keeps = c.loop-item.invariant.keeps;
  same = c.loop-item.invariant.same;
  same_scope = c.loop-item.invariant.same_scope;
  longer = c.loop-item.invariant.longer;
  fits = c.loop-item.invariant.fits;
  ran = λ m h. going_done _ _ _ _ _ _ _ _ _ (turns_end _ _ c.loop-item.item-index (omega arith))
      (c.loop-item.invariant.going m h);
}

pub run_turns-returns-in_err-run_bound : goal.run_turns-returns-in_err-run_bound
run_turns-returns-in_err-run_bound g t c =
    let e : c.from_residual.result ≡ Err c.in_err-run_bound.field-0.0 = search rules in
    record {
      keeps = g.met.V.View.keeps_on _ _ _ c.loop-item.invariant.keeps c.in_err-run_bound.ensures.keeps;
      same = λ m h. c.in_err-run_bound.ensures.same m (c.loop-item.invariant.same m h);
      same_scope = stopped _ _ _ e;
      longer = stopped _ _ _ e;
      fits = stopped _ _ _ e;
      ran = λ m h.
          let fits : to_z w64 (of_z w64 (get_or c.args.items.now c.loop-item.item-index (pos 0))) ≡ get_or c.args.items.now c.loop-item.item-index (pos 0) = search rules in
          let P : List Binding → ℤ → Type 0 =
          λ env i. ComposesForest c.args.level.now.depth
          (body_forest m c.args.level.now.functions.now (stmts_view c.args.body.now)
          (env ++ new_binding c.args.name.now.text (value.Int i) ∷ [])) c.loop-item.made.groups
          c.run_bound.new.made.groups
          (g.V.View.asked c.loop-item.view) (g.V.View.asked c.run_bound.new.view) c.loop-item.made.reads
          c.run_bound.new.made.reads {U = Unit {0}} (Err c.in_err-run_bound.field-0.0) in
          let ran = subst (P c.args.made.now.scope) fits
          (subst (λ (env : List Binding). P env
          (to_z w64 (of_z w64 (get_or c.args.items.now c.loop-item.item-index (pos 0)))))
          c.loop-item.invariant.same_scope (c.in_err-run_bound.ensures.ran m (c.loop-item.invariant.same m h))) in
          let go : ℤ → GroupForest = λ i. body_forest m c.args.level.now.functions.now (stmts_view c.args.body.now)
          (c.args.made.now.scope ++ new_binding c.args.name.now.text (value.Int i) ∷ []) in
          going_stop _ _ _ _ _ _ _ _ _ _ _ _ _ _ _ _ (turns_at go c.args.items.now c.loop-item.item-index (omega arith))
          (c.loop-item.invariant.going m h) ran e;
    }

pub run_turns-loop-item-preserved : goal.run_turns-loop-item-preserved
run_turns-loop-item-preserved g t c =
    let fits : to_z w64 (of_z w64 (get_or c.args.items.now c.loop-item.item-index (pos 0))) ≡ get_or c.args.items.now c.loop-item.item-index (pos 0) = search rules in
    let P : Map → List Binding → ℤ → Type 0 =
    λ m env i. ComposesForest c.args.level.now.depth
    (body_forest m c.args.level.now.functions.now (stmts_view c.args.body.now)
    (env ++ new_binding c.args.name.now.text (value.Int i) ∷ [])) c.loop-item.made.groups
    c.run_bound.new.made.groups
    (g.V.View.asked c.loop-item.view) (g.V.View.asked c.run_bound.new.view) c.loop-item.made.reads
    c.run_bound.new.made.reads {U = Unit {0}} (Ok tt) in
    let ran : (m : Map) → g.V.View.shows c.args.view.now m → P m c.args.made.now.scope (get_or c.args.items.now c.loop-item.item-index (pos 0)) =
    λ m h. subst (P m c.args.made.now.scope) fits
    (subst (λ (env : List Binding). P m env
    (to_z w64 (of_z w64 (get_or c.args.items.now c.loop-item.item-index (pos 0)))))
    c.loop-item.invariant.same_scope (c.in_ok-run_bound.ensures.ran m (c.loop-item.invariant.same m h))) in
    record {
      keeps = g.met.V.View.keeps_on _ _ _ c.loop-item.invariant.keeps c.in_ok-run_bound.ensures.keeps;
      same = λ m h. c.in_ok-run_bound.ensures.same m (c.loop-item.invariant.same m h);
      same_scope = c.in_ok-run_bound.ensures.same_scope ∙ c.loop-item.invariant.same_scope;
      longer = omega (arith, c.loop-item.invariant.longer, c.in_ok-run_bound.ensures.longer);
      fits = c.in_ok-run_bound.ensures.fits;
      going = λ m h. going_more _ _ _ _ _ _ _ _ _ _ _ _ _ _ _
          (turns_at (λ i. body_forest m c.args.level.now.functions.now (stmts_view c.args.body.now)
          (c.args.made.now.scope ++ new_binding c.args.name.now.text (value.Int i) ∷ [])) c.args.items.now
          c.loop-item.item-index (omega arith)) (c.loop-item.invariant.going m h) (ran m h);
    }

-- A call.

pub run_arguments-returns-in_err-arguments : goal.run_arguments-returns-in_err-arguments
run_arguments-returns-in_err-arguments g t c =
    let e : c.from_residual.result ≡ Err NoMemory = search rules in
    record {
      keeps = c.in_err-arguments.ensures.keeps;
      same = c.in_err-arguments.ensures.same;
      same_scope = stopped _ _ _ e;
      longer = stopped _ _ _ e;
      fits = stopped _ _ _ e;
      ran = λ m h.
          ran_stop_after _ _ _ _ _ _ _ _ _ _ e (c.in_err-arguments.ensures.part m h);
    }

pub run_arguments-returns : goal.run_arguments-returns
run_arguments-returns g t c = record {
  keeps = g.met.V.View.keeps_on _ _ _ c.in_ok-arguments.ensures.keeps c.run_call.ensures.keeps;
  same = λ m h. c.run_call.ensures.same m (c.in_ok-arguments.ensures.same m h);
  same_scope = c.run_call.ensures.same_scope;
  longer = c.run_call.ensures.longer;
  fits = c.run_call.ensures.fits;
  ran = λ m h.
      let P : List Value → Type 0 =
      λ vs. ComposesForest c.args.level.now.depth
      (call_forest m c.args.level.now.functions.now c.args.site c.args.function vs) c.args.made.now.groups
      c.run_call.new.made.groups
      (g.V.View.asked c.evaluate_all.new.view) (g.V.View.asked c.run_call.new.view) c.evaluate_all.new.reads
      c.run_call.new.made.reads c.run_call.result in
      let inner = subst P (c.in_ok-arguments.ensures.value m h)
      (c.run_call.ensures.ran m (c.evaluate_all.ensures.same m h)) in
      ran_after _ _ _ _ _ _ _ _ _ _ _ _ (c.in_ok-arguments.ensures.asks m h) (c.in_ok-arguments.ensures.reads m h)
      (inner);
}

pub run_call-returns-then-function-level : goal.run_call-returns-then-function-level
run_call-returns-then-function-level g t c = record {
  keeps = g.met.V.View.keeps_itself _;
  same = λ m h. h;
  same_scope = on_ok _ refl;
  longer = longer_by_one _ _ _ (one_added _ _ _ c.add_group.result c.add_group.ensures.added);
  fits = c.add_group.ensures.fits;
  ran = λ m h.
      let none = call_none m c.args.level.now.functions.now c.args.function c.args.arguments
      c.if-function-level.true in
      subst (λ (t : GroupForest). ComposesForest c.args.level.now.depth
      (Group c.args.site 0 (Call c.args.function c.args.arguments) t End) c.args.made.now.groups
      c.add_group.new.groups (g.V.View.asked c.args.view.now) (g.V.View.asked c.args.view.now) c.args.made.now.reads
      c.args.made.now.reads c.add_group.result) (sym none)
      (ran_added _ _ _ _ _ _ _ _ refl refl
      (added_on _ _ _ _ _ c.add_group.result c.add_group.ensures.added c.group.ensures refl) c.add_group.ensures.full);
}

pub run_call-run_all-requires : goal.run_call-run_all-requires
run_call-run_all-requires g t c κs w =
    let body : c.deref.result.now ≡ c.index-level-function.result.body.items = search rules in
    let h = falls_at c.args.level.now.functions.now c.args.function c.index-level-function.result c.deref.result.now
    (omega arith) c.index-level-function.is body in
    let long = ap length c.in_ok-inner.ensures.groups ∙ length-append c.args.made.now.groups _ in
    search rules

pub run_call-returns-in_err-inner : goal.run_call-returns-in_err-inner
run_call-returns-in_err-inner g t c =
    let e : c.from_residual.result ≡ Err c.in_err-inner.field-0.0 = search rules in
    record {
      keeps = g.met.V.View.keeps_itself _;
      same = λ m h. h;
      same_scope = stopped _ _ _ e;
      longer = stopped _ _ _ e;
      fits = stopped _ _ _ e;
      ran = λ m h.
          ran_full_as _ _ _ _ _ _ _ _ _ _ _ _ e
          (λ y. c.in_err-inner.ensures.full (ap (λ (w : ScratchStop). Err w) y));
    }

pub run_call-leave_call-requires : goal.run_call-leave_call-requires
run_call-leave_call-requires g t c = omega (
  arith,
  c.len-place.ensures,
  ap length c.in_ok-inner.ensures.groups,
  length-append c.args.made.now.groups (flat_group c.args.level.now.depth c.args.site 0
      (what.Call c.args.function c.args.arguments) [] ∷ []),
  c.in_ok-run_all.ensures.longer,
)

pub run_call-returns-in_err-run_all : goal.run_call-returns-in_err-run_all
run_call-returns-in_err-run_all g t c =
    let e : c.from_residual-in_err-run_all.result ≡ Err c.in_err-run_all.field-0.0 = search rules in
    let body : c.deref.result.now ≡ c.index-level-function.result.body.items = search rules in
    record {
      keeps = c.in_err-run_all.ensures.keeps;
      same = c.in_err-run_all.ensures.same;
      same_scope = stopped _ _ _ e;
      longer = stopped _ _ _ e;
      fits = stopped _ _ _ e;
      ran = λ m h.
          let inner = call_body _ c.args.level.now.functions.now c.args.function c.args.arguments
          c.index-level-function.result c.deref.result.now _ c.in_ok-inner.inner.scope _ _ _ _ _ _ _ _
          c.if-function-level.false c.index-level-function.is body
          (ap (λ (f : Function). f.parameters.items) (sym c.index-level-function.is))
          c.in_ok-inner.ensures.scope (c.in_err-run_all.ensures.ran m h) in
          ran_call_stop _ _ _ _ _ _ _ _ _ _ _ _ _ _ _ _ c.in_ok-inner.ensures.groups inner e;
    }

pub run_call-returns : goal.run_call-returns
run_call-returns g t c =
    let body : c.deref.result.now ≡ c.index-level-function.result.body.items = search rules in
    record {
      keeps = c.in_ok-run_all.ensures.keeps;
      same = c.in_ok-run_all.ensures.same;
      same_scope = refl;
      longer = omega (
        arith,
        ap length c.in_ok-inner.ensures.groups,
        length-append c.args.made.now.groups (flat_group c.args.level.now.depth c.args.site 0
            (what.Call c.args.function c.args.arguments) [] ∷ []),
        c.in_ok-run_all.ensures.longer,
        c.leave_call.ensures.len,
      );
      fits = search rules;
      ran = λ m h.
          let inner = call_body _ c.args.level.now.functions.now c.args.function c.args.arguments
          c.index-level-function.result c.deref.result.now _ c.in_ok-inner.inner.scope _ _ _ _ _ _ _ _
          c.if-function-level.false c.index-level-function.is body
          (ap (λ (f : Function). f.parameters.items) (sym c.index-level-function.is))
          c.in_ok-inner.ensures.scope (c.in_ok-run_all.ensures.ran m h) in
          ran_call _ _ _ _ _ _ _ _ _ _ _ _ _ _ c.in_ok-inner.ensures.reads c.in_ok-inner.ensures.groups inner
          (λ before behind x is e. c.leave_call.ensures.reads before behind x (is ∙ sym c.len-place.ensures) e);
    }
