use Rattle.std.proofs.Common.{rules, ◌≡◌, ◌<◌, ◌≤◌, ◌+◌, ℕ, ℤ, List, length, get_or, map, take, sym, ap, ◌∙◌, refl, add-one, IsErr, to_z, of_z, w64}
use Rattle.rt_values.specs.Limits.{most_items}
use Rattle.rt_values.specs.Operators.{number_of, list_with_item}
use Rattle.lang_ast.specs.Evaluation.{first, second}
use Rattle.lang_ast.specs.SyntaxView.{exprs_view}
use Rattle.lang_eval.specs.Operands.{pair, pair_from, pair_with, list_with_all}
use Rattle.lang_eval.specs.declared.applying.Pair.{Pair}
use Rattle.lang_eval.proofs.Operands.{nth_found, nth_none}
use Rattle.lang_eval.proofs.Flats.{flat_at, nth_flat}
use Rattle.lang_eval.proofs.Grows.{grew_all, grew_none}
use Rattle.lang_eval.proofs.Evaluating.{evaluated_pure, evaluated_as, evaluated_stop, literal_evaluated, variable_evaluated, get_evaluated, apply_view, pick_stop, pick_evaluated, list_stop, list_evaluated, two_stop, two_evaluated, progress_first, progress_more, progress_done, progress_stop, pairs_first, numbers_first}
use Rattle.lang_eval.proofs.evaluation.+evaluate.Goals as goal

-- Literals, variables and reads of state objects.

pub eval_part-returns-in-Literal : goal.eval_part-returns-in-Literal
eval_part-returns-in-Literal g t c = record {
  keeps = g.met.V.View.keeps_itself _;
  same = λ m h. h;
  gives = λ m h. literal_evaluated m _ _ _ _ _ _ _ _ _ c.in-Literal.is c.copy.ensures.same c.copy.ensures.flat;
}

pub eval_part-returns-in-Variable : goal.eval_part-returns-in-Variable
eval_part-returns-in-Variable g t c = record {
  keeps = g.met.V.View.keeps_itself _;
  same = λ m h. h;
  gives = λ m h. variable_evaluated m _ _ _ _ _ _ _ _ _ c.in-Variable.is refl c.value_of.ensures.value
      c.value_of.ensures.free;
}

pub eval_part-returns-in-Get : goal.eval_part-returns-in-Get
eval_part-returns-in-Get g t c = record {
  keeps = c.read_source.ensures.keeps;
  same = c.read_source.ensures.same;
  gives = λ m h. get_evaluated m _ _ _ _ _ _ _ _ _ _ _ _ c.in-Get.is (c.read_source.ensures.gives m h);
}

-- A pick evaluates its condition and one other operand.

pub eval_part-returns-in_err-condition-in-Apply : goal.eval_part-returns-in_err-condition-in-Apply
eval_part-returns-in_err-condition-in-Apply g t c =
    let view = apply_view c.args.expression.now _ _ _ _ c.in-Apply.is c.deref.ensures.value in
    let err : IsErr c.from_residual.result = c.from_residual.ensures.0 in
    record {
      keeps = c.in_err-condition-in-Apply.ensures.keeps;
      same = c.in_err-condition-in-Apply.ensures.same;
      gives = λ m h. let r = c.in_err-condition-in-Apply.ensures.gives m h in
          pick_stop m _ _ _ _ _ _ _ _ _ _ _ _ view (sym c.is_pick.ensures ∙ c.if-is_pick.true) err r.part r.no_error;
    }

pub eval_part-returns-in_ok-condition-in-Apply : goal.eval_part-returns-in_ok-condition-in-Apply
eval_part-returns-in_ok-condition-in-Apply g t c =
    let view = apply_view c.args.expression.now _ _ _ _ c.in-Apply.is c.deref.ensures.value in
    let again = ap exprs_view (c.deref-then-is_pick.ensures.value ∙ sym c.deref.ensures.value) in
    record {
      keeps = g.met.V.View.keeps_on _ _ _ c.in_ok-condition-in-Apply.ensures.keeps
          c.eval_operand-then-is_pick.ensures.keeps;
      same = λ m h. c.eval_operand-then-is_pick.ensures.same m (c.in_ok-condition-in-Apply.ensures.same m h);
      gives = λ m h. let r = c.in_ok-condition-in-Apply.ensures.gives m h in
          pick_evaluated m _ _ _ _ _ _ _ _ _ _ _ _ _ _ _ _ _ _ view again (sym c.is_pick.ensures ∙ c.if-is_pick.true)
          r.value c.choose_operand.ensures r.came r.noted
          (λ q. g.met.V.View.free_kept _ _ c.in_ok-condition-in-Apply.ensures.keeps q)
          (c.eval_operand-then-is_pick.ensures.gives m (c.in_ok-condition-in-Apply.ensures.same m h));
    }

-- A list evaluates all operands.

pub eval_part-returns-in_err-list-in-Apply : goal.eval_part-returns-in_err-list-in-Apply
eval_part-returns-in_err-list-in-Apply g t c =
    let view = apply_view c.args.expression.now _ _ _ _ c.in-Apply.is c.deref-then-is_list.ensures.value in
    let err : IsErr c.from_residual-in_err-list-in-Apply.result = c.from_residual-in_err-list-in-Apply.ensures.0 in
    record {
      keeps = c.in_err-list-in-Apply.ensures.keeps;
      same = c.in_err-list-in-Apply.ensures.same;
      gives = λ m h. let r = c.in_err-list-in-Apply.ensures.gives m h in
          list_stop m _ _ _ _ _ _ _ _ _ _ _ _ view (sym c.is_pick.ensures ∙ c.if-is_pick.false)
          (sym c.is_list.ensures ∙ c.if-is_list.true) err r.part;
    }

pub eval_part-returns-in_ok-list-in-Apply : goal.eval_part-returns-in_ok-list-in-Apply
eval_part-returns-in_ok-list-in-Apply g t c =
    let view = apply_view c.args.expression.now _ _ _ _ c.in-Apply.is c.deref-then-is_list.ensures.value in
    record {
      keeps = c.in_ok-list-in-Apply.ensures.keeps;
      same = c.in_ok-list-in-Apply.ensures.same;
      gives = λ m h. let r = c.in_ok-list-in-Apply.ensures.gives m h in
          list_evaluated m _ _ _ _ _ _ _ _ _ _ _ _ view (sym c.is_pick.ensures ∙ c.if-is_pick.false)
          (sym c.is_list.ensures ∙ c.if-is_list.true) r.value r.came r.noted;
    }

-- The other operators evaluate all operands and take two.

pub eval_part-returns-in_err-pair-in-Apply : goal.eval_part-returns-in_err-pair-in-Apply
eval_part-returns-in_err-pair-in-Apply g t c =
    let view = apply_view c.args.expression.now _ _ _ _ c.in-Apply.is c.deref-else-is_list.ensures.value in
    let err : IsErr c.from_residual-in_err-pair-in-Apply.result = c.from_residual-in_err-pair-in-Apply.ensures.0 in
    record {
      keeps = c.in_err-pair-in-Apply.ensures.keeps;
      same = c.in_err-pair-in-Apply.ensures.same;
      gives = λ m h. let r = c.in_err-pair-in-Apply.ensures.gives m h in
          two_stop m _ _ _ _ _ _ _ _ _ _ _ _ view (sym c.is_pick.ensures ∙ c.if-is_pick.false) err r.part r.no_error;
    }

pub eval_part-returns-in_ok-pair-in-Apply : goal.eval_part-returns-in_ok-pair-in-Apply
eval_part-returns-in_ok-pair-in-Apply g t c =
    let view = apply_view c.args.expression.now _ _ _ _ c.in-Apply.is c.deref-else-is_list.ensures.value in
    record {
      keeps = c.in_ok-pair-in-Apply.ensures.keeps;
      same = c.in_ok-pair-in-Apply.ensures.same;
      gives = λ m h. let r = c.in_ok-pair-in-Apply.ensures.gives m h in
          two_evaluated m _ _ _ _ _ _ _ _ _ _ _ _ _ view (sym c.is_pick.ensures ∙ c.if-is_pick.false)
          (sym c.is_list.ensures ∙ c.if-is_list.false) r.value r.came r.noted c.apply.ensures.value
          c.apply.ensures.free;
    }

-- One operand.

pub eval_operand-returns-in-Some : goal.eval_operand-returns-in-Some
eval_operand-returns-in-Some g t c =
    let below : c.args.place < length c.args.operands.now = search rules in
    let is : c.in-Some.expression.now ≡ get_or c.args.operands.now c.args.place c.in-Some.expression.now = search rules in
    record {
      keeps = c.eval_part.ensures.keeps;
      same = c.eval_part.ensures.same;
      gives = λ m h.
          evaluated_as _ _ _ _ _ _ _ _ _ _ _ (nth_found m c.args.operands.now c.args.place _ c.args.scope.now below is)
          (nth_flat m c.args.operands.now c.args.place _ c.args.scope.now below is) (c.eval_part.ensures.gives m h);
    }

pub eval_operand-returns-in-None : goal.eval_operand-returns-in-None
eval_operand-returns-in-None g t c =
    let past : length c.args.operands.now ≤ c.args.place = search rules in
    record {
      keeps = g.met.V.View.keeps_itself _;
      same = λ m h. h;
      gives = λ m h. evaluated_pure _ _ _ _ _ _ _ _ (nth_none m c.args.operands.now c.args.place c.args.scope.now past)
          refl (λ f. tt);
    }

-- An expression that is often a literal or a variable.

pub eval_inlined-returns-in-Literal : goal.eval_inlined-returns-in-Literal
eval_inlined-returns-in-Literal g t c = record {
  keeps = g.met.V.View.keeps_itself _;
  same = λ m h. h;
  gives = λ m h. literal_evaluated m _ _ _ _ _ _ _ _ _ c.in-Literal.is c.copy.ensures.same c.copy.ensures.flat;
}

pub eval_inlined-returns-in-Variable : goal.eval_inlined-returns-in-Variable
eval_inlined-returns-in-Variable g t c = record {
  keeps = g.met.V.View.keeps_itself _;
  same = λ m h. h;
  gives = λ m h. variable_evaluated m _ _ _ _ _ _ _ _ _ c.in-Variable.is refl c.value_of.ensures.value
      c.value_of.ensures.free;
}

-- The first two values.

pub eval_pair-loop-place-init : goal.eval_pair-loop-place-init
eval_pair-loop-place-init g t c = record {
  keeps = g.met.V.View.keeps_itself _;
  same = λ m h. h;
  going = λ m h. progress_first _ _ _ _ _ (pairs_first m c.args.operands.now c.args.scope.now _ c.none-pair.ensures);
}

pub eval_pair-loop-place-preserved : goal.eval_pair-loop-place-preserved
eval_pair-loop-place-preserved g t c = record {
  keeps = g.met.V.View.keeps_on _ _ _ c.loop-place.invariant.keeps c.in_ok-eval_inlined.ensures.keeps;
  same = λ m h. c.in_ok-eval_inlined.ensures.same m (c.loop-place.invariant.same m h);
  going = λ m h. let r = c.in_ok-eval_inlined.ensures.gives m (c.loop-place.invariant.same m h) in
      progress_more m c.args.operands.now c.loop-place.place c.index-operands-place.result c.args.scope.now
      (pair_from c.loop-place.pair c.loop-place.place) (pair_from c.with-pair.result (c.loop-place.place + 1)) _ _ _ _ _ _
      _ _ _ c.loop-place-test.true c.index-operands-place.is (c.loop-place.invariant.going m h) r.value r.came r.noted
      (λ vs. ap (λ (q : Pair). pair_from q (c.loop-place.place + 1) vs) c.with-pair.ensures
      ∙ ap (λ (n : ℕ). pair_from (pair_with c.loop-place.pair c.loop-place.place c.in_ok-eval_inlined.field-0) n vs)
      (add-one c.loop-place.place));
}

pub eval_pair-returns-in_err-eval_inlined : goal.eval_pair-returns-in_err-eval_inlined
eval_pair-returns-in_err-eval_inlined g t c =
    let err : IsErr c.from_residual.result = c.from_residual.ensures.0 in
    record {
      keeps = g.met.V.View.keeps_on _ _ _ c.loop-place.invariant.keeps c.in_err-eval_inlined.ensures.keeps;
      same = λ m h. c.in_err-eval_inlined.ensures.same m (c.loop-place.invariant.same m h);
      gives = λ m h. let r = c.in_err-eval_inlined.ensures.gives m (c.loop-place.invariant.same m h) in
          progress_stop m c.args.operands.now c.loop-place.place c.index-operands-place.result c.args.scope.now
          (pair_from c.loop-place.pair c.loop-place.place) (λ vs. pair (first vs) (second vs)) _ _ _ _ _ _ _ _ _ _ err c.loop-place-test.true
          c.index-operands-place.is (c.loop-place.invariant.going m h) r.part
          (λ n q f. r.no_error n (g.met.V.View.free_kept _ _ c.loop-place.invariant.keeps q)
          (flat_at m c.args.operands.now c.loop-place.place c.index-operands-place.result c.args.scope.now
          c.loop-place-test.true c.index-operands-place.is f));
    }

pub eval_pair-returns : goal.eval_pair-returns
eval_pair-returns g t c = record {
  keeps = c.loop-place.invariant.keeps;
  same = c.loop-place.invariant.same;
  gives = λ m h. progress_done m c.args.operands.now c.loop-place.place c.args.scope.now
      (pair_from c.loop-place.pair c.loop-place.place) _ _ _ _ _ _ _ _ c.loop-place-test.false
      (c.loop-place.invariant.going m h);
}

-- All numbers.

pub eval_numbers-loop-expression-init : goal.eval_numbers-loop-expression-init
eval_numbers-loop-expression-init g t c = record {
  keeps = g.met.V.View.keeps_itself _;
  same = λ m h. h;
  going = λ m h. progress_first _ _ _ _ _ (numbers_first m c.args.operands.now c.args.scope.now _ c.in_ok-list.ensures);
}

pub eval_numbers-loop-expression-preserved : goal.eval_numbers-loop-expression-preserved
eval_numbers-loop-expression-preserved g t c =
    let fits : to_z w64 (of_z w64 c.number.result) ≡ c.number.result = search rules in
    let more = c.in_ok-push.ensures.ok ∙ ap (list_with_item c.loop-expression.list) (fits ∙ c.number.ensures) in
    record {
      keeps = g.met.V.View.keeps_on _ _ _ c.loop-expression.invariant.keeps c.in_ok-value.ensures.keeps;
      same = λ m h. c.in_ok-value.ensures.same m (c.loop-expression.invariant.same m h);
      going = λ m h. let r = c.in_ok-value.ensures.gives m (c.loop-expression.invariant.same m h) in
          progress_more m c.args.operands.now c.loop-expression.expression-index c.expression-item.result
          c.args.scope.now (λ vs. list_with_all c.loop-expression.list (map number_of vs))
          (λ vs. list_with_all c.push.new.self (map number_of vs)) _ _ _ _ _ _ _ _ _ c.loop-expression-test.true
          c.expression-item.is (c.loop-expression.invariant.going m h) r.value r.came r.noted
          (λ vs. ap (λ (l : List ℤ). list_with_all l (map number_of vs)) more);
    }

pub eval_numbers-returns-in_err-list : goal.eval_numbers-returns-in_err-list
eval_numbers-returns-in_err-list g t c =
    let err : IsErr c.from_residual.result = c.from_residual.ensures.0 in
    record {
      keeps = g.met.V.View.keeps_itself _;
      same = λ m h. h;
      gives = λ m h. evaluated_stop _ _ _ _ _ _ _ _ _ err (grew_none _ _) (λ n q f. cc);
    }

pub eval_numbers-returns-in_err-value : goal.eval_numbers-returns-in_err-value
eval_numbers-returns-in_err-value g t c =
    let err : IsErr c.from_residual-in_err-value.result = c.from_residual-in_err-value.ensures.0 in
    record {
      keeps = g.met.V.View.keeps_on _ _ _ c.loop-expression.invariant.keeps c.in_err-value.ensures.keeps;
      same = λ m h. c.in_err-value.ensures.same m (c.loop-expression.invariant.same m h);
      gives = λ m h. let r = c.in_err-value.ensures.gives m (c.loop-expression.invariant.same m h) in
          progress_stop m c.args.operands.now c.loop-expression.expression-index c.expression-item.result
          c.args.scope.now (λ vs. list_with_all c.loop-expression.list (map number_of vs))
          (λ vs. take most_items (map number_of vs)) _ _ _ _ _ _ _ _ _ _ err
          c.loop-expression-test.true c.expression-item.is (c.loop-expression.invariant.going m h) r.part (λ n q f. cc);
    }

pub eval_numbers-returns-in_err-push : goal.eval_numbers-returns-in_err-push
eval_numbers-returns-in_err-push g t c =
    let err : IsErr c.from_residual-in_err-push.result = c.from_residual-in_err-push.ensures.0 in
    record {
      keeps = g.met.V.View.keeps_on _ _ _ c.loop-expression.invariant.keeps c.in_ok-value.ensures.keeps;
      same = λ m h. c.in_ok-value.ensures.same m (c.loop-expression.invariant.same m h);
      gives = λ m h. let r = c.in_ok-value.ensures.gives m (c.loop-expression.invariant.same m h) in
          progress_stop m c.args.operands.now c.loop-expression.expression-index c.expression-item.result
          c.args.scope.now (λ vs. list_with_all c.loop-expression.list (map number_of vs))
          (λ vs. take most_items (map number_of vs)) _ _ _ _ _ _ _ _ _ _ err
          c.loop-expression-test.true c.expression-item.is (c.loop-expression.invariant.going m h)
          (grew_all _ _ _ r.came) (λ n q f. cc);
    }

pub eval_numbers-returns : goal.eval_numbers-returns
eval_numbers-returns g t c = record {
  keeps = c.loop-expression.invariant.keeps;
  same = c.loop-expression.invariant.same;
  gives = λ m h. progress_done m c.args.operands.now c.loop-expression.expression-index c.args.scope.now
      (λ vs. list_with_all c.loop-expression.list (map number_of vs)) _ _ _ _ _ _ _ _ c.loop-expression-test.false
      (c.loop-expression.invariant.going m h);
}
