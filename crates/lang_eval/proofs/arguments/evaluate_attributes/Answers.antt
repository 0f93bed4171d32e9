use Rattle.std.proofs.Common.{ℕ, ◌++◌, ◌∷◌, [], List, map, IsErr, refl, ap, ◌∙◌}
use Rattle.rt_groups.specs.declared.groups.Attribute.{Attribute}
use Rattle.rt_groups.specs.PreorderGroups.{flat_attribute}
use Rattle.lang_ast.specs.declared.binding.Binding.{Binding}
use Rattle.lang_ast.specs.ResultsWithReads.{mapped_reading}
use Rattle.lang_ast.specs.Evaluation.{new_binding, eval_named}
use Rattle.lang_ast.specs.SyntaxView.{nameds_view}
use Rattle.compose_model.specs.Composing.{attribute}
use Rattle.lang_eval.proofs.Grows.{grew_all}
use Rattle.lang_eval.proofs.Evaluating.{progress_first}
use Rattle.lang_eval.proofs.NotedReads.{noting_clauses, named_from, named_more, named_stop, named_done}
use Rattle.lang_eval.proofs.arguments.evaluate_attributes.Goals as goal

-- The attribute of a name with its value.
abbrev item : Binding → Attribute
item b = flat_attribute (attribute b)

-- The attributes of names with their values.
abbrev items : List Binding → List Attribute
items bs = map flat_attribute (map attribute bs)

pub loop-named-init : goal.loop-named-init
loop-named-init g c = record {
  keeps = g.met.V.View.keeps_itself _;
  same = λ m h. h;
  going = λ m h. progress_first _ _ _ _ _ (ap (λ (l : List Attribute). named_from m items l c.args.attributes.now 0
      c.args.scope.now) c.clear.ensures);
}

pub loop-named-preserved : goal.loop-named-preserved
loop-named-preserved g c = record {
  keeps = g.met.V.View.keeps_on _ _ _ c.loop-named.invariant.keeps c.in_ok-value.ensures.keeps;
  same = λ m h. c.in_ok-value.ensures.same m (c.loop-named.invariant.same m h);
  going = λ m h. let shown = c.loop-named.invariant.same m h in
      named_more m items item c.loop-named.all _ c.args.attributes.now c.loop-named.named-index c.named-item.result
      c.in_ok-value.value c.args.scope.now _ _ _ _ _ _ _ (λ b bs. refl) c.loop-named-test.true c.named-item.is
      (c.loop-named.invariant.going m h) (c.in_ok-value.ensures.value m shown) (c.in_ok-value.ensures.asks m shown)
      (c.in_ok-value.ensures.reads m shown)
      (c.in_ok-push.ensures.ok
      ∙ ap (λ (l : List ℕ). c.loop-named.all ++ item (new_binding l c.in_ok-value.value) ∷ []) c.in_ok-name.ensures);
}

pub returns-in_err-value : goal.returns-in_err-value
returns-in_err-value g c =
    let err : IsErr c.from_residual.result = c.from_residual.ensures.0 in
    noting_clauses (g.V.View.shows c.args.view.now)
    (λ m. mapped_reading items (eval_named m (nameds_view c.args.attributes.now) c.args.scope.now))
    _ _ _ _ _ (g.met.V.View.keeps_on _ _ _ c.loop-named.invariant.keeps c.in_err-value.ensures.keeps)
    (λ m h. c.in_err-value.ensures.same m (c.loop-named.invariant.same m h))
    (λ m h. named_stop m items item c.loop-named.all c.args.attributes.now c.loop-named.named-index c.named-item.result
    c.args.scope.now _ _ _ _ _ _ _ _ (λ b bs. refl) c.loop-named-test.true c.named-item.is
    (c.loop-named.invariant.going m h) (c.in_err-value.ensures.part m (c.loop-named.invariant.same m h)) err)

pub returns-in_err-name : goal.returns-in_err-name
returns-in_err-name g c =
    let err : IsErr c.from_residual-in_err-name.result = c.from_residual-in_err-name.ensures.0 in
    noting_clauses (g.V.View.shows c.args.view.now)
    (λ m. mapped_reading items (eval_named m (nameds_view c.args.attributes.now) c.args.scope.now))
    _ _ _ _ _ (g.met.V.View.keeps_on _ _ _ c.loop-named.invariant.keeps c.in_ok-value.ensures.keeps)
    (λ m h. c.in_ok-value.ensures.same m (c.loop-named.invariant.same m h))
    (λ m h. named_stop m items item c.loop-named.all c.args.attributes.now c.loop-named.named-index c.named-item.result
    c.args.scope.now _ _ _ _ _ _ _ _ (λ b bs. refl) c.loop-named-test.true c.named-item.is
    (c.loop-named.invariant.going m h)
    (grew_all _ _ _ (c.in_ok-value.ensures.asks m (c.loop-named.invariant.same m h))) err)

pub returns-in_err-push : goal.returns-in_err-push
returns-in_err-push g c =
    let err : IsErr c.from_residual-in_err-push.result = c.from_residual-in_err-push.ensures.0 in
    noting_clauses (g.V.View.shows c.args.view.now)
    (λ m. mapped_reading items (eval_named m (nameds_view c.args.attributes.now) c.args.scope.now))
    _ _ _ _ _ (g.met.V.View.keeps_on _ _ _ c.loop-named.invariant.keeps c.in_ok-value.ensures.keeps)
    (λ m h. c.in_ok-value.ensures.same m (c.loop-named.invariant.same m h))
    (λ m h. named_stop m items item c.loop-named.all c.args.attributes.now c.loop-named.named-index c.named-item.result
    c.args.scope.now _ _ _ _ _ _ _ _ (λ b bs. refl) c.loop-named-test.true c.named-item.is
    (c.loop-named.invariant.going m h)
    (grew_all _ _ _ (c.in_ok-value.ensures.asks m (c.loop-named.invariant.same m h))) err)

pub returns : goal.returns
returns g c = noting_clauses {E = ⊥} (g.V.View.shows c.args.view.now)
    (λ m. mapped_reading items (eval_named m (nameds_view c.args.attributes.now) c.args.scope.now))
    _ _ _ _ _ c.loop-named.invariant.keeps c.loop-named.invariant.same
    (λ m h. named_done m items c.loop-named.all c.args.attributes.now c.loop-named.named-index c.args.scope.now
    _ _ _ _ _ refl c.loop-named-test.false (c.loop-named.invariant.going m h))
