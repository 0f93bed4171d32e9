use Rattle.std.proofs.Common.{rules, ◌≡◌, ◌≤◌, ◌++◌, ◌∷◌, [], arith, sym, ap, ◌∙◌, subst, List, Err, refl, length}
use Rattle.rt_values.specs.declared.value.Value.{Value}
use Rattle.rt_values.specs.declared.value.Value.TheVariants as value
use Rattle.rt_values.specs.Operators.{items_of}
use Rattle.lang_ast.specs.declared.syntax.Named.{Named}
use Rattle.lang_ast.specs.Terms.{Node, Remember}
use Rattle.lang_ast.specs.Evaluation.{new_binding}
use Rattle.lang_ast.specs.SyntaxView.{expr_view, nameds_view, head_view}
use Rattle.compose_model.specs.Composing.{forest_after, turns}
use Rattle.lang_meaning.specs.ComposesForest.{ComposesForest}
use Rattle.lang_meaning.specs.declared.composition.ScratchStop.TheVariants.{NoMemory}
use Rattle.lang_meaning.proofs.ForestSteps.{stopped, stopped_value, ran_stop_after, ran_after, opened_stop, opened_inside, cell_stop, cell_rest}
use Rattle.lang_meaning.proofs.Blocks.{enters_as, on_err}
use Rattle.lang_meaning.proofs.composition.enter_block.Goals as goal

-- The group of a node or a key.

pub returns-in_err-add_node-in-Node : goal.returns-in_err-add_node-in-Node
unfolding forest_after
returns-in_err-add_node-in-Node g c =
    let e : c.from_residual.result ≡ Err c.in_err-add_node-in-Node.field-0.0 = search rules in
    enters_as _ _ (ap head_view c.in-Node.is ∙ ap (λ (l : List Named). Node c.in-Node.kind (nameds_view l)) (sym c.deref.ensures.value)) (record {
      keeps = c.in_err-add_node-in-Node.ensures.composed.keeps;
      same = c.in_err-add_node-in-Node.ensures.composed.same;
      same_scope = stopped _ _ _ e;
      longer = stopped _ _ _ e;
      deep = stopped_value _ _ _ e;
      fits = stopped _ _ _ e;
      failed = λ m go h. on_err _ (opened_stop _ _ _ _ _ _ _ _ _ _ _ _ _ _ _ _ (c.in_err-add_node-in-Node.ensures.composed.ran m h) e);
      remains = λ m go h. stopped_value _ _ _ e;
    })

pub returns-in_ok-add_node-in-Node : goal.returns-in_ok-add_node-in-Node
unfolding forest_after
returns-in_ok-add_node-in-Node g c =
    let deep : c.args.level.now.depth ≤ length c.args.made.now.groups = c.requires.0 in
    enters_as _ _ (ap head_view c.in-Node.is ∙ ap (λ (l : List Named). Node c.in-Node.kind (nameds_view l)) (sym c.deref.ensures.value)) (record {
      keeps = c.in_ok-add_node-in-Node.ensures.composed.keeps;
      same = c.in_ok-add_node-in-Node.ensures.composed.same;
      same_scope = c.in_ok-add_node-in-Node.ensures.composed.same_scope;
      longer = c.in_ok-add_node-in-Node.ensures.composed.longer;
      deep = omega (arith, deep, c.in_ok-add_node-in-Node.ensures.more);
      fits = c.in_ok-add_node-in-Node.ensures.composed.fits;
      failed = λ m go h. tt;
      remains = λ m go h. record {
        whole = λ out' asked' mine' result k.
            opened_inside _ _ _ _ _ _ _ _ _ _ _ _ _ _ _ _ refl refl refl refl (c.in_ok-add_node-in-Node.ensures.composed.ran m h) k;
      };
    })

pub returns-in_err-add_key-in-Key : goal.returns-in_err-add_key-in-Key
unfolding forest_after
returns-in_err-add_key-in-Key g c =
    let e : c.from_residual-in_err-add_key-in-Key.result ≡ Err c.in_err-add_key-in-Key.field-0.0 = search rules in
    enters_as _ _ (ap head_view c.in-Key.is) (record {
      keeps = c.in_err-add_key-in-Key.ensures.composed.keeps;
      same = c.in_err-add_key-in-Key.ensures.composed.same;
      same_scope = stopped _ _ _ e;
      longer = stopped _ _ _ e;
      deep = stopped_value _ _ _ e;
      fits = stopped _ _ _ e;
      failed = λ m go h. on_err _ (opened_stop _ _ _ _ _ _ _ _ _ _ _ _ _ _ _ _ (c.in_err-add_key-in-Key.ensures.composed.ran m h) e);
      remains = λ m go h. stopped_value _ _ _ e;
    })

pub returns-in_ok-add_key-in-Key : goal.returns-in_ok-add_key-in-Key
unfolding forest_after
returns-in_ok-add_key-in-Key g c =
    let deep : c.args.level.now.depth ≤ length c.args.made.now.groups = c.requires.0 in
    enters_as _ _ (ap head_view c.in-Key.is) (record {
      keeps = c.in_ok-add_key-in-Key.ensures.composed.keeps;
      same = c.in_ok-add_key-in-Key.ensures.composed.same;
      same_scope = c.in_ok-add_key-in-Key.ensures.composed.same_scope;
      longer = c.in_ok-add_key-in-Key.ensures.composed.longer;
      deep = omega (arith, deep, c.in_ok-add_key-in-Key.ensures.more);
      fits = c.in_ok-add_key-in-Key.ensures.composed.fits;
      failed = λ m go h. tt;
      remains = λ m go h. record {
        whole = λ out' asked' mine' result k.
            opened_inside _ _ _ _ _ _ _ _ _ _ _ _ _ _ _ _ refl refl refl refl (c.in_ok-add_key-in-Key.ensures.composed.ran m h) k;
      };
    })

-- The list of a loop.

pub returns-in_err-list-in-For : goal.returns-in_err-list-in-For
returns-in_err-list-in-For g c =
    let e : c.from_residual-in_err-list-in-For.result ≡ Err NoMemory = search rules in
    enters_as _ _ (ap head_view c.in-For.is) (record {
      keeps = c.in_err-list-in-For.ensures.keeps;
      same = c.in_err-list-in-For.ensures.same;
      same_scope = stopped _ _ _ e;
      longer = stopped _ _ _ e;
      deep = stopped_value _ _ _ e;
      fits = stopped _ _ _ e;
      failed = λ m go h. on_err _ (ran_stop_after _ _ _ _ _ _ _ _ _ _ e (c.in_err-list-in-For.ensures.part m h));
      remains = λ m go h. stopped_value _ _ _ e;
    })

pub returns-in_ok-list-in-For : goal.returns-in_ok-list-in-For
returns-in_ok-list-in-For g c =
    enters_as _ _ (ap head_view c.in-For.is) (record {
      keeps = c.in_ok-list-in-For.ensures.keeps;
      same = c.in_ok-list-in-For.ensures.same;
      same_scope = refl;
      longer = omega arith;
      deep = c.requires.0;
      fits = c.requires.1;
      failed = λ m go h. tt;
      remains = λ m go h. record {
        whole = λ out' asked' mine' result k.
            let P : Value → Type 0 = λ v. ComposesForest c.args.level.now.depth
            (turns (λ i. go (c.args.made.now.scope ++ new_binding c.in-For.name.text (value.Int i) ∷ []))
            (items_of v)) c.args.made.now.groups out'
            (g.V.View.asked c.eval_noting.new.view) asked' c.eval_noting.new.reads mine' result in
            ran_after _ _ _ _ _ _ _ _ _ _ _ _ (c.in_ok-list-in-For.ensures.asks m h) (c.in_ok-list-in-For.ensures.reads m h)
            (subst P (c.in_ok-list-in-For.ensures.value m h) k);
      };
    })

-- The value of a variable.

pub returns-in_err-value-in-Let : goal.returns-in_err-value-in-Let
returns-in_err-value-in-Let g c =
    let e : c.from_residual-in_err-value-in-Let.result ≡ Err NoMemory = search rules in
    enters_as _ _ (ap head_view c.in-Let.is) (record {
      keeps = c.in_err-value-in-Let.ensures.keeps;
      same = c.in_err-value-in-Let.ensures.same;
      same_scope = stopped _ _ _ e;
      longer = stopped _ _ _ e;
      deep = stopped_value _ _ _ e;
      fits = stopped _ _ _ e;
      failed = λ m go h. on_err _ (ran_stop_after _ _ _ _ _ _ _ _ _ _ e (c.in_err-value-in-Let.ensures.part m h));
      remains = λ m go h. stopped_value _ _ _ e;
    })

pub returns-in_ok-value-in-Let : goal.returns-in_ok-value-in-Let
returns-in_ok-value-in-Let g c =
    enters_as _ _ (ap head_view c.in-Let.is) (record {
      keeps = c.in_ok-value-in-Let.ensures.keeps;
      same = c.in_ok-value-in-Let.ensures.same;
      same_scope = refl;
      longer = omega arith;
      deep = c.requires.0;
      fits = c.requires.1;
      failed = λ m go h. tt;
      remains = λ m go h. record {
        whole = λ out' asked' mine' result k.
            let P : Value → Type 0 = λ v. ComposesForest c.args.level.now.depth
            (go (c.args.made.now.scope ++ new_binding c.in-Let.name.text v ∷ [])) c.args.made.now.groups out'
            (g.V.View.asked c.eval_noting-in-Let.new.view) asked' c.eval_noting-in-Let.new.reads mine' result in
            ran_after _ _ _ _ _ _ _ _ _ _ _ _ (c.in_ok-value-in-Let.ensures.asks m h) (c.in_ok-value-in-Let.ensures.reads m h)
            (subst P (c.in_ok-value-in-Let.ensures.value m h) k);
      };
    })

-- The group and the value of a cell.

pub returns-in_err-value-in-Remember : goal.returns-in_err-value-in-Remember
unfolding forest_after
returns-in_err-value-in-Remember g c =
    let e : c.from_residual-in_err-value-in-Remember.result ≡ Err c.in_err-value-in-Remember.field-0.0 = search rules in
    enters_as _ _ (ap head_view c.in-Remember.is
    ∙ ap (λ (l : List Named). Remember c.in-Remember.name (nameds_view l) (expr_view c.in-Remember.value))
    (sym c.deref-in-Remember.ensures.value)) (record {
      keeps = c.in_err-value-in-Remember.ensures.composed.keeps;
      same = c.in_err-value-in-Remember.ensures.composed.same;
      same_scope = stopped _ _ _ e;
      longer = stopped _ _ _ e;
      deep = stopped_value _ _ _ e;
      fits = stopped _ _ _ e;
      failed = λ m go h. on_err _ (cell_stop _ _ _ _ _ _ _ _ _ _ _ _ _ _ _ _ (c.in_err-value-in-Remember.ensures.composed.ran m h) e);
      remains = λ m go h. stopped_value _ _ _ e;
    })

pub returns-in_ok-value-in-Remember : goal.returns-in_ok-value-in-Remember
unfolding forest_after
returns-in_ok-value-in-Remember g c =
    let deep : c.args.level.now.depth ≤ length c.args.made.now.groups = c.requires.0 in
    enters_as _ _ (ap head_view c.in-Remember.is
    ∙ ap (λ (l : List Named). Remember c.in-Remember.name (nameds_view l) (expr_view c.in-Remember.value))
    (sym c.deref-in-Remember.ensures.value)) (record {
      keeps = c.in_ok-value-in-Remember.ensures.composed.keeps;
      same = c.in_ok-value-in-Remember.ensures.composed.same;
      same_scope = c.in_ok-value-in-Remember.ensures.composed.same_scope;
      longer = c.in_ok-value-in-Remember.ensures.composed.longer;
      deep = omega (arith, deep, c.in_ok-value-in-Remember.ensures.composed.longer);
      fits = c.in_ok-value-in-Remember.ensures.composed.fits;
      failed = λ m go h. tt;
      remains = λ m go h. record {
        whole = λ out' asked' mine' result k.
            let P : Value → Type 0 = λ v. ComposesForest c.args.level.now.depth
            (go (c.args.made.now.scope ++ new_binding c.in-Remember.name.text v ∷ [])) c.add_cell.new.made.groups out'
            (g.V.View.asked c.add_cell.new.view) asked' c.add_cell.new.made.reads mine' result in
            cell_rest _ _ _ _ _ _ _ _ _ _ _ _ _ _ _ _ _ refl refl
            (c.in_ok-value-in-Remember.ensures.composed.ran m h)
            (subst P (c.in_ok-value-in-Remember.ensures.value m h) k);
      };
    })
