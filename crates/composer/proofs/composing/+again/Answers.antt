use Rattle.std.proofs.Common.{rules, ◌≡◌, ◌<◌, ◌++◌, ◌+◌, ◌∷◌, [], arith, sym, ap, ◌∙◌, subst, List, ℕ, ℤ, pos, to_z, of_z, w64, Err, Ok, refl, length, length-append, get_or, Option, Some, None, true, false}
use Rattle.std.proofs.lemmas.Bool.{eqb-true}
use Rattle.rt_values.specs.declared.value.Value.{Value}
use Rattle.rt_values.specs.declared.value.Value.TheVariants as value
use Rattle.rt_values.specs.Operators.{is_true}
use Rattle.rt_groups.specs.declared.groups.GroupKind.TheVariants as what
use Rattle.rt_groups.specs.PreorderGroups.{flat_group}
use Rattle.rt_groups.specs.Frames.{most_groups, runs_after, meets}
use Rattle.rt_groups.specs.GroupForest.{GroupForest, Call}
use Rattle.rt_groups.specs.Paths.{sibling, occurrence, matching_sibling, inside_of, Found}
use Rattle.lang_ast.specs.declared.binding.Binding.{Binding}
use Rattle.lang_ast.specs.declared.syntax.Function.{Function}
use Rattle.lang_ast.specs.Terms.{Func}
use Rattle.lang_ast.specs.Evaluation.{new_binding, eval}
use Rattle.lang_ast.specs.SyntaxView.{expr_view, stmt_view, stmts_view, functions_view}
use Rattle.compose_model.specs.Composing.{bind, meaning_at, meanings}
use Rattle.compose_model.specs.StatementForests.{statement_forest, body_forest, call_forest, loop_forest}
use Rattle.compose_model.proofs.Sizes.{size_at, falls_at}
use Rattle.compose_model.proofs.StatementForests.{all_at, all_end, turns_at, turns_end}
use Rattle.recompose_laws.specs.Refreshing.{is_owed}
use Rattle.composer.specs.declared.stop.ComposeStop.TheVariants.{NoMemory}
use Rattle.composer.specs.Comparisons.{call_runs}
use Rattle.composer.specs.OldSiblings.{KeyInfo, old_group}
use Rattle.composer.specs.OldGroups.{Alike, SameGroup, Fits}
use Rattle.composer.specs.declared.progress.Around.{Around}
use Rattle.composer.specs.declared.pending.Pending.{Pending}
use Rattle.composer.specs.ComposerState.{ComposerState, composed_beside, skipped_groups}
use Rattle.composer.specs.QuietRuns.{group_run}
use Rattle.composer.specs.BesideContracts.{Reaches, IsOldPart}
use Rattle.composer.specs.WrittenGroups.{WrittenGroups, state_of, arguments_of, first_reads}
use Rattle.composer.specs.Recomposes.{ComposesBeside, is_call_kept}
use Rattle.composer.proofs.BesideCases.{call_beside, choice_beside, block_beside, then_calculates, else_calculates, block_calculates}
use Rattle.composer.proofs.EnteredBlocks.{remains_as, beside_failed, then_same, counted_then}
use Rattle.composer.proofs.Machine.{same_state}
use Rattle.composer.proofs.Reaching.{reached_stop, reached_full, reached_at, reached_as}
use Rattle.composer.proofs.BesideSteps.{beside_stop_here, beside_stop_after, beside_after, beside_full, reached_none, beside_run, going_first, going_more, going_done, going_stop, beside_first, beside_second}
use Rattle.composer.proofs.OldMatches.{fits_inside}
use Rattle.composer.proofs.Matching.{matched, call_longer, running_longer, kept_longer, at_now, beside_now}
use Rattle.composer.proofs.Comparisons.{call_runs_kept}
use Rattle.composer.proofs.CalledFunctions.{how_many_functions, slice_is, since_slice, statement_calculates, body_none}
use Rattle.composer.proofs.SkippedCalls.{skips, skips_as}
use Rattle.composer.proofs.RunBodies.{body_reached}
use Rattle.composer.proofs.Tables.{fits_after, run_added, run_is}
use Rattle.composer.proofs.InHand.{in_hand_on, scope_stays, stays_in_hand, counted_in_hand, beside_in_hand}
use Rattle.composer.proofs.RunCalls.{call_alone, part_ran, longer_ran, body_done, body_stop, part_one, longer_than, call_what, owed_call, kept_call, kept_other, no_call, kept_state, owed_is, body_part, begins_after}
use Rattle.composer.proofs.SkipLoops.{layer_found, layer_same, layer_site, layer_part, moved_group, quiet_group, left_first, left_group, left_run, left_full, left_memory, left_more, left_stop, left_done, ends_past, index_grows}
use Rattle.composer.proofs.ReadCounts.{counted_after, counted_kept, longer_on, stopped, failed}
use Rattle.composer.proofs.composing.+again.Goals as goal

-- Statements one after another.

pub run_all-returns : goal.run_all-returns
run_all-returns g t c = record {
  keeps = c.loop-statement.invariant.keeps;
  same = c.loop-statement.invariant.same;
  same_scope = c.loop-statement.invariant.same_scope;
  longer = c.loop-statement.invariant.longer;
  fits = c.loop-statement.invariant.fits;
  counted = λ m h. c.loop-statement.invariant.counted m h;
  ran = λ m o h b calc. going_done (all_end m c.args.level.now.functions.now c.args.body.now
      c.loop-statement.statement-index c.args.made.now.scope (omega arith))
      (c.loop-statement.invariant.going m o h b calc);
}

pub run_all-returns-in_err-run_one : goal.run_all-returns-in_err-run_one
run_all-returns-in_err-run_one g t c =
    let e : c.from_residual.result ≡ Err c.in_err-run_one.field-0.0 = search rules in
    record {
      keeps = g.met.V.View.keeps_on _ _ _ c.loop-statement.invariant.keeps c.in_err-run_one.ensures.keeps;
      same = λ m h. c.in_err-run_one.ensures.same m (c.loop-statement.invariant.same m h);
      same_scope = stopped _ _ _ e;
      longer = stopped _ _ _ e;
      fits = stopped _ _ _ e;
      counted = λ m h. stopped _ _ _ e;
      ran = λ m o h b calc.
          let k = c.loop-statement.invariant.going m o h b calc in
          let P : List Binding → Type 0 = λ env. ComposesBeside c.args.level.now.last.now.owed.objects o.old
          c.args.level.now.depth k.now
          (statement_forest m c.args.level.now.functions.now (stmt_view c.statement-item.result) env)
          (state_of c.loop-statement.made.writer (g.V.View.asked c.loop-statement.view) c.loop-statement.made.reads)
          (state_of c.run_one.new.made.writer (g.V.View.asked c.run_one.new.view) c.run_one.new.made.reads)
          c.run_one.new.made.pending {U = Unit {0}} (Err c.in_err-run_one.field-0.0) in
          let ran = subst P c.loop-statement.invariant.same_scope
          (c.in_err-run_one.ensures.ran m (at_now o k.now) (c.loop-statement.invariant.same m h)
          (beside_now k.now b k.fits) (statement_calculates o.last.calculation c.args.body.now
          c.loop-statement.statement-index c.statement-item.result (omega arith) c.statement-item.is calc)) in
          going_stop _ _ (all_at m c.args.level.now.functions.now c.args.body.now c.loop-statement.statement-index
          c.statement-item.result c.args.made.now.scope (omega arith) c.statement-item.is) k ran e;
    }

pub run_all-loop-statement-preserved : goal.run_all-loop-statement-preserved
run_all-loop-statement-preserved g t c = record {
  keeps = g.met.V.View.keeps_on _ _ _ c.loop-statement.invariant.keeps c.in_ok-run_one.ensures.keeps;
  same = λ m h. c.in_ok-run_one.ensures.same m (c.loop-statement.invariant.same m h);
  same_scope = c.in_ok-run_one.ensures.same_scope ∙ c.loop-statement.invariant.same_scope;
  longer = omega (arith, c.loop-statement.invariant.longer, c.in_ok-run_one.ensures.longer);
  fits = c.in_ok-run_one.ensures.fits;
  counted = λ m h. let e = c.loop-statement.invariant.counted m h in
      let f = c.in_ok-run_one.ensures.counted m (c.loop-statement.invariant.same m h) in omega (arith, e, f);
  going = λ m o h b calc.
      let k = c.loop-statement.invariant.going m o h b calc in
      let P : List Binding → Type 0 = λ env. ComposesBeside c.args.level.now.last.now.owed.objects o.old
      c.args.level.now.depth k.now
      (statement_forest m c.args.level.now.functions.now (stmt_view c.statement-item.result) env)
      (state_of c.loop-statement.made.writer (g.V.View.asked c.loop-statement.view) c.loop-statement.made.reads)
      (state_of c.run_one.new.made.writer (g.V.View.asked c.run_one.new.view) c.run_one.new.made.reads)
      c.run_one.new.made.pending {U = Unit {0}} (Ok tt) in
      let ran = subst P c.loop-statement.invariant.same_scope
      (c.in_ok-run_one.ensures.ran m (at_now o k.now) (c.loop-statement.invariant.same m h)
      (beside_now k.now b k.fits) (statement_calculates o.last.calculation c.args.body.now
      c.loop-statement.statement-index c.statement-item.result (omega arith) c.statement-item.is calc)) in
      going_more (all_at m c.args.level.now.functions.now c.args.body.now c.loop-statement.statement-index
      c.statement-item.result c.args.made.now.scope (omega arith) c.statement-item.is) k ran;
}

pub run_all-run_one-requires : goal.run_all-run_one-requires
run_all-run_one-requires g t c κs w =
    let least = size_at c.args.body.now c.loop-statement.statement-index c.statement-item.result (omega arith)
    c.statement-item.is in
    search rules

pub run_all-loop-statement-init : goal.run_all-loop-statement-init
run_all-loop-statement-init g t c = record {
  keeps = g.met.V.View.keeps_itself _;
  same = λ m h. h;
  same_scope = refl;
  longer = omega arith;
  fits = c.requires.stays;
  counted = λ m h. refl;
  going = λ m o h b calc. going_first b.fits;
}

-- One statement.

pub run_one-returns-in-Call : goal.run_one-returns-in-Call
run_one-returns-in-Call g t c = record {
  keeps = c.run_arguments.ensures.keeps;
  same = c.run_arguments.ensures.same;
  same_scope = c.run_arguments.ensures.same_scope;
  longer = c.run_arguments.ensures.longer;
  fits = c.run_arguments.ensures.fits;
  counted = λ m h. c.run_arguments.ensures.counted m h;
  ran = λ m o h b calc.
      let r = c.run_arguments.ensures.ran m o h b tt in
      call_beside m c.args.level.now.functions.now _ c.args.made.now.scope _ _ _ _ _ _ _ _ _ _ _ _ _ _ c.in-Call.is
      (search rules) r;
}

pub run_one-returns-in-If : goal.run_one-returns-in-If
run_one-returns-in-If g t c = record {
  keeps = c.run_if.ensures.keeps;
  same = c.run_if.ensures.same;
  same_scope = c.run_if.ensures.same_scope;
  longer = c.run_if.ensures.longer;
  fits = c.run_if.ensures.fits;
  counted = λ m h. c.run_if.ensures.counted m h;
  ran = λ m o h b calc.
      let r = c.run_if.ensures.ran m o h b (then_calculates o.last.calculation _ _ _ _ _ _ _ c.in-If.is (search rules) calc, else_calculates o.last.calculation _ _ _ _ _ _ _ c.in-If.is (search rules) calc) in
      choice_beside m c.args.level.now.functions.now _ c.args.made.now.scope
      _ _ _ _ _ _ _ _ _ _ _ _ _ _ _ c.in-If.is (search rules) (search rules) r;
}

pub run_one-returns-in-Block : goal.run_one-returns-in-Block
run_one-returns-in-Block g t c = record {
  keeps = c.run_block.ensures.keeps;
  same = c.run_block.ensures.same;
  same_scope = c.run_block.ensures.same_scope;
  longer = c.run_block.ensures.longer;
  fits = c.run_block.ensures.fits;
  counted = λ m h. c.run_block.ensures.counted m h;
  ran = λ m o h b calc.
      let r = c.run_block.ensures.ran m o h b (block_calculates o.last.calculation _ _ _ _ _ _ c.in-Block.is (search rules) calc) in
      block_beside m c.args.level.now.functions.now _ c.args.made.now.scope _ _ _ _ _ _ _ _ _ _ _ _ _ c.in-Block.is
      (search rules) r;
}

-- A block.

pub run_block-returns-in_err-found : goal.run_block-returns-in_err-found
run_block-returns-in_err-found g t c =
    let e : c.from_residual.result ≡ Err c.in_err-found.field-0.0 = search rules in
    record {
      keeps = c.in_err-found.ensures.part.keeps;
      same = c.in_err-found.ensures.part.same;
      same_scope = stopped _ _ _ e;
      longer = stopped _ _ _ e;
      fits = stopped _ _ _ e;
      counted = λ m h. stopped _ _ _ e;
      ran = λ m o h b calc.
          let go : List Binding → GroupForest =
          λ env. body_forest m c.args.level.now.functions.now (stmts_view c.args.body.now) env in
          beside_failed _ _ e (c.in_err-found.ensures.failed m o go h b calc.0);
    }

pub run_block-returns-in-Inside : goal.run_block-returns-in-Inside
run_block-returns-in-Inside g t c = record {
  keeps = g.met.V.View.keeps_on _ _ _ c.in_ok-found.ensures.part.keeps c.run_inside.ensures.part.keeps;
  same = λ m h. c.run_inside.ensures.part.same m (c.in_ok-found.ensures.part.same m h);
  same_scope = then_same _ _ _ _ c.run_inside.ensures.part.same_scope c.in_ok-found.ensures.part.same_scope;
  longer = longer_on _ _ _ _ c.in_ok-found.ensures.part.longer c.run_inside.ensures.part.longer;
  fits = c.run_inside.ensures.part.fits;
  counted = λ m h. counted_then _ _ _ _ _ _ _ _ _ _ (c.in_ok-found.ensures.part.counted m h)
      (c.run_inside.ensures.part.counted m (c.in_ok-found.ensures.part.same m h));
  ran = λ m o h b calc.
      let go : List Binding → GroupForest =
      λ env. body_forest m c.args.level.now.functions.now (stmts_view c.args.body.now) env in
      let there = c.in_ok-found.ensures.part.same m h in
      (remains_as _ _ c.in-Inside.is (c.in_ok-found.ensures.remains m o go h b calc.0)).whole _ _ _ (
        c.run_inside.ensures.pending,
        λ in_group part like.
            let P : List Binding → Type 0 = λ env. Reaches (composed_beside c.args.level.now.last.now.owed.objects
            (inside_of in_group) (c.args.level.now.depth + 1) true [] (go env)
            (state_of c.enter_block.new.made.writer (g.V.View.asked c.enter_block.new.view) c.enter_block.new.made.reads))
            (state_of c.run_inside.new.made.writer (g.V.View.asked c.run_inside.new.view) c.run_inside.new.made.reads)
            c.run_inside.result in
            subst P c.in_ok-found.ensures.part.same_scope
            (c.run_inside.ensures.ran m there o.last in_group b.since part like calc.1),
      );
}

pub run_block-returns-in-Bound : goal.run_block-returns-in-Bound
run_block-returns-in-Bound g t c = record {
  keeps = g.met.V.View.keeps_on _ _ _ c.in_ok-found.ensures.part.keeps c.run_bound.ensures.keeps;
  same = λ m h. c.run_bound.ensures.same m (c.in_ok-found.ensures.part.same m h);
  same_scope = then_same _ _ _ _ c.run_bound.ensures.same_scope c.in_ok-found.ensures.part.same_scope;
  longer = longer_on _ _ _ _ c.in_ok-found.ensures.part.longer c.run_bound.ensures.longer;
  fits = c.run_bound.ensures.fits;
  counted = λ m h. counted_then _ _ _ _ _ _ _ _ _ _ (c.in_ok-found.ensures.part.counted m h)
      (c.run_bound.ensures.counted m (c.in_ok-found.ensures.part.same m h));
  ran = λ m o h b calc.
      let go : List Binding → GroupForest =
      λ env. body_forest m c.args.level.now.functions.now (stmts_view c.args.body.now) env in
      let there = c.in_ok-found.ensures.part.same m h in
      (remains_as _ _ c.in-Bound.is (c.in_ok-found.ensures.remains m o go h b calc.0)).whole _ _ _
      (λ now beside.
      let P : List Binding → Type 0 = λ env. ComposesBeside c.args.level.now.last.now.owed.objects o.old
      c.args.level.now.depth now (go (env ++ new_binding c.in-Bound.name.now.text c.in-Bound.value ∷ []))
      (state_of c.enter_block.new.made.writer (g.V.View.asked c.enter_block.new.view) c.enter_block.new.made.reads)
      (state_of c.run_bound.new.made.writer (g.V.View.asked c.run_bound.new.view) c.run_bound.new.made.reads)
      c.run_bound.new.made.pending c.run_bound.result in
      subst P c.in_ok-found.ensures.part.same_scope
      (c.run_bound.ensures.ran m (at_now o now) there beside calc.1));
}

pub run_block-returns-in-Turns : goal.run_block-returns-in-Turns
run_block-returns-in-Turns g t c = record {
  keeps = g.met.V.View.keeps_on _ _ _ c.in_ok-found.ensures.part.keeps c.run_turns.ensures.keeps;
  same = λ m h. c.run_turns.ensures.same m (c.in_ok-found.ensures.part.same m h);
  same_scope = then_same _ _ _ _ c.run_turns.ensures.same_scope c.in_ok-found.ensures.part.same_scope;
  longer = longer_on _ _ _ _ c.in_ok-found.ensures.part.longer c.run_turns.ensures.longer;
  fits = c.run_turns.ensures.fits;
  counted = λ m h. counted_then _ _ _ _ _ _ _ _ _ _ (c.in_ok-found.ensures.part.counted m h)
      (c.run_turns.ensures.counted m (c.in_ok-found.ensures.part.same m h));
  ran = λ m o h b calc.
      let go : List Binding → GroupForest =
      λ env. body_forest m c.args.level.now.functions.now (stmts_view c.args.body.now) env in
      let there = c.in_ok-found.ensures.part.same m h in
      (remains_as _ _ c.in-Turns.is (c.in_ok-found.ensures.remains m o go h b calc.0)).whole _ _ _
      (λ now beside.
      let P : List Binding → List ℤ → Type 0 = λ env is. ComposesBeside c.args.level.now.last.now.owed.objects o.old
      c.args.level.now.depth now (loop_forest m c.args.level.now.functions.now c.in-Turns.name.now.text
      (stmts_view c.args.body.now) env is)
      (state_of c.enter_block.new.made.writer (g.V.View.asked c.enter_block.new.view) c.enter_block.new.made.reads)
      (state_of c.run_turns.new.made.writer (g.V.View.asked c.run_turns.new.view) c.run_turns.new.made.reads)
      c.run_turns.new.made.pending c.run_turns.result in
      subst (P c.args.made.now.scope) c.items.ensures
      (subst (λ (env : List Binding). P env c.items.result.now) c.in_ok-found.ensures.part.same_scope
      (c.run_turns.ensures.ran m (at_now o now) there beside calc.1)));
}

-- The statements inside a node or a key.

pub run_inside-returns-then-is_empty-clause-ran : goal.run_inside-returns-then-is_empty-clause-ran
run_inside-returns-then-is_empty-clause-ran g t c m h l there since part like calc =
    let empty : length c.args.body.now ≡ 0 =
    eqb-true (length c.args.body.now) 0 (sym c.is_empty.ensures ∙ c.if-is_empty.true) in
    reached_none _ _ _ (all_end m c.args.level.now.functions.now c.args.body.now 0 c.args.made.now.scope
    (omega (arith, empty)))

pub run_inside-returns-then-is_empty-clause-part : goal.run_inside-returns-then-is_empty-clause-part
run_inside-returns-then-is_empty-clause-part g t c = record {
  keeps = g.met.V.View.keeps_itself _;
  same = λ m h. h;
  same_scope = refl;
  longer = omega arith;
  fits = c.requires.stays;
  counted = λ m h. refl;
}

pub run_inside-returns-in_err-run_all-clause-ran : goal.run_inside-returns-in_err-run_all-clause-ran
run_inside-returns-in_err-run_all-clause-ran g t c m h l there since part like calc =
    let within : c.replace-around.new.dest ≡ c.inside_found-within.result = search rules in
    let fits = subst (λ (p : Pending). Fits (c.args.level.now.depth + 1) p (inside_of there) []) (sym within)
    (fits_inside c.args.level.now.depth c.inside_found-within.result c.args.found.now there
    c.inside_found-within.ensures.waiting like) in
    let e : c.from_residual.result ≡ Err c.in_err-run_all.field-0.0 = search rules in
    let inner = c.in_err-run_all.ensures.ran m (record { last = l; old = inside_of there; seen = [] }) h
    (record { since = since; part = part; fits = fits }) calc in
    reached_as _ _ e inner.reached

pub run_inside-returns-in_err-run_all-clause-part : goal.run_inside-returns-in_err-run_all-clause-part
run_inside-returns-in_err-run_all-clause-part g t c =
    let e : c.from_residual.result ≡ Err c.in_err-run_all.field-0.0 = search rules in
    record {
      keeps = c.in_err-run_all.ensures.keeps;
      same = c.in_err-run_all.ensures.same;
      same_scope = stopped _ _ _ e;
      longer = stopped _ _ _ e;
      fits = stopped _ _ _ e;
      counted = λ m h. stopped _ _ _ e;
    }

pub run_inside-returns-clause-ran : goal.run_inside-returns-clause-ran
run_inside-returns-clause-ran g t c m h l there since part like calc =
    let within : c.replace-around.new.dest ≡ c.inside_found-within.result = search rules in
    let fits = subst (λ (p : Pending). Fits (c.args.level.now.depth + 1) p (inside_of there) []) (sym within)
    (fits_inside c.args.level.now.depth c.inside_found-within.result c.args.found.now there
    c.inside_found-within.ensures.waiting like) in
    let inner = c.in_ok-run_all.ensures.ran m (record { last = l; old = inside_of there; seen = [] }) h
    (record { since = since; part = part; fits = fits }) calc in
    inner.reached

pub run_inside-returns-clause-part : goal.run_inside-returns-clause-part
run_inside-returns-clause-part g t c = record {
  keeps = c.in_ok-run_all.ensures.keeps;
  same = c.in_ok-run_all.ensures.same;
  same_scope = c.in_ok-run_all.ensures.same_scope;
  longer = c.in_ok-run_all.ensures.longer;
  fits = record {
    written = c.in_ok-run_all.ensures.fits.written;
    pending = let around : c.replace-around.result ≡ c.args.made.now.pending = search rules in
        ap (λ (p : Pending). p.table.now.groups) around ∙ c.requires.stays.pending;
  };
  counted = λ m h. c.in_ok-run_all.ensures.counted m h;
}

-- One of two lists of statements.

pub run_if-returns-in_err-condition : goal.run_if-returns-in_err-condition
run_if-returns-in_err-condition g t c =
    let e : c.from_residual.result ≡ Err NoMemory = search rules in
    record {
      keeps = c.in_err-condition.ensures.keeps;
      same = c.in_err-condition.ensures.same;
      same_scope = stopped _ _ _ e;
      longer = stopped _ _ _ e;
      fits = stopped _ _ _ e;
      counted = λ m h. stopped _ _ _ e;
      ran = λ m o h b calc.
          let p = c.in_err-condition.ensures.part m h in
          beside_stop_after _ _ _ e p.rest p.is;
    }

pub run_if-returns-then-is_true : goal.run_if-returns-then-is_true
run_if-returns-then-is_true g t c = record {
  keeps = g.met.V.View.keeps_on _ _ _ c.in_ok-condition.ensures.keeps c.run_all.ensures.keeps;
  same = λ m h. c.run_all.ensures.same m (c.in_ok-condition.ensures.same m h);
  same_scope = c.run_all.ensures.same_scope;
  longer = c.run_all.ensures.longer;
  fits = c.run_all.ensures.fits;
  counted = λ m h. counted_after _ _ _ _ _ _ _ _ _ _ (c.in_ok-condition.ensures.asks m h)
      (c.in_ok-condition.ensures.reads m h) (c.run_all.ensures.counted m (c.eval_noting.ensures.same m h));
  ran = λ m o h b calc.
      let inner = c.run_all.ensures.ran m o (c.eval_noting.ensures.same m h) b calc.0 in
      let yes_is : is_true (eval m (expr_view c.args.condition.now) c.args.made.now.scope).value ≡ true =
      ap is_true (sym (c.in_ok-condition.ensures.value m h)) ∙ sym c.is_true.ensures ∙ c.if-is_true.true in
      beside_after _ _ (state_of c.args.made.now.writer (g.V.View.asked c.eval_noting.new.view) c.eval_noting.new.reads)
      (same_state refl refl refl refl (c.in_ok-condition.ensures.asks m h) (c.in_ok-condition.ensures.reads m h))
      (beside_first _ _ _ yes_is inner);
}

pub run_if-returns : goal.run_if-returns
run_if-returns g t c = record {
  keeps = g.met.V.View.keeps_on _ _ _ c.in_ok-condition.ensures.keeps c.run_all-2.ensures.keeps;
  same = λ m h. c.run_all-2.ensures.same m (c.in_ok-condition.ensures.same m h);
  same_scope = c.run_all-2.ensures.same_scope;
  longer = c.run_all-2.ensures.longer;
  fits = c.run_all-2.ensures.fits;
  counted = λ m h. counted_after _ _ _ _ _ _ _ _ _ _ (c.in_ok-condition.ensures.asks m h)
      (c.in_ok-condition.ensures.reads m h) (c.run_all-2.ensures.counted m (c.eval_noting.ensures.same m h));
  ran = λ m o h b calc.
      let inner = c.run_all-2.ensures.ran m o (c.eval_noting.ensures.same m h) b calc.1 in
      let no_is : is_true (eval m (expr_view c.args.condition.now) c.args.made.now.scope).value ≡ false =
      ap is_true (sym (c.in_ok-condition.ensures.value m h)) ∙ sym c.is_true.ensures ∙ c.if-is_true.false in
      beside_after _ _ (state_of c.args.made.now.writer (g.V.View.asked c.eval_noting.new.view) c.eval_noting.new.reads)
      (same_state refl refl refl refl (c.in_ok-condition.ensures.asks m h) (c.in_ok-condition.ensures.reads m h))
      (beside_second _ _ _ no_is inner);
}

-- A name more in scope.

pub run_bound-returns-in_err-push_name : goal.run_bound-returns-in_err-push_name
run_bound-returns-in_err-push_name g t c =
    let e : c.from_residual.result ≡ Err NoMemory = search rules in
    record {
      keeps = g.met.V.View.keeps_itself _;
      same = λ m h. h;
      same_scope = stopped _ _ _ e;
      longer = stopped _ _ _ e;
      fits = stopped _ _ _ e;
      counted = λ m h. stopped _ _ _ e;
      ran = λ m o h b calc.
          beside_stop_here _ e refl;
    }

pub run_bound-returns : goal.run_bound-returns
run_bound-returns g t c = record {
  keeps = c.in_ok-run_all.ensures.keeps;
  same = c.in_ok-run_all.ensures.same;
  same_scope = search rules;
  longer = c.in_ok-run_all.ensures.longer;
  fits = record {
    written = c.in_ok-run_all.ensures.fits.written;
    pending = c.in_ok-run_all.ensures.fits.pending;
  };
  counted = λ m h. c.in_ok-run_all.ensures.counted m h;
  ran = λ m o h b calc.
      let e : c.push_name.new.scope ≡ c.args.made.now.scope ++ new_binding c.args.name.now.text c.args.value ∷ [] =
      c.in_ok-push_name.ensures in
      let P : List Binding → Type 0 =
      λ env. ComposesBeside c.args.level.now.last.now.owed.objects o.old c.args.level.now.depth o.seen
      (body_forest m c.args.level.now.functions.now (stmts_view c.args.body.now) env)
      (state_of c.args.made.now.writer (g.V.View.asked c.args.view.now) c.args.made.now.reads)
      (state_of c.run_all.new.made.writer (g.V.View.asked c.run_all.new.view) c.run_all.new.made.reads)
      c.run_all.new.made.pending {U = Unit {0}} (Ok tt) in
      subst P e (c.in_ok-run_all.ensures.ran m o h b calc);
}

-- A loop.

pub run_turns-loop-item-init : goal.run_turns-loop-item-init
run_turns-loop-item-init g t c = record {
  keeps = g.met.V.View.keeps_itself _;
  same = λ m h. h;
  same_scope = refl;
  longer = omega arith;
  fits = c.requires.stays;
  counted = λ m h. refl;
  going = λ m o h b calc. going_first b.fits;
}

pub run_turns-returns : goal.run_turns-returns
run_turns-returns g t c = record {
  keeps = c.loop-item.invariant.keeps;
  same = c.loop-item.invariant.same;
  same_scope = c.loop-item.invariant.same_scope;
  longer = c.loop-item.invariant.longer;
  fits = c.loop-item.invariant.fits;
  counted = λ m h. c.loop-item.invariant.counted m h;
  ran = λ m o h b calc.
      let go : ℤ → GroupForest = λ i. body_forest m c.args.level.now.functions.now (stmts_view c.args.body.now)
      (c.args.made.now.scope ++ new_binding c.args.name.now.text (value.Int i) ∷ []) in
      going_done (turns_end go c.args.items.now c.loop-item.item-index (omega arith))
      (c.loop-item.invariant.going m o h b calc);
}

pub run_turns-returns-in_err-run_bound : goal.run_turns-returns-in_err-run_bound
run_turns-returns-in_err-run_bound g t c =
    let e : c.from_residual.result ≡ Err c.in_err-run_bound.field-0.0 = search rules in
    record {
      keeps = g.met.V.View.keeps_on _ _ _ c.loop-item.invariant.keeps c.in_err-run_bound.ensures.keeps;
      same = λ m h. c.in_err-run_bound.ensures.same m (c.loop-item.invariant.same m h);
      same_scope = stopped _ _ _ e;
      longer = stopped _ _ _ e;
      fits = stopped _ _ _ e;
      counted = λ m h. stopped _ _ _ e;
      ran = λ m o h b calc.
          let fits : to_z w64 (of_z w64 (get_or c.args.items.now c.loop-item.item-index (pos 0))) ≡ get_or c.args.items.now c.loop-item.item-index (pos 0) = search rules in
          let k = c.loop-item.invariant.going m o h b calc in
          let P : List Binding → ℤ → Type 0 = λ env i. ComposesBeside c.args.level.now.last.now.owed.objects o.old
          c.args.level.now.depth k.now
          (body_forest m c.args.level.now.functions.now (stmts_view c.args.body.now)
          (env ++ new_binding c.args.name.now.text (value.Int i) ∷ []))
          (state_of c.loop-item.made.writer (g.V.View.asked c.loop-item.view) c.loop-item.made.reads)
          (state_of c.run_bound.new.made.writer (g.V.View.asked c.run_bound.new.view) c.run_bound.new.made.reads)
          c.run_bound.new.made.pending {U = Unit {0}} (Err c.in_err-run_bound.field-0.0) in
          let ran = subst (P c.args.made.now.scope) fits
          (subst (λ (env : List Binding). P env
          (to_z w64 (of_z w64 (get_or c.args.items.now c.loop-item.item-index (pos 0)))))
          c.loop-item.invariant.same_scope
          (c.in_err-run_bound.ensures.ran m (at_now o k.now) (c.loop-item.invariant.same m h) (beside_now k.now b k.fits)
          calc)) in
          let go : ℤ → GroupForest = λ i. body_forest m c.args.level.now.functions.now (stmts_view c.args.body.now)
          (c.args.made.now.scope ++ new_binding c.args.name.now.text (value.Int i) ∷ []) in
          going_stop _ _ (turns_at go c.args.items.now c.loop-item.item-index (omega arith)) k ran e;
    }

pub run_turns-loop-item-preserved : goal.run_turns-loop-item-preserved
run_turns-loop-item-preserved g t c = record {
  keeps = g.met.V.View.keeps_on _ _ _ c.loop-item.invariant.keeps c.in_ok-run_bound.ensures.keeps;
  same = λ m h. c.in_ok-run_bound.ensures.same m (c.loop-item.invariant.same m h);
  same_scope = c.in_ok-run_bound.ensures.same_scope ∙ c.loop-item.invariant.same_scope;
  longer = omega (arith, c.loop-item.invariant.longer, c.in_ok-run_bound.ensures.longer);
  fits = c.in_ok-run_bound.ensures.fits;
  counted = λ m h. let e = c.loop-item.invariant.counted m h in
      let f = c.in_ok-run_bound.ensures.counted m (c.loop-item.invariant.same m h) in omega (arith, e, f);
  going = λ m o h b calc.
      let fits : to_z w64 (of_z w64 (get_or c.args.items.now c.loop-item.item-index (pos 0))) ≡ get_or c.args.items.now c.loop-item.item-index (pos 0) = search rules in
      let k = c.loop-item.invariant.going m o h b calc in
      let P : List Binding → ℤ → Type 0 = λ env i. ComposesBeside c.args.level.now.last.now.owed.objects o.old
      c.args.level.now.depth k.now
      (body_forest m c.args.level.now.functions.now (stmts_view c.args.body.now)
      (env ++ new_binding c.args.name.now.text (value.Int i) ∷ []))
      (state_of c.loop-item.made.writer (g.V.View.asked c.loop-item.view) c.loop-item.made.reads)
      (state_of c.run_bound.new.made.writer (g.V.View.asked c.run_bound.new.view) c.run_bound.new.made.reads)
      c.run_bound.new.made.pending {U = Unit {0}} (Ok tt) in
      let ran = subst (P c.args.made.now.scope) fits
      (subst (λ (env : List Binding). P env
      (to_z w64 (of_z w64 (get_or c.args.items.now c.loop-item.item-index (pos 0)))))
      c.loop-item.invariant.same_scope
      (c.in_ok-run_bound.ensures.ran m (at_now o k.now) (c.loop-item.invariant.same m h) (beside_now k.now b k.fits)
      calc)) in
      let go : ℤ → GroupForest = λ i. body_forest m c.args.level.now.functions.now (stmts_view c.args.body.now)
      (c.args.made.now.scope ++ new_binding c.args.name.now.text (value.Int i) ∷ []) in
      going_more (turns_at go c.args.items.now c.loop-item.item-index (omega arith)) k ran;
}

-- A call.

pub run_arguments-returns-in_err-all : goal.run_arguments-returns-in_err-all
run_arguments-returns-in_err-all g t c =
    let e : c.from_residual.result ≡ Err NoMemory = search rules in
    record {
      keeps = g.met.V.View.keeps_itself _;
      same = λ m h. h;
      same_scope = stopped _ _ _ e;
      longer = stopped _ _ _ e;
      fits = stopped _ _ _ e;
      counted = λ m h. stopped _ _ _ e;
      ran = λ m o h b calc.
          beside_stop_here _ e refl;
    }

pub run_arguments-returns-in_err-arguments : goal.run_arguments-returns-in_err-arguments
run_arguments-returns-in_err-arguments g t c =
    let e : c.from_residual-in_err-arguments.result ≡ Err NoMemory = search rules in
    record {
      keeps = c.in_err-arguments.ensures.keeps;
      same = c.in_err-arguments.ensures.same;
      same_scope = stopped _ _ _ e;
      longer = stopped _ _ _ e;
      fits = stopped _ _ _ e;
      counted = λ m h. stopped _ _ _ e;
      ran = λ m o h b calc.
          let p = c.in_err-arguments.ensures.part m h in
          beside_stop_after _ _ _ e p.rest p.is;
    }

pub run_arguments-returns : goal.run_arguments-returns
run_arguments-returns g t c = record {
  keeps = g.met.V.View.keeps_on _ _ _ c.in_ok-arguments.ensures.keeps c.run_call.ensures.keeps;
  same = λ m h. c.run_call.ensures.same m (c.in_ok-arguments.ensures.same m h);
  same_scope = c.run_call.ensures.same_scope;
  longer = c.run_call.ensures.longer;
  fits = c.run_call.ensures.fits;
  counted = λ m h. counted_after _ _ _ _ _ _ _ _ _ _ (c.in_ok-arguments.ensures.asks m h)
      (c.in_ok-arguments.ensures.reads m h) (c.run_call.ensures.counted m (c.evaluate_all.ensures.same m h));
  ran = λ m o h b calc.
      let P : List Value → Type 0 = λ vs. ComposesBeside c.args.level.now.last.now.owed.objects o.old c.args.level.now.depth
      o.seen (call_forest m c.args.level.now.functions.now c.args.site c.args.function vs)
      (state_of c.args.made.now.writer (g.V.View.asked c.evaluate_all.new.view) c.evaluate_all.new.reads)
      (state_of c.run_call.new.made.writer (g.V.View.asked c.run_call.new.view) c.run_call.new.made.reads)
      c.run_call.new.made.pending c.run_call.result in
      let inner = subst P (c.in_ok-arguments.ensures.value m h)
      (c.run_call.ensures.ran m o (c.evaluate_all.ensures.same m h) b tt) in
      beside_after _ _ (state_of c.args.made.now.writer (g.V.View.asked c.evaluate_all.new.view)
      c.evaluate_all.new.reads) (same_state refl refl refl refl (c.in_ok-arguments.ensures.asks m h)
      (c.in_ok-arguments.ensures.reads m h)) (inner);
}

pub run_call-returns-in_err-found : goal.run_call-returns-in_err-found
run_call-returns-in_err-found g t c =
    let e : c.from_residual.result ≡ Err NoMemory = search rules in
    record {
      keeps = g.met.V.View.keeps_itself _;
      same = λ m h. h;
      same_scope = stopped _ _ _ e;
      longer = stopped _ _ _ e;
      fits = stopped _ _ _ e;
      counted = λ m h. stopped _ _ _ e;
      ran = λ m o h b calc.
          beside_stop_here _ e refl;
    }

pub run_call-returns-then-call_is_run : goal.run_call-returns-then-call_is_run
run_call-returns-then-call_is_run g t c = record {
  keeps = c.run_body.ensures.keeps;
  same = c.run_body.ensures.same;
  same_scope = scope_stays _ _ _ c.run_body.ensures.in_hand;
  longer = c.run_body.ensures.longer;
  fits = stays_in_hand _ _ _ _ (c.in_ok-found.ensures.table ∙ c.requires.stays.pending) c.run_body.ensures.in_hand
      c.run_body.ensures.fits;
  counted = λ m h. counted_in_hand _ _ _ _ _ _ _ c.run_body.ensures.in_hand (c.run_body.ensures.counted m h);
  ran = λ m o h b calc.
      let call = Call c.args.function c.args.arguments in
      let x = sibling c.args.site call in
      let k = matched {left = c.take.new.self} x c.new.result c.new.ensures b c.in_ok-found.ensures.found
      c.in_ok-found.ensures.left in
      let there = matching_sibling x (occurrence x o.seen) o.old in
      let runs : true ≡ runs_after c.args.level.now.last.now.owed.objects there call =
      sym c.if-call_is_run.true ∙ c.call_is_run.ensures
      ∙ ap (λ (vs : List Value). call_runs c.args.level.now.last.now.owed.objects c.in_ok-found.found
      (what.Call c.args.function vs)) c.items.ensures
      ∙ call_runs_kept c.args.level.now.last.now.owed.objects c.args.level.now.depth c.in_ok-found.found there call
      k.like in
      beside_in_hand _ _ _ c.run_body.ensures.in_hand
      (beside_run true runs k.fits (c.run_body.ensures.ran m h o.last there c.args.made.now.reads b.since k.part k.like));
}

pub run_call-returns-in_err-enter_call : goal.run_call-returns-in_err-enter_call
run_call-returns-in_err-enter_call g t c =
    let e : c.from_residual-in_err-enter_call.result ≡ Err c.in_err-enter_call.field-0.0 = search rules in
    record {
      keeps = g.met.V.View.keeps_itself _;
      same = λ m h. h;
      same_scope = stopped _ _ _ e;
      longer = stopped _ _ _ e;
      fits = stopped _ _ _ e;
      counted = λ m h. stopped _ _ _ e;
      ran = λ m o h b calc. beside_full _ (failed _ _ e) (search rules) refl;
    }

pub run_call-returns-then-function-level : goal.run_call-returns-then-function-level
run_call-returns-then-function-level g t c = record {
  keeps = g.met.V.View.keeps_itself _;
  same = λ m h. h;
  same_scope = refl;
  longer = call_longer _ _ _ false _ _ c.in_ok-enter_call.ensures.added;
  fits = record {
    written = fits_after (ap (λ (q : WrittenGroups). q.olds) c.in_ok-enter_call.ensures.added) c.requires.stays.written
        c.in_ok-enter_call.ensures.fits;
    pending = c.in_ok-found.ensures.table ∙ c.requires.stays.pending;
  };
  counted = λ m h. let e = ap (λ (q : WrittenGroups). q.reads) c.in_ok-enter_call.ensures.added in omega (arith, e);
  ran = λ m o h b calc.
      let call = Call c.args.function c.args.arguments in
      let x = sibling c.args.site call in
      let k = matched {left = c.take.new.self} x c.new.result c.new.ensures b c.in_ok-found.ensures.found
      c.in_ok-found.ensures.left in
      let there = matching_sibling x (occurrence x o.seen) o.old in
      let runs : false ≡ runs_after c.args.level.now.last.now.owed.objects there call =
      sym c.if-call_is_run.false ∙ c.call_is_run.ensures
      ∙ ap (λ (vs : List Value). call_runs c.args.level.now.last.now.owed.objects c.in_ok-found.found
      (what.Call c.args.function vs)) c.items.ensures
      ∙ call_runs_kept c.args.level.now.last.now.owed.objects c.args.level.now.depth c.in_ok-found.found there call
      k.like in
      let none = body_none m c.args.level.now.functions.now c.args.function c.args.arguments (omega arith) in
      beside_run false runs k.fits (record {
        all = call_alone c.args.level.now.last.now.owed.objects (inside_of there) there c.args.level.now.depth c.args.site
            c.args.function c.args.arguments false
            (meaning_at (meanings m (functions_view c.args.level.now.functions.now)) c.args.function c.args.arguments)
            c.args.made.now.writer c.enter_call.new.self (g.V.View.asked c.args.view.now) c.args.made.now.reads none
            c.in_ok-enter_call.ensures.added;
        part = tt;
        many = λ y. cc;
      });
}

pub run_call-returns-in-Some : goal.run_call-returns-in-Some
run_call-returns-in-Some g t c = record {
  keeps = c.skip_call.ensures.keeps;
  same = c.skip_call.ensures.same;
  same_scope = scope_stays _ _ _ c.skip_call.ensures.in_hand;
  longer = c.skip_call.ensures.longer;
  fits = stays_in_hand _ _ _ _ (c.in_ok-found.ensures.table ∙ c.requires.stays.pending) c.skip_call.ensures.in_hand
      c.skip_call.ensures.fits;
  counted = λ m h. counted_in_hand _ _ _ _ _ _ _ c.skip_call.ensures.in_hand (c.skip_call.ensures.counted m h);
  ran = λ m o h b calc.
      let call = Call c.args.function c.args.arguments in
      let x = sibling c.args.site call in
      let k = matched {left = c.take.new.self} x c.new.result c.new.ensures b c.in_ok-found.ensures.found
      c.in_ok-found.ensures.left in
      let there = matching_sibling x (occurrence x o.seen) o.old in
      let runs : false ≡ runs_after c.args.level.now.last.now.owed.objects there call =
      sym c.if-call_is_run.false ∙ c.call_is_run.ensures
      ∙ ap (λ (vs : List Value). call_runs c.args.level.now.last.now.owed.objects c.in_ok-found.found
      (what.Call c.args.function vs)) c.items.ensures
      ∙ call_runs_kept c.args.level.now.last.now.owed.objects c.args.level.now.depth c.in_ok-found.found there call
      k.like in
      let many = how_many_functions c.args.level.now.functions.now in
      let s = skips c.args.level.now.last.now.owed.objects m (functions_view c.args.level.now.functions.now) o.last
      c.args.site c.args.function c.args.arguments there b.since (omega (arith, many)) k.there (sym runs) in
      let some : c.in_ok-found.found ≡ Some c.in-Some.old = search rules in
      let like = subst (λ (y : Option KeyInfo). Alike c.args.level.now.depth y there) some k.like in
      let like_call = subst (λ (f : Option Found). Alike c.args.level.now.depth (Some c.in-Some.old) f) s.is like in
      let r = c.skip_call.ensures.ran m h o.last s.call c.args.made.now.reads b.since
      (subst (λ (f : Option Found). IsOldPart o.last c.args.level.now.last.now.owed.objects m (inside_of f)) s.is k.part)
      like_call in
      beside_in_hand _ _ _ c.skip_call.ensures.in_hand (beside_run false runs k.fits (reached_at (skips_as c.args.level.now.last.now.owed.objects m
      (functions_view c.args.level.now.functions.now) o.last c.args.level.now.depth c.args.site c.args.function
      c.args.arguments there (state_of c.args.made.now.writer (g.V.View.asked c.args.view.now)
      c.args.made.now.reads) k.there s) r));
}

-- A call that runs.

pub run_body-returns-then-function-level : goal.run_body-returns-then-function-level
run_body-returns-then-function-level g t c = record {
  keeps = g.met.V.View.keeps_itself _;
  same = λ m h. h;
  in_hand = record { scope = refl; pending = refl; reads = refl };
  longer = call_longer _ _ _ true _ _ c.in_ok-enter_empty.ensures.added;
  fits = fits_after (ap (λ (q : WrittenGroups). q.olds) c.in_ok-enter_empty.ensures.added) c.requires.room.fits
      c.in_ok-enter_empty.ensures.fits;
  counted = λ m h. let e = ap (λ (q : WrittenGroups). q.reads) c.in_ok-enter_empty.ensures.added in omega (arith, e);
  ran = λ m h l there mine since part like.
      let none = body_none m c.args.level.now.functions.now c.args.function (arguments_of c.args.arguments)
      (omega arith) in
      record {
        all = call_alone c.args.level.now.last.now.owed.objects (inside_of there) None c.args.level.now.depth c.args.site
            c.args.function (arguments_of c.args.arguments) true
            (meaning_at (meanings m (functions_view c.args.level.now.functions.now)) c.args.function
            (arguments_of c.args.arguments)) c.args.made.now.writer c.enter_empty.new.self
            (g.V.View.asked c.args.view.now) mine none c.in_ok-enter_empty.ensures.added;
        part = tt;
        many = λ y. cc;
      };
}

pub run_body-returns-in_err-enter_empty : goal.run_body-returns-in_err-enter_empty
run_body-returns-in_err-enter_empty g t c =
    let e : c.from_residual.result ≡ Err c.in_err-enter_empty.field-0.0 = search rules in
    record {
      keeps = g.met.V.View.keeps_itself _;
      same = λ m h. h;
      in_hand = stopped _ _ _ e;
      longer = stopped _ _ _ e;
      fits = stopped _ _ _ e;
      counted = λ m h. stopped _ _ _ e;
      ran = λ m h l there mine since part like.
          let one = longer_ran c.args.level.now.last.now.owed.objects (inside_of there) c.args.level.now.depth c.args.site
          c.args.function (arguments_of c.args.arguments)
          (meaning_at (meanings m (functions_view c.args.level.now.functions.now)) c.args.function
          (arguments_of c.args.arguments)) (state_of c.args.made.now.writer (g.V.View.asked c.args.view.now) mine) in
          reached_full _ (failed _ _ e)
          (λ e. let full : length c.args.made.now.writer.groups ≡ most_groups = search rules in omega (arith, one, full))
          (part_ran c.args.level.now.last.now.owed.objects (inside_of there) c.args.level.now.depth c.args.site c.args.function
          (arguments_of c.args.arguments)
          (meaning_at (meanings m (functions_view c.args.level.now.functions.now)) c.args.function
          (arguments_of c.args.arguments)) (state_of c.args.made.now.writer (g.V.View.asked c.args.view.now) mine));
    }

pub run_body-returns-in_err-scope : goal.run_body-returns-in_err-scope
run_body-returns-in_err-scope g t c =
    let e : c.from_residual-in_err-scope.result ≡ Err NoMemory = search rules in
    record {
      keeps = g.met.V.View.keeps_itself _;
      same = λ m h. h;
      in_hand = stopped _ _ _ e;
      longer = stopped _ _ _ e;
      fits = stopped _ _ _ e;
      counted = λ m h. stopped _ _ _ e;
      ran = λ m h l there mine since part like. reached_stop _ e
          (part_ran c.args.level.now.last.now.owed.objects (inside_of there) c.args.level.now.depth c.args.site c.args.function
          (arguments_of c.args.arguments)
          (meaning_at (meanings m (functions_view c.args.level.now.functions.now)) c.args.function
          (arguments_of c.args.arguments)) (state_of c.args.made.now.writer (g.V.View.asked c.args.view.now) mine));
    }

pub run_body-returns-in_err-enter_running : goal.run_body-returns-in_err-enter_running
run_body-returns-in_err-enter_running g t c =
    let e : c.from_residual-in_err-enter_running.result ≡ Err c.in_err-enter_running.field-0.0 = search rules in
    record {
      keeps = g.met.V.View.keeps_itself _;
      same = λ m h. h;
      in_hand = stopped _ _ _ e;
      longer = stopped _ _ _ e;
      fits = stopped _ _ _ e;
      counted = λ m h. stopped _ _ _ e;
      ran = λ m h l there mine since part like.
          let one = longer_ran c.args.level.now.last.now.owed.objects (inside_of there) c.args.level.now.depth c.args.site
          c.args.function (arguments_of c.args.arguments)
          (meaning_at (meanings m (functions_view c.args.level.now.functions.now)) c.args.function
          (arguments_of c.args.arguments)) (state_of c.args.made.now.writer (g.V.View.asked c.args.view.now) mine) in
          reached_full _ (failed _ _ e)
          (λ e. let full : length c.args.made.now.writer.groups ≡ most_groups = search rules in omega (arith, one, full))
          (part_ran c.args.level.now.last.now.owed.objects (inside_of there) c.args.level.now.depth c.args.site c.args.function
          (arguments_of c.args.arguments)
          (meaning_at (meanings m (functions_view c.args.level.now.functions.now)) c.args.function
          (arguments_of c.args.arguments)) (state_of c.args.made.now.writer (g.V.View.asked c.args.view.now) mine));
    }

pub run_body-run_all-requires : goal.run_body-run_all-requires
run_body-run_all-requires g t c κs w =
    let body : c.deref-2.result.now ≡ c.index-level-function.result.body.items = c.deref-2.ensures.value
    ∙ sym (ap (λ (q : Function). q.body.items) c.index-level-function.is) in
    let h = falls_at c.args.level.now.functions.now c.args.function c.index-level-function.result c.deref-2.result.now
    (omega arith) c.index-level-function.is body in
    let is = c.enter_body-around.ensures.writer ∙ c.in_ok-enter_running.ensures.added in
    let long = ap (λ (q : WrittenGroups). length q.groups) is ∙ length-append c.args.made.now.writer.groups _ in
    search rules

pub run_body-returns-in_err-run_all : goal.run_body-returns-in_err-run_all
run_body-returns-in_err-run_all g t c =
    let e : c.from_residual-in_err-run_all.result ≡ Err c.in_err-run_all.field-0.0 = search rules in
    record {
      keeps = c.in_err-run_all.ensures.keeps;
      same = c.in_err-run_all.ensures.same;
      in_hand = stopped _ _ _ e;
      longer = stopped _ _ _ e;
      fits = stopped _ _ _ e;
      counted = λ m h. stopped _ _ _ e;
      ran = λ m h l there mine since part like.
          let below : c.args.function < length c.args.level.now.functions.now = omega arith in
          let slice : c.deref-2.result.now ≡ c.index-level-function.result.body.items = c.deref-2.ensures.value
          ∙ sym (ap (λ (q : Function). q.body.items) c.index-level-function.is) in
          let names = c.deref.ensures.value
          ∙ sym (ap (λ (q : Function). q.parameters.items) c.index-level-function.is) in
          let scope_is = c.enter_body-around.ensures.scope ∙ c.in_ok-scope.ensures
          ∙ ap (λ (vs : List Value). bind c.deref.result.now vs) c.values.ensures in
          let at = body_reached m c.args.level.now.functions.now c.args.function (arguments_of c.args.arguments)
          c.index-level-function.result c.deref-2.result.now _ c.enter_body-around.new.self.scope
          c.args.level.now.last.now.owed.objects c.args.level.now.depth l there c.args.found.now
          c.enter_body-around.new.self.pending below c.index-level-function.is slice
          names
          scope_is since part like
          c.enter_body-around.ensures.pending (λ o b calc. c.in_err-run_all.ensures.ran m o h b calc) in
          let entered_is = c.enter_body-around.ensures.writer ∙ c.in_ok-enter_running.ensures.added in
          body_stop c.args.level.now.last.now.owed.objects (inside_of there) c.args.level.now.depth c.args.site c.args.function
          (arguments_of c.args.arguments) (meaning_at (meanings m (functions_view c.args.level.now.functions.now))
          c.args.function (arguments_of c.args.arguments)) c.args.made.now.writer c.enter_body-around.new.self.writer
          c.run_all.new.made.writer (g.V.View.asked c.args.view.now) (g.V.View.asked c.run_all.new.view) mine
          c.run_all.new.made.reads c.enter_body-around.new.self.reads (first_reads c.args.arguments c.args.found.now) _ _
          c.enter_body-around.ensures.reads entered_is at e refl;
    }

pub run_body-returns-in_err-end_call : goal.run_body-returns-in_err-end_call
run_body-returns-in_err-end_call g t c =
    let e : c.from_residual-in_err-end_call.result ≡ Err NoMemory = search rules in
    record {
      keeps = c.in_ok-run_all.ensures.keeps;
      same = c.in_ok-run_all.ensures.same;
      in_hand = stopped _ _ _ e;
      longer = stopped _ _ _ e;
      fits = stopped _ _ _ e;
      counted = λ m h. stopped _ _ _ e;
      ran = λ m h l there mine since part like.
          let below : c.args.function < length c.args.level.now.functions.now = omega arith in
          let slice : c.deref-2.result.now ≡ c.index-level-function.result.body.items = c.deref-2.ensures.value
          ∙ sym (ap (λ (q : Function). q.body.items) c.index-level-function.is) in
          let names = c.deref.ensures.value
          ∙ sym (ap (λ (q : Function). q.parameters.items) c.index-level-function.is) in
          let scope_is = c.enter_body-around.ensures.scope ∙ c.in_ok-scope.ensures
          ∙ ap (λ (vs : List Value). bind c.deref.result.now vs) c.values.ensures in
          let at = body_reached m c.args.level.now.functions.now c.args.function (arguments_of c.args.arguments)
          c.index-level-function.result c.deref-2.result.now _ c.enter_body-around.new.self.scope
          c.args.level.now.last.now.owed.objects c.args.level.now.depth l there c.args.found.now
          c.enter_body-around.new.self.pending below c.index-level-function.is slice
          names
          scope_is since part like
          c.enter_body-around.ensures.pending (λ o b calc. c.in_ok-run_all.ensures.ran m o h b calc) in
          let entered_is = c.enter_body-around.ensures.writer ∙ c.in_ok-enter_running.ensures.added in
          reached_stop _ e (body_part c.args.level.now.last.now.owed.objects (inside_of there) c.args.level.now.depth c.args.site
          c.args.function (arguments_of c.args.arguments)
          (meaning_at (meanings m (functions_view c.args.level.now.functions.now)) c.args.function
          (arguments_of c.args.arguments)) c.args.made.now.writer c.enter_body-around.new.self.writer c.run_all.new.made.writer
          (g.V.View.asked c.args.view.now) (g.V.View.asked c.run_all.new.view) mine c.run_all.new.made.reads
          c.enter_body-around.new.self.reads (first_reads c.args.arguments c.args.found.now) c.enter_body-around.ensures.reads
          entered_is at);
    }

pub run_body-returns : goal.run_body-returns
run_body-returns g t c = record {
  keeps = c.in_ok-run_all.ensures.keeps;
  same = c.in_ok-run_all.ensures.same;
  in_hand = record {
    scope = c.leave_body-own.ensures.scope ∙ ap (λ (a : Around). a.scope) c.enter_body-around.ensures.around;
    pending = c.leave_body-own.ensures.pending ∙ ap (λ (a : Around). a.pending) c.enter_body-around.ensures.around;
    reads = c.leave_body-own.ensures.reads ∙ ap (λ (a : Around). a.reads) c.enter_body-around.ensures.around;
  };
  longer = let e = running_longer _ _ _ _ _ _ (c.enter_body-around.ensures.writer ∙ c.in_ok-enter_running.ensures.added) in
      let n = ap (λ (q : WrittenGroups). length q.groups) c.leave_body-own.ensures.writer in
      omega (arith, e, n, c.in_ok-run_all.ensures.longer, c.in_ok-end_call.ensures.len);
  fits = fits_after (c.in_ok-end_call.ensures.olds ∙ ap (λ (q : WrittenGroups). q.olds) c.leave_body-own.ensures.writer)
      c.in_ok-run_all.ensures.fits.written
      (let e = c.in_ok-end_call.ensures.len in
      let n = ap (λ (q : WrittenGroups). length q.groups) c.leave_body-own.ensures.writer in
      omega (arith, e, n, c.in_ok-run_all.ensures.fits.written.few));
  counted = λ m h. let a = ap (λ (q : WrittenGroups). q.reads)
      (c.enter_body-around.ensures.writer ∙ c.in_ok-enter_running.ensures.added) in
      let n = ap (λ (l : List ℕ). length l) c.enter_body-around.ensures.reads in
      let f = c.in_ok-run_all.ensures.counted m h in
      let w = ap (λ (q : WrittenGroups). q.reads) c.leave_body-own.ensures.writer in
      let o = ap (λ (l : List ℕ). length l) c.leave_body-own.ensures.own in
      let e = c.in_ok-end_call.ensures.reads in omega (arith, a, n, e, f, w, o);
  ran = λ m h l there mine since part like.
      let below : c.args.function < length c.args.level.now.functions.now = omega arith in
      let slice : c.deref-2.result.now ≡ c.index-level-function.result.body.items = c.deref-2.ensures.value
      ∙ sym (ap (λ (q : Function). q.body.items) c.index-level-function.is) in
      let names = c.deref.ensures.value
      ∙ sym (ap (λ (q : Function). q.parameters.items) c.index-level-function.is) in
      let scope_is = c.enter_body-around.ensures.scope ∙ c.in_ok-scope.ensures
      ∙ ap (λ (vs : List Value). bind c.deref.result.now vs) c.values.ensures in
      let at = body_reached m c.args.level.now.functions.now c.args.function (arguments_of c.args.arguments)
      c.index-level-function.result c.deref-2.result.now _ c.enter_body-around.new.self.scope c.args.level.now.last.now.owed.objects
      c.args.level.now.depth l there c.args.found.now c.enter_body-around.new.self.pending below c.index-level-function.is slice
      names
      scope_is since part like c.enter_body-around.ensures.pending
      (λ o b calc. c.in_ok-run_all.ensures.ran m o h b calc) in
      let entered_is = c.enter_body-around.ensures.writer ∙ c.in_ok-enter_running.ensures.added in
      let left = c.leave_body-own.ensures.writer in
      body_done c.args.level.now.last.now.owed.objects (inside_of there) c.args.level.now.depth c.args.site c.args.function
      (arguments_of c.args.arguments) (meaning_at (meanings m (functions_view c.args.level.now.functions.now))
      c.args.function (arguments_of c.args.arguments)) c.args.made.now.writer c.enter_body-around.new.self.writer
      c.run_all.new.made.writer c.end_call.new.self (g.V.View.asked c.args.view.now)
      (g.V.View.asked c.run_all.new.view) mine c.run_all.new.made.reads c.enter_body-around.new.self.reads
      (first_reads c.args.arguments c.args.found.now)
      c.enter_body-around.ensures.reads entered_is at
      (λ before behind y e is reads. c.in_ok-end_call.ensures.groups before behind y (e ∙ sym c.len-place.ensures)
      (ap (λ (q : WrittenGroups). q.groups) left ∙ is) (reads ∙ sym c.first_reads-first.ensures)
      ∙ ap (λ (r : List ℕ). before ++ (flat_group y.depth y.site y.number y.what r ∷ behind)) c.leave_body-own.ensures.own) (
        c.in_ok-end_call.ensures.next ∙ ap (λ (q : WrittenGroups). q.next) left,
        c.in_ok-end_call.ensures.ran ∙ ap (λ (q : WrittenGroups). q.ran) left,
        c.in_ok-end_call.ensures.calculated ∙ ap (λ (q : WrittenGroups). q.calculated) left,
      );
}

-- Old groups that are skipped.

pub skip_group-returns-then-meet : goal.skip_group-returns-then-meet
skip_group-returns-then-meet g t c = record {
  keeps = c.run_body.ensures.keeps;
  same = c.run_body.ensures.same;
  in_hand = c.run_body.ensures.in_hand;
  longer = c.run_body.ensures.longer;
  fits = c.run_body.ensures.fits;
  counted = c.run_body.ensures.counted;
  ran = λ m h l f mine since part like.
      let what_is = call_what f.what c.in-Call.function c.in-Call.arguments
      (sym (sym c.kind.ensures ∙ c.in-Call.is) ∙ like.kind) in
      let anew : is_owed c.args.level.now.last.now.owed.objects f.inside ≡ true =
      sym (owed_is c.args.level.now.depth c.args.old.now f c.in-Call.function c.in-Call.arguments
      c.args.level.now.last.now.owed.objects like what_is)
      ∙ sym (ap (λ l. meets l c.args.level.now.last.now.owed.objects) c.reads.ensures) ∙ sym c.meet.ensures
      ∙ c.if-meet.true in
      let r = c.run_body.ensures.ran m h l (Some f) mine since part (search rules) in
      reached_at (owed_call m c.args.level.now.last.now.owed.objects (functions_view c.args.level.now.functions.now)
      c.args.level.now.depth c.args.site f c.in-Call.function c.in-Call.arguments
      (state_of c.args.made.now.writer (g.V.View.asked c.args.view.now) mine) what_is anew) r;
}

pub skip_group-returns-in-Node : goal.skip_group-returns-in-Node
skip_group-returns-in-Node g t c =
    let k = c.skip_inside.ensures (ap is_call_kept (sym c.kind.ensures ∙ c.in-Node.is)) in
    record {
      keeps = k.keeps;
      same = k.same;
      in_hand = k.in_hand;
      longer = k.longer;
      fits = k.fits;
      counted = k.counted;
      ran = k.ran;
    }

pub skip_group-returns-in-Key : goal.skip_group-returns-in-Key
skip_group-returns-in-Key g t c =
    let k = c.skip_inside-in-Key.ensures (ap is_call_kept (sym c.kind.ensures ∙ c.in-Key.is)) in
    record {
      keeps = k.keeps;
      same = k.same;
      in_hand = k.in_hand;
      longer = k.longer;
      fits = k.fits;
      counted = k.counted;
      ran = k.ran;
    }

pub skip_group-returns-in-Cell : goal.skip_group-returns-in-Cell
skip_group-returns-in-Cell g t c =
    let k = c.skip_inside-in-Cell.ensures (ap is_call_kept (sym c.kind.ensures ∙ c.in-Cell.is)) in
    record {
      keeps = k.keeps;
      same = k.same;
      in_hand = k.in_hand;
      longer = k.longer;
      fits = k.fits;
      counted = k.counted;
      ran = k.ran;
    }

pub skip_call-returns-in_err-keep_run : goal.skip_call-returns-in_err-keep_run
skip_call-returns-in_err-keep_run g t c =
    let e : c.from_residual.result ≡ Err c.in_err-keep_run.field-0.0 = search rules in
    record {
      keeps = g.met.V.View.keeps_itself _;
      same = λ m h. h;
      in_hand = stopped _ _ _ e;
      longer = stopped _ _ _ e;
      fits = stopped _ _ _ e;
      counted = λ m h. stopped _ _ _ e;
      ran = λ m h l f mine since part like.
          let owed = c.args.level.now.last.now.owed.objects in
          let fs = functions_view c.args.level.now.functions.now in
          let groups = c.args.level.now.last.now.groups in
          let s = state_of c.args.made.now.writer (g.V.View.asked c.args.view.now) mine in
          let index = c.index.ensures.index in
          let whole = quiet_group c.args.level.now.last.now c.args.old.now c.index.result f fs s index c.requires.table
          (search rules) c.in-Some.ensures like part in
          let len = ap (λ (x : ComposerState). length x.groups) whole in
          let sum = length-append c.args.made.now.writer.groups (group_run groups c.index.result c.in-Some.after) in
          reached_full _ (failed _ _ e)
          (λ e. let big = run_is _ _ c.requires.room.fits (c.keep_run.ensures.full (search rules)) in omega (arith, big, len, sum))
          (part_one m owed fs c.args.level.now.depth c.args.site f s);
    }

pub skip_call-returns-in-Some : goal.skip_call-returns-in-Some
skip_call-returns-in-Some g t c = record {
  keeps = g.met.V.View.keeps_itself _;
  same = λ m h. h;
  in_hand = record { scope = refl; pending = refl; reads = refl };
  longer = c.in_ok-keep_run.ensures.longer;
  fits = fits_after (ap (λ (q : WrittenGroups). q.olds) c.in_ok-keep_run.ensures.added) c.requires.room.fits
      c.in_ok-keep_run.ensures.fits;
  counted = λ m h. let reads = ap (λ (w : WrittenGroups). w.reads) c.in_ok-keep_run.ensures.added in omega (arith, reads);
  ran = λ m h l f mine since part like.
      let s = state_of c.args.made.now.writer (g.V.View.asked c.args.view.now) mine in
      record {
        all = run_added _ _ (g.V.View.asked c.args.view.now) mine c.in_ok-keep_run.ensures.added c.requires.room.fits
            ∙ quiet_group c.args.level.now.last.now c.args.old.now c.index.result f
            (functions_view c.args.level.now.functions.now) s c.index.ensures.index c.requires.table (search rules)
            c.in-Some.ensures like part;
        part = tt;
        many = λ y. cc;
      };
}

pub skip_group-returns-in_err-keep_group-in-Call : goal.skip_group-returns-in_err-keep_group-in-Call
skip_group-returns-in_err-keep_group-in-Call g t c =
    let e : c.from_residual.result ≡ Err c.in_err-keep_group-in-Call.field-0.0 = search rules in
    record {
      keeps = g.met.V.View.keeps_itself _;
      same = λ m h. h;
      in_hand = stopped _ _ _ e;
      longer = stopped _ _ _ e;
      fits = stopped _ _ _ e;
      counted = λ m h. stopped _ _ _ e;
      ran = λ m h l f mine since part like.
          let one = longer_than m c.args.level.now.last.now.owed.objects (functions_view c.args.level.now.functions.now)
          c.args.level.now.depth c.args.site f (state_of c.args.made.now.writer (g.V.View.asked c.args.view.now) mine) in
          reached_full _ (failed _ _ e)
          (λ e. let full : length c.args.made.now.writer.groups ≡ most_groups = search rules in omega (arith, one, full))
          (part_one m c.args.level.now.last.now.owed.objects (functions_view c.args.level.now.functions.now)
          c.args.level.now.depth c.args.site f (state_of c.args.made.now.writer (g.V.View.asked c.args.view.now) mine));
    }

pub skip_group-returns-in_ok-keep_group-in-Call : goal.skip_group-returns-in_ok-keep_group-in-Call
skip_group-returns-in_ok-keep_group-in-Call g t c = record {
  keeps = c.skip_all.ensures.keeps;
  same = c.skip_all.ensures.same;
  in_hand = in_hand_on _ _ _ _ (record { scope = refl; pending = refl; reads = refl }) c.skip_all.ensures.in_hand;
  longer =
      longer_on _ _ _ _ (kept_longer _ _ _ _ _ _ _ c.in_ok-keep_group-in-Call.ensures.added) c.skip_all.ensures.longer;
  fits = c.skip_all.ensures.fits;
  counted = λ m h. counted_kept _ _ _ _ _ _ (ap (λ (q : WrittenGroups). q.reads) c.in_ok-keep_group-in-Call.ensures.added)
      (c.skip_all.ensures.counted m h);
  ran = λ m h l f mine since part like.
      let what_is = call_what f.what c.in-Call.function c.in-Call.arguments
      (sym (sym c.kind.ensures ∙ c.in-Call.is) ∙ like.kind) in
      let quiet : is_owed c.args.level.now.last.now.owed.objects f.inside ≡ false =
      sym (owed_is c.args.level.now.depth c.args.old.now f c.in-Call.function c.in-Call.arguments
      c.args.level.now.last.now.owed.objects like what_is)
      ∙ sym (ap (λ l. meets l c.args.level.now.last.now.owed.objects) c.reads.ensures) ∙ sym c.meet.ensures
      ∙ c.if-meet.false in
      let state = kept_state c.args.level.now.depth c.args.site c.args.old.now f c.args.made.now.writer
      c.keep_group.new.writer (g.V.View.asked c.args.view.now) mine like c.in_ok-keep_group-in-Call.ensures.added in
      let r = c.skip_all.ensures.ran m h l f.inside mine
      (since_slice c.args.level.now.functions.now c.front.result.now c.in-Call.function c.front.ensures since) part
      (begins_after _ c.args.old.now f _ _ (sym c.requires.table) c.first_inside.ensures like) in
      reached_at (ap (λ (fs : List Func). skipped_groups m c.args.level.now.last.now.owed.objects f.inside fs
      (c.args.level.now.depth + 1) (state_of c.keep_group.new.writer (g.V.View.asked c.args.view.now) mine))
      (slice_is c.args.level.now.functions.now c.front.result.now c.in-Call.function c.front.ensures)
      ∙ kept_call m c.args.level.now.last.now.owed.objects (functions_view c.args.level.now.functions.now)
      c.args.level.now.depth c.args.site f c.in-Call.function c.in-Call.arguments
      (state_of c.args.made.now.writer (g.V.View.asked c.args.view.now) mine)
      (state_of c.keep_group.new.writer (g.V.View.asked c.args.view.now) mine) what_is quiet state) r;
}

pub skip_inside-returns-in_err-keep_group : goal.skip_inside-returns-in_err-keep_group
skip_inside-returns-in_err-keep_group g t c plain =
    let e : c.from_residual.result ≡ Err c.in_err-keep_group.field-0.0 = search rules in
    record {
      keeps = g.met.V.View.keeps_itself _;
      same = λ m h. h;
      in_hand = stopped _ _ _ e;
      longer = stopped _ _ _ e;
      fits = stopped _ _ _ e;
      counted = λ m h. stopped _ _ _ e;
      ran = λ m h l f mine since part like.
          let one = longer_than m c.args.level.now.last.now.owed.objects (functions_view c.args.level.now.functions.now)
          c.args.level.now.depth c.args.site f (state_of c.args.made.now.writer (g.V.View.asked c.args.view.now) mine) in
          reached_full _ (failed _ _ e)
          (λ e. let full : length c.args.made.now.writer.groups ≡ most_groups = search rules in omega (arith, one, full))
          (part_one m c.args.level.now.last.now.owed.objects (functions_view c.args.level.now.functions.now)
          c.args.level.now.depth c.args.site f (state_of c.args.made.now.writer (g.V.View.asked c.args.view.now) mine));
    }

pub skip_inside-returns : goal.skip_inside-returns
skip_inside-returns g t c plain = record {
  keeps = c.skip_all.ensures.keeps;
  same = c.skip_all.ensures.same;
  in_hand = in_hand_on _ _ _ _ (record { scope = refl; pending = refl; reads = refl }) c.skip_all.ensures.in_hand;
  longer = longer_on _ _ _ _ (kept_longer _ _ _ _ _ _ _ c.in_ok-keep_group.ensures.added) c.skip_all.ensures.longer;
  fits = c.skip_all.ensures.fits;
  counted = λ m h. counted_kept _ _ _ _ _ _ (ap (λ (q : WrittenGroups). q.reads) c.in_ok-keep_group.ensures.added)
      (c.skip_all.ensures.counted m h);
  ran = λ m h l f mine since part like.
      let state = kept_state c.args.level.now.depth c.args.site c.args.old.now f c.args.made.now.writer
      c.keep_group.new.writer (g.V.View.asked c.args.view.now) mine like c.in_ok-keep_group.ensures.added in
      let r = c.skip_all.ensures.ran m h l f.inside mine since part
      (begins_after _ c.args.old.now f _ _ (sym c.requires.table) c.first_inside.ensures like) in
      reached_at (kept_other m c.args.level.now.last.now.owed.objects (functions_view c.args.level.now.functions.now)
      c.args.level.now.depth c.args.site f (state_of c.args.made.now.writer (g.V.View.asked c.args.view.now) mine)
      (state_of c.keep_group.new.writer (g.V.View.asked c.args.view.now) mine)
      (no_call c.args.level.now.depth c.args.old.now f like plain) state) r;
}

pub skip_all-loop-at-init : goal.skip_all-loop-at-init
skip_all-loop-at-init g t c = record {
  keeps = g.met.V.View.keeps_itself _;
  same = λ m h. h;
  in_hand = record { scope = refl; pending = refl; reads = refl };
  longer = omega arith;
  fits = search rules;
  counted = λ m h. refl;
  going = λ m h l tr mine since part begins. left_first begins part;
}

pub skip_all-returns-then-is_end : goal.skip_all-returns-then-is_end
skip_all-returns-then-is_end g t c = record {
  keeps = c.loop-at.invariant.keeps;
  same = c.loop-at.invariant.same;
  in_hand = record {
    scope = c.loop-at.invariant.in_hand.scope;
    pending = c.loop-at.invariant.in_hand.pending;
    reads = c.loop-at.invariant.in_hand.reads;
  };
  longer = omega (arith, c.loop-at.invariant.longer, c.in_ok-keep_run.ensures.longer);
  fits = fits_after (ap (λ (q : WrittenGroups). q.olds) c.in_ok-keep_run.ensures.added) c.loop-at.invariant.fits
      c.in_ok-keep_run.ensures.fits;
  counted = λ m h. let e = c.loop-at.invariant.counted m h in
      let reads = ap (λ (w : WrittenGroups). w.reads) c.in_ok-keep_run.ensures.added in omega (arith, e, reads);
  ran = λ m h l tr mine since part begins.
      let k = c.loop-at.invariant.going m h l tr mine since part begins in
      let q = c.next_call-stop.ensures.quiet k.rest k.begins in
      let added = run_added _ _ (g.V.View.asked c.loop-at.view) mine c.in_ok-keep_run.ensures.added c.loop-at.invariant.fits in
      left_done (left_run k q added) (c.is_end.ensures.end c.if-is_end.true);
}

pub skip_all-returns-then-len-here : goal.skip_all-returns-then-len-here
skip_all-returns-then-len-here g t c = record {
  keeps = c.loop-at.invariant.keeps;
  same = c.loop-at.invariant.same;
  in_hand = tt;
  longer = tt;
  fits = tt;
  counted = λ m h. tt;
  ran = λ m h l tr mine since part begins.
      let k = c.loop-at.invariant.going m h l tr mine since part begins in
      let added = run_added _ _ (g.V.View.asked c.loop-at.view) mine c.in_ok-keep_run.ensures.added c.loop-at.invariant.fits in
      left_memory _ (left_run k (c.next_call-stop.ensures.quiet k.rest k.begins) added) refl;
}

pub skip_all-returns-in_err-keep_run : goal.skip_all-returns-in_err-keep_run
skip_all-returns-in_err-keep_run g t c =
    let e : c.from_residual.result ≡ Err c.in_err-keep_run.field-0.0 = search rules in
    record {
      keeps = c.loop-at.invariant.keeps;
      same = c.loop-at.invariant.same;
      in_hand = stopped _ _ _ e;
      longer = stopped _ _ _ e;
      fits = stopped _ _ _ e;
      counted = λ m h. stopped _ _ _ e;
      ran = λ m h l tr mine since part begins.
          let k = c.loop-at.invariant.going m h l tr mine since part begins in
          let q = c.next_call-stop.ensures.quiet k.rest k.begins in
          left_full _ k q (failed _ _ e) (λ e. run_is _ _ c.loop-at.invariant.fits (c.keep_run.ensures.full (search rules))) refl;
    }

pub skip_all-returns : goal.skip_all-returns
skip_all-returns g t c = record {
  keeps = c.loop-at.invariant.keeps;
  same = c.loop-at.invariant.same;
  in_hand = c.loop-at.invariant.in_hand;
  longer = c.loop-at.invariant.longer;
  fits = c.loop-at.invariant.fits;
  counted = λ m h. c.loop-at.invariant.counted m h;
  ran = λ m h l tr mine since part begins. left_done (c.loop-at.invariant.going m h l tr mine since part begins)
      (ends_past c.args.level.now.last.now.groups c.args.level.now.depth c.loop-at.at (search (rules, arith)));
}

pub skip_all-returns-in_err-skip_group : goal.skip_all-returns-in_err-skip_group
skip_all-returns-in_err-skip_group g t c =
    let e : c.from_residual-in_err-skip_group.result ≡ Err c.in_err-skip_group.field-0.0 = search rules in
    record {
      keeps = g.met.V.View.keeps_on _ _ _ c.loop-at.invariant.keeps c.in_err-skip_group.ensures.keeps;
      same = λ m h. c.in_err-skip_group.ensures.same m (c.loop-at.invariant.same m h);
      in_hand = stopped _ _ _ e;
      longer = stopped _ _ _ e;
      fits = stopped _ _ _ e;
      counted = λ m h. stopped _ _ _ e;
      ran = λ m h l tr mine since part begins.
          let i = c.next_call-stop.result in
          let owed = c.args.level.now.last.now.owed.objects in
          let fs = functions_view c.args.level.now.functions.now in
          let d = c.args.level.now.depth in
          let k0 = c.loop-at.invariant.going m h l tr mine since part begins in
          let added = run_added _ _ (g.V.View.asked c.loop-at.view) mine c.in_ok-keep_run.ensures.added c.loop-at.invariant.fits in
          let k = left_run k0 (c.next_call-stop.ensures.quiet k0.rest k0.begins) added in
          let here = c.is_end.ensures.more c.if-is_end.false in
          let groups = c.args.level.now.last.now.groups in
          let f = left_group groups i k here.0 here.1 in
          let found = layer_found f in
          let same = layer_same groups i f in
          let at : c.depth.result ≡ f.at = c.depth.ensures ∙ ap (λ (q : KeyInfo). (old_group q).depth) c.group-old.ensures ∙ same.depth_is in
          let like = subst (λ n. SameGroup n c.group-old.result found) (sym at)
          (subst (λ (q : KeyInfo). SameGroup f.at q found) (sym c.group-old.ensures) same) in
          let site = c.site.ensures ∙ ap (λ (q : KeyInfo). (old_group q).site) c.group-old.ensures ∙ layer_site groups i f in
          let s = state_of c.keep_run.new.self (g.V.View.asked c.loop-at.view) mine in
          left_stop _ k f (reached_at (moved_group m owed fs found s at site)
          (c.in_err-skip_group.ensures.ran m (c.loop-at.invariant.same m h) l found mine since
          (layer_part f k.parts) like)) e;
    }

pub skip_all-loop-at-preserved : goal.skip_all-loop-at-preserved
skip_all-loop-at-preserved g t c = record {
  keeps = g.met.V.View.keeps_on _ _ _ c.loop-at.invariant.keeps c.in_ok-skip_group.ensures.keeps;
  same = λ m h. c.in_ok-skip_group.ensures.same m (c.loop-at.invariant.same m h);
  in_hand = record {
    scope = c.in_ok-skip_group.ensures.in_hand.scope ∙ c.loop-at.invariant.in_hand.scope;
    pending = c.in_ok-skip_group.ensures.in_hand.pending ∙ c.loop-at.invariant.in_hand.pending;
    reads = c.in_ok-skip_group.ensures.in_hand.reads ∙ c.loop-at.invariant.in_hand.reads;
  };
  longer =
      omega (arith, c.loop-at.invariant.longer, c.in_ok-keep_run.ensures.longer, c.in_ok-skip_group.ensures.longer);
  fits = c.in_ok-skip_group.ensures.fits;
  counted = λ m h.
      let e = c.loop-at.invariant.counted m h in
      let reads = ap (λ (w : WrittenGroups). w.reads) c.in_ok-keep_run.ensures.added in
      let f = c.in_ok-skip_group.ensures.counted m (c.loop-at.invariant.same m h) in omega (arith, e, reads, f);
  going = λ m h l tr mine since part begins.
      let i = c.next_call-stop.result in
      let owed = c.args.level.now.last.now.owed.objects in
      let fs = functions_view c.args.level.now.functions.now in
      let d = c.args.level.now.depth in
      let k0 = c.loop-at.invariant.going m h l tr mine since part begins in
      let added = run_added _ _ (g.V.View.asked c.loop-at.view) mine c.in_ok-keep_run.ensures.added c.loop-at.invariant.fits in
      let k = left_run k0 (c.next_call-stop.ensures.quiet k0.rest k0.begins) added in
      let here = c.is_end.ensures.more c.if-is_end.false in
      let groups = c.args.level.now.last.now.groups in
      let f = left_group groups i k here.0 here.1 in
      let found = layer_found f in
      let same = layer_same groups i f in
      let at : c.depth.result ≡ f.at = c.depth.ensures ∙ ap (λ (q : KeyInfo). (old_group q).depth) c.group-old.ensures ∙ same.depth_is in
      let like = subst (λ n. SameGroup n c.group-old.result found) (sym at)
      (subst (λ (q : KeyInfo). SameGroup f.at q found) (sym c.group-old.ensures) same) in
      let site = c.site.ensures ∙ ap (λ (q : KeyInfo). (old_group q).site) c.group-old.ensures ∙ layer_site groups i f in
      let s = state_of c.keep_run.new.self (g.V.View.asked c.loop-at.view) mine in
      left_more groups i c.index_after-at.result k f c.index_after-at.ensures.after (reached_at (moved_group m owed fs found s at site)
      (c.in_ok-skip_group.ensures.ran m (c.loop-at.invariant.same m h) l found mine since
      (layer_part f k.parts) like));
}

pub skip_all-loop-at-smaller : goal.skip_all-loop-at-smaller
skip_all-loop-at-smaller g t c =
    let here = c.is_end.ensures.more c.if-is_end.false in
    let less = index_grows c.args.level.now.last.now.groups c.next_call-stop.result c.index_after-at.result here.0
    c.index_after-at.ensures.after c.index_after-at.ensures.inside in
    let low = c.next_call-stop.ensures.order in
    omega (arith, less, low)
