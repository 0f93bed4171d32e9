use Rattle.std.proofs.Common.{◌≤◌, ◌+◌, ◌∙◌, get_or, take, drop, ap, sym, subst}
use Rattle.std.specs.Vec.Iter.{into_iter_items}
use Rattle.slot_table.specs.declared.runs.KeptRun.{KeptRun}
use Rattle.slot_table.proofs.ShrunkItems.{run_fits, rest_fits, next_run, swept_more}
use Rattle.slot_table.proofs.runs.shrink_items.Goals as goal

-- A run that keeps nothing.
abbrev no_run : KeptRun
no_run = record { gap = 0; from = 0; to = 0 }

pub put_items-requires-clause-inside : goal.put_items-requires-clause-inside
put_items-requires-clause-inside g c =
    let fits = run_fits c.args.items.now.items (into_iter_items c.into_iter-fresh.result) c.args.runs.now
    c.loop-run.items.items (into_iter_items c.loop-run.fresh) c.loop-run.at c.loop-run.run-index no_run
    c.loop-run.invariant c.loop-run-test.true in
    fits.put

pub put_items-requires-clause-enough : goal.put_items-requires-clause-enough
put_items-requires-clause-enough g c =
    let fits = run_fits c.args.items.now.items (into_iter_items c.into_iter-fresh.result) c.args.runs.now
    c.loop-run.items.items (into_iter_items c.loop-run.fresh) c.loop-run.at c.loop-run.run-index no_run
    c.loop-run.invariant c.loop-run-test.true in
    fits.enough

pub move_items-requires-clause-down : goal.move_items-requires-clause-down
move_items-requires-clause-down g c =
    let fits = run_fits c.args.items.now.items (into_iter_items c.into_iter-fresh.result) c.args.runs.now
    c.loop-run.items.items (into_iter_items c.loop-run.fresh) c.loop-run.at c.loop-run.run-index no_run
    c.loop-run.invariant c.loop-run-test.true in
    fits.down

pub move_items-requires-clause-order : goal.move_items-requires-clause-order
move_items-requires-clause-order g c =
    let fits = run_fits c.args.items.now.items (into_iter_items c.into_iter-fresh.result) c.args.runs.now
    c.loop-run.items.items (into_iter_items c.loop-run.fresh) c.loop-run.at c.loop-run.run-index no_run
    c.loop-run.invariant c.loop-run-test.true in
    fits.order

pub move_items-requires-clause-inside : goal.move_items-requires-clause-inside
move_items-requires-clause-inside g c =
    let fits = run_fits c.args.items.now.items (into_iter_items c.into_iter-fresh.result) c.args.runs.now
    c.loop-run.items.items (into_iter_items c.loop-run.fresh) c.loop-run.at c.loop-run.run-index no_run
    c.loop-run.invariant c.loop-run-test.true in
    subst (λ n. (get_or c.args.runs.now c.loop-run.run-index no_run).to ≤ n) (sym c.put_items.ensures.long) fits.inside

pub loop-run-preserved : goal.loop-run-preserved
loop-run-preserved g c =
    let i = c.loop-run.run-index in
    let rs = c.args.runs.now in
    let olds = c.args.items.now.items in
    let fresh = into_iter_items c.into_iter-fresh.result in
    let rest = into_iter_items c.loop-run.fresh in
    swept_more olds fresh rs c.loop-run.items.items c.put_items.new.items.items c.move_items.new.items.items rest
    (into_iter_items c.put_items.new.fresh) c.loop-run.at (get_or rs i no_run)
    (drop (i + 1) rs)
    (next_run olds fresh rs c.loop-run.items.items rest c.loop-run.at i no_run c.loop-run.invariant c.loop-run-test.true)
    c.put_items.ensures.long c.put_items.ensures.before c.put_items.ensures.after c.put_items.ensures.rest
    c.move_items.ensures.long c.move_items.ensures.before c.move_items.ensures.after

pub overflow_sub-at : goal.overflow_sub-at
overflow_sub-at g c =
    let fits = run_fits c.args.items.now.items (into_iter_items c.into_iter-fresh.result) c.args.runs.now
    c.loop-run.items.items (into_iter_items c.loop-run.fresh) c.loop-run.at c.loop-run.run-index no_run
    c.loop-run.invariant c.loop-run-test.true in
    fits.order

pub overflow_sub-len : goal.overflow_sub-len
overflow_sub-len g c =
    let fits = rest_fits c.args.items.now.items c.args.fresh.items (into_iter_items c.into_iter-fresh.result)
    c.args.runs.now c.loop-run.items.items (into_iter_items c.loop-run.fresh) c.loop-run.at c.loop-run.run-index c.args.len
    c.into_iter-fresh.ensures.rest c.loop-run.invariant c.loop-run-test.false c.requires.len_is c.requires.fewer in
    fits.low

pub put_items-requires-2-clause-inside : goal.put_items-requires-2-clause-inside
put_items-requires-2-clause-inside g c =
    let fits = rest_fits c.args.items.now.items c.args.fresh.items (into_iter_items c.into_iter-fresh.result)
    c.args.runs.now c.loop-run.items.items (into_iter_items c.loop-run.fresh) c.loop-run.at c.loop-run.run-index c.args.len
    c.into_iter-fresh.ensures.rest c.loop-run.invariant c.loop-run-test.false c.requires.len_is c.requires.fewer in
    fits.put

pub put_items-requires-2-clause-enough : goal.put_items-requires-2-clause-enough
put_items-requires-2-clause-enough g c =
    let fits = rest_fits c.args.items.now.items c.args.fresh.items (into_iter_items c.into_iter-fresh.result)
    c.args.runs.now c.loop-run.items.items (into_iter_items c.loop-run.fresh) c.loop-run.at c.loop-run.run-index c.args.len
    c.into_iter-fresh.ensures.rest c.loop-run.invariant c.loop-run-test.false c.requires.len_is c.requires.fewer in
    fits.enough

pub returns : goal.returns
returns g c =
    let items = c.put_items-2.new.items.items in
    let fits = rest_fits c.args.items.now.items c.args.fresh.items (into_iter_items c.into_iter-fresh.result)
    c.args.runs.now c.loop-run.items.items (into_iter_items c.loop-run.fresh) c.loop-run.at c.loop-run.run-index c.args.len
    c.into_iter-fresh.ensures.rest c.loop-run.invariant c.loop-run-test.false c.requires.len_is c.requires.fewer in
    c.truncate.ensures.items ∙ ap (λ n. take n items) fits.sum ∙ c.put_items-2.ensures.before ∙ fits.same
