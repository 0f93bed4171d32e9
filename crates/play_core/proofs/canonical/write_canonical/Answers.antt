use Rattle.std.proofs.Common.{◌++◌, ap, ◌∙◌, sym}
use Rattle.sexp_text.specs.Layout.{lines}
use Rattle.sexp_text.specs.View.{forest_view}
use Rattle.play_core.proofs.TreeLines.{lines-next}
use Rattle.play_run.proofs.Written.{part_next, all_next}
use Rattle.play_core.proofs.canonical.write_canonical.Goals as goal

pub loop-rest-preserved : goal.loop-rest-preserved
loop-rest-preserved g c =
    let run = c.loop-rest.invariant.wrote in
    let next = lines-next c.split_at.result.0.now c.split_at.result.1.now c.loop-rest.rest.now
    c.split_at.ensures.by_index.0 in
    let done = all_next _ _ _ run.0 (lines (forest_view c.split_at.result.0.now)) _ _
    (ap (λ l. run.0 ++ l) (sym next) ∙ run.1) run.2 c.in-Ok.ensures.says.all in
    record {
      faults = c.in-Ok.ensures.faults ∙ c.loop-rest.invariant.faults;
      wrote = (run.0 ++ lines (forest_view c.split_at.result.0.now), done.split, done.wrote);
    }

pub returns-in-Err-clause-says : goal.returns-in-Err-clause-says
returns-in-Err-clause-says g c =
    let run = c.loop-rest.invariant.wrote in
    let next = lines-next c.split_at.result.0.now c.split_at.result.1.now c.loop-rest.rest.now
    c.split_at.ensures.by_index.0 in
    record {
      all = tt;
      part = part_next _ _ _ run.0 _ _ _ (ap (λ l. run.0 ++ l) (sym next) ∙ run.1) run.2
          c.in-Err.ensures.says.part;
    }
