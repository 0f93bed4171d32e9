use Rattle.std.proofs.Common.{◌++◌, ap, ◌∙◌, sym}
use Rattle.std.specs.List.{flat_map}
use Rattle.script_lang.specs.Lines.{op_line}
use Rattle.play_run.proofs.Written.{part_next, all_next}
use Rattle.play_run.proofs.frame.write_ops.Goals as goal

pub loop-op-preserved : goal.loop-op-preserved
loop-op-preserved g c =
    let run = c.loop-op.invariant.wrote in
    let next = ap (flat_map op_line) c.in-Some.ensures.cases.0 in
    let done = all_next _ _ _ run.0 (op_line c.in-Some.op.now) _ _ (ap (λ l. run.0 ++ l) (sym next) ∙ run.1) run.2
    c.in-Ok.ensures.says.all in
    record {
      faults = c.in-Ok.ensures.faults ∙ c.loop-op.invariant.faults;
      wrote = (run.0 ++ op_line c.in-Some.op.now, done.split, done.wrote);
    }

pub returns-in-Err-clause-says : goal.returns-in-Err-clause-says
returns-in-Err-clause-says g c =
    let run = c.loop-op.invariant.wrote in
    let next = ap (flat_map op_line) c.in-Some.ensures.cases.0 in
    record {
      all = tt;
      part = part_next _ _ _ run.0 _ _ _ (ap (λ l. run.0 ++ l) (sym next) ∙ run.1) run.2
          c.in-Err.ensures.says.part;
    }
