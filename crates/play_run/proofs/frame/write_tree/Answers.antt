use Rattle.std.proofs.Common.{rules, ◌<◌, ◌++◌, ◌+◌, ap, ◌∙◌, sym, drop, length}
use Rattle.slot_table.specs.TableGroups.{group_at}
use Rattle.script_lang.specs.GroupLines.{group_lines, group_line}
use Rattle.play_run.proofs.Written.{part_next, all_next, group_lines_at}
use Rattle.play_run.proofs.frame.write_tree.Goals as goal

pub loop-i-preserved : goal.loop-i-preserved
loop-i-preserved g c =
    let run = c.loop-i.invariant.wrote in
    let gs = c.args.table.now.groups in
    let i = c.loop-i.i in
    let low : i < length gs = search rules in
    let next = group_lines_at c.loop-i.open_groups gs i low in
    let done = all_next _ _ _ run.0 (group_line c.loop-i.open_groups (group_at gs i)) _ _
    (ap (λ l. run.0 ++ l) (sym next) ∙ run.1) run.2 c.in-Ok.ensures.says.all in
    record {
      faults = c.in-Ok.ensures.faults ∙ c.loop-i.invariant.faults;
      wrote = (
        run.0 ++ group_line c.loop-i.open_groups (group_at gs i),
        ap (λ o. (run.0 ++ group_line c.loop-i.open_groups (group_at gs i)) ++ group_lines o (drop (i + 1) gs))
            c.in-Ok.ensures.opened ∙ done.split,
        done.wrote,
      );
    }

pub returns-in-Err-clause-says : goal.returns-in-Err-clause-says
returns-in-Err-clause-says g c =
    let run = c.loop-i.invariant.wrote in
    let low : c.loop-i.i < length c.args.table.now.groups = search rules in
    let next = group_lines_at c.loop-i.open_groups c.args.table.now.groups c.loop-i.i low in
    record {
      all = tt;
      part = part_next _ _ _ run.0 _ _ _ (ap (λ l. run.0 ++ l) (sym next) ∙ run.1) run.2
          c.in-Err.ensures.says.part;
    }
