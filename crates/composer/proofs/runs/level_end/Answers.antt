use Rattle.std.proofs.Common.{rules, arith, ◌≡◌, ◌<◌, ◌≤◌, ◌+◌}
use Rattle.slot_table.specs.TableGroups.{group_at}
use Rattle.composer.proofs.QuietRuns.{level_end_is, top_end_is}
use Rattle.composer.proofs.runs.level_end.Goals as goal

pub returns-then-depth-eq0 : goal.returns-then-depth-eq0
returns-then-depth-eq0 c =
    top_end_is c.args.last.now.groups c.args.first c.len-then-depth-eq0.result c.args.depth (search (rules, arith)) (search (rules, arith)) (search (rules, arith))

pub returns : goal.returns
returns c =
    let low : c.args.around < c.args.first = search (rules, arith) in
    let high : c.args.first ≤ c.index_after-end.result = search (rules, arith) in
    let depth : c.args.depth ≡ (group_at c.args.last.now.groups c.args.around).depth + 1 = search (rules, arith) in
    level_end_is c.args.last.now.groups c.args.around c.args.first c.index_after-end.result c.args.depth low high
    c.index_after-end.ensures.inside depth c.index_after-end.ensures.after
