use Rattle.std.proofs.Common.{List, arith, sym, ◌∙◌}
use Rattle.rt_groups.specs.declared.groups.Group.{Group}
use Rattle.slot_table.specs.InnerCounts.{bare_groups}
use Rattle.slot_table.proofs.ExchangedBlocks.{blocks_of_bare}
use Rattle.slot_table.proofs.LevelBlocks.{deep_more, level_counts}
use Rattle.slot_table.proofs.table.first_recount.Goals as goal

pub loop-i-preserved : goal.loop-i-preserved
loop-i-preserved c = deep_more (bare_groups c.args.heads.now.items) c.depth_at-depth.result c.args.exchange.from
    c.loop-i.i c.depth_at-in-loop-i.result c.loop-i.invariant c.depth_at-in-loop-i.ensures c.if-depth_at-depth-2.false

pub returns-clause-same : goal.returns-clause-same
returns-clause-same c =
    let all : List Group = bare_groups c.args.heads.now.items in
    let end = c.loop-i-test.false in
    level_counts all c.args.exchange c.depth_at-depth.result
    (blocks_of_bare c.args.heads.now.items c.args.exchange c.requires) (sym c.depth_at-depth.ensures)
    (sym c.depth_at.ensures ∙ c.if-depth_at-depth.false)
    (λ k low lt. c.loop-i.invariant k low (omega (arith, lt, end)))
