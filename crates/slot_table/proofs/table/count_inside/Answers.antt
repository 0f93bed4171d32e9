use Rattle.std.proofs.Common.{◌≡◌, ◌<◌, List, arith, length, refl, get_or}
use Rattle.std.proofs.lemmas.List.{length-map}
use Rattle.rt_groups.specs.declared.groups.Group.{Group}
use Rattle.slot_table.specs.TableGroups.{group_at}
use Rattle.slot_table.specs.InnerCounts.{bare_groups}
use Rattle.slot_table.proofs.InnerCounts.{counted}
use Rattle.slot_table.proofs.JoinedGroups.{at_is}
use Rattle.slot_table.proofs.table.count_inside.Goals as goal

pub loop-next-preserved : goal.loop-next-preserved
loop-next-preserved c =
    let gs : List Group = bare_groups c.args.heads.now.items in
    let more = c.loop-next-test.true in
    let long = c.len.ensures in
    let same : length gs ≡ length c.args.heads.now.items = length-map c.args.heads.now.items _ in
    let inside : c.loop-next.next < length gs = omega (arith, more, long, same) in
    let deeper = c.if-depth_at-depth.false in
    let is = c.depth_at.ensures in
    counted gs c.args.counts.now (group_at gs c.loop-next.next) c.args.i c.loop-next.next
    (get_or c.args.counts.now c.loop-next.next 0) c.depth_at-depth.result c.requires.after refl (inside)
    (at_is gs c.loop-next.next inside) (omega (arith, deeper, is)) c.loop-next.invariant
