use Rattle.std.proofs.Common.{◌<◌, ◌≤◌, length, arith}
use Rattle.slot_table.specs.TableGroups.{group_at}
use Rattle.composer.proofs.Layers.{walk_none, walk_over, walk_into}
use Rattle.composer.proofs.SkipLoops.{index_grows}
use Rattle.composer.proofs.runs.next_call_around.Goals as goal

pub loop-next-init : goal.loop-next-init
loop-next-init c = record {
  low = omega arith;
  inside = c.requires.inside;
  quiet = λ ls begins. walk_none c.args.last.now.owed.objects c.args.last.now.groups c.args.depth c.args.first ls begins;
}

pub loop-next-smaller-then-after-owed : goal.loop-next-smaller-then-after-owed
loop-next-smaller-then-after-owed c =
    let more = c.loop-next-test.true in
    let len = c.len.ensures in
    index_grows c.args.last.now.groups c.loop-next.next c.index_after-after.result (omega (arith, more, len))
    c.index_after-after.ensures.after c.index_after-after.ensures.inside

pub loop-next-preserved-then-after-owed : goal.loop-next-preserved-then-after-owed
loop-next-preserved-then-after-owed c =
    let groups = c.args.last.now.groups in
    let i = c.loop-next.next in
    let j = c.index_after-after.result in
    let more = c.loop-next-test.true in
    let len = c.len.ensures in
    let here : i < length groups = omega (arith, more, len) in
    let less = index_grows groups i j here c.index_after-after.ensures.after c.index_after-after.ensures.inside in
    let shallow = c.if-depth.false in
    let depth = c.depth.ensures in
    let deep : c.args.depth ≤ (group_at groups i).depth = omega (arith, shallow, depth) in
    let low = c.loop-next.invariant.low in
    let before = c.if-after-owed.true in
    record {
      low = omega (arith, low, less);
      inside = c.index_after-after.ensures.inside;
      quiet = λ ls begins.
          walk_over c.args.last.now.owed.objects groups c.args.depth c.args.first i j ls
          (c.loop-next.invariant.quiet ls begins) low here c.index_after-after.ensures.inside deep
          c.index_after-after.ensures.after (omega (arith, less))
          (c.requires.quiet i j low before c.index_after-after.ensures.inside);
    }

pub loop-next-preserved : goal.loop-next-preserved
loop-next-preserved c =
    let groups = c.args.last.now.groups in
    let i = c.loop-next.next in
    let more = c.loop-next-test.true in
    let len = c.len.ensures in
    let here : i < length groups = omega (arith, more, len) in
    let shallow = c.if-depth.false in
    let depth = c.depth.ensures in
    let deep : c.args.depth ≤ (group_at groups i).depth = omega (arith, shallow, depth) in
    let low = c.loop-next.invariant.low in
    record {
      low = omega (arith, low);
      inside = omega (arith, here);
      quiet = λ ls begins.
          walk_into c.args.last.now.owed.objects groups c.args.depth c.args.first i ls
          (c.loop-next.invariant.quiet ls begins) low here deep (c.is_skipped_alone.ensures c.if-is_skipped_alone.false);
    }
