use Rattle.std.proofs.Common.{arith}
use Rattle.rt_groups.specs.PreorderGroups.{flat_group}
use Rattle.slot_table.proofs.GroupRuns.{run_pushed}
use Rattle.slot_table.proofs.storage.TableBuilder.share_run.Goals as goal

pub loop-i-preserved : goal.loop-i-preserved
loop-i-preserved c =
    let low = c.loop-i.invariant.0 in
    let more = c.loop-i-test.true in
    let inside = c.requires.inside in
    let head = c.head.ensures in
    let slots = c.slot.ensures in (
      omega (arith, low),
      run_pushed c.args.self.now c.args.groups.now c.loop-i.groups c.push_sharing.new.self _
          c.args.from c.loop-i.i low (omega (arith, more, inside))
          (λ k. flat_group (head.depth k) (head.site k) (head.number k) (slots.what k) (slots.reads k))
          c.loop-i.invariant.1 c.in_ok-push_sharing.ensures.added,
    )
