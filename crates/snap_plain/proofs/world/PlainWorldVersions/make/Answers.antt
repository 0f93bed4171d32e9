use Rattle.std.proofs.Common.{◌≡◌, ◌+◌, length, map, ◌∙◌, ap, length-append}
use Rattle.snap_plain.proofs.Shapes.{shaped_made}
use Rattle.snap_plain.proofs.world.PlainWorldVersions.make.Goals as goal
use Rattle.snap_api.specs.World.{with_object}

pub invariant_of-self-2-clause-shaped : goal.invariant_of-self-2-clause-shaped
invariant_of-self-2-clause-shaped g c =
    let objects = c.args.self.now.objects.items in
    let more : length c.push.new.self.items ≡ length objects + 1 = ap length c.in-Ok.ensures.items
    ∙ length-append objects _ in
    shaped_made (length objects) _ c.args.self.now.snapshots.items c.in_ok-snapshots.snapshots.items _ more
    (c.in_ok-snapshots.ensures ∙ ap (map (with_object _)) c.deref.ensures.value) c.args.self.now.shaped
