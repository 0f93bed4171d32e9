use Rattle.std.proofs.Common.{◌≡◌, ◌<◌, length, sym, subst, ◌∙◌, ap}
use Rattle.std.proofs.lemmas.List.{get_or_default}
use Rattle.snap_api.specs.World.{no_snapshot, snapshot_of}
use Rattle.snap_api.specs.declared.data.Snapshot.{Snapshot}
use Rattle.snap_plain.specs.Plain.{world_of}
use Rattle.snap_plain.proofs.Tests.{merges_free}
use Rattle.snap_plain.proofs.world.PlainWorld.find_conflict.Goals as goal

pub least_conflict-requires-clause-base : goal.least_conflict-requires-clause-base
least_conflict-requires-clause-base g c =
    let w = world_of c.args.self.now in
    let shot : c.index-shot.result.now ≡ snapshot_of w c.args.name = c.index-shot.ensures
    ∙ get_or_default _ _ _ no_snapshot c.requires.known in
    ap (λ (s : Snapshot). length s.base) shot ∙ (c.args.self.now.shaped c.args.name c.requires.known).0
    ∙ ap length (sym c.deref.ensures.value)

pub least_conflict-requires-clause-own : goal.least_conflict-requires-clause-own
least_conflict-requires-clause-own g c =
    let w = world_of c.args.self.now in
    let shot : c.index-shot.result.now ≡ snapshot_of w c.args.name = c.index-shot.ensures
    ∙ get_or_default _ _ _ no_snapshot c.requires.known in
    ap (λ (s : Snapshot). length s.view) shot ∙ (c.args.self.now.shaped c.args.name c.requires.known).1
    ∙ ap length (sym c.deref.ensures.value)

pub least_conflict-requires-clause-current : goal.least_conflict-requires-clause-current
least_conflict-requires-clause-current g c =
    let w = world_of c.args.self.now in
    let shot : c.index-shot.result.now ≡ snapshot_of w c.args.name = c.index-shot.ensures
    ∙ get_or_default _ _ _ no_snapshot c.requires.known in
    let there : c.index-shot.result.now.parent < length w.snapshots =
    subst (λ (s : Snapshot). s.parent < length w.snapshots) (sym shot) c.requires.above in
    let above : c.index-above.result.now ≡ snapshot_of w c.index-shot.result.now.parent = c.index-above.ensures
    ∙ get_or_default _ _ _ no_snapshot there in
    ap (λ (s : Snapshot). length s.view) above ∙ (c.args.self.now.shaped c.index-shot.result.now.parent there).1
    ∙ ap length (sym c.deref.ensures.value)

pub returns-clause-free : goal.returns-clause-free
returns-clause-free g c =
    let w = world_of c.args.self.now in
    let shot : c.index-shot.result.now ≡ snapshot_of w c.args.name = c.index-shot.ensures
    ∙ get_or_default _ _ _ no_snapshot c.requires.known in
    let there : c.index-shot.result.now.parent < length w.snapshots =
    subst (λ (s : Snapshot). s.parent < length w.snapshots) (sym shot) c.requires.above in
    let above : c.index-above.result.now ≡ snapshot_of w c.index-shot.result.now.parent = c.index-above.ensures
    ∙ get_or_default _ _ _ no_snapshot there in
    λ free. c.least_conflict.ensures.free
    (merges_free g.P.Policy.is_free_merge w c.args.name _ _ _ shot above c.deref.ensures.value free)
