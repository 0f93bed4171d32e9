use Rattle.std.proofs.Common.{◌≡◌, ◌+◌, subst, ℕ, List}
use Rattle.snap_ids.specs.IdLists.{rest_from, ids_above}
use Rattle.snap_ids.specs.IdWindows.{IsLeastFrom}
use Rattle.snap_ids.specs.IdBlocks.{block_ids}
use Rattle.snap_ids.specs.declared.blocks.Block.{Block}
use Rattle.snap_ids.proofs.Members.{rest_above}
use Rattle.snap_ids.proofs.BlockIds.{rising_blocks}
use Rattle.snap_ids.proofs.set.IdSet.next_above.Goals as goal

pub returns : goal.returns
returns c = subst (λ (l : List ℕ). rest_from c.next_id.result l ≡ ids_above c.args.id l) c.self.view_is
    (rest_above c.args.id (block_ids c.self.inside.blocks.items) c.next_id.result
    (rising_blocks c.self.inside.blocks.items c.self.inside.sound.0)
    (subst (λ (l : List Block). IsLeastFrom (c.args.id + 1) (block_ids l) c.next_id.result) c.deref.ensures
    c.next_id.ensures))
