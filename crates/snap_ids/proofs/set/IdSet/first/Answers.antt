use Rattle.std.proofs.Common.{◌≡◌, subst, ℕ, List}
use Rattle.snap_ids.specs.IdLists.{IsRising, rest_from}
use Rattle.snap_ids.specs.IdWindows.{IsLeastFrom}
use Rattle.snap_ids.specs.IdBlocks.{block_ids}
use Rattle.snap_ids.specs.declared.blocks.Block.{Block}
use Rattle.snap_ids.proofs.Members.{rest_first}
use Rattle.snap_ids.proofs.BlockIds.{rising_blocks}
use Rattle.snap_ids.proofs.set.IdSet.first.Goals as goal

pub returns-clause-rest : goal.returns-clause-rest
returns-clause-rest c = subst (λ (l : List ℕ). rest_from c.first_at.result l ≡ l) c.self.view_is
    (rest_first (block_ids c.self.inside.blocks.items) c.first_at.result
    (rising_blocks c.self.inside.blocks.items c.self.inside.sound.0)
    (subst (λ (l : List Block). IsLeastFrom 0 (block_ids l) c.first_at.result) c.deref.ensures c.first_at.ensures))

pub returns-clause-rising : goal.returns-clause-rising
returns-clause-rising c =
    subst IsRising c.self.view_is (rising_blocks c.self.inside.blocks.items c.self.inside.sound.0)
