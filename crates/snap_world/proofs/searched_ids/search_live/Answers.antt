use Rattle.snap_world.proofs.searched_ids.search_live.Goals as goal

pub returns : goal.returns
returns c = record { own = c.in_ok-own.ensures; base = c.find_base-base.ensures }
