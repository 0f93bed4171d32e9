use Rattle.std.proofs.Common.{inl, inr}
use Rattle.snap_world.proofs.kept_ids.add_one_id.Goals as goal

pub returns-clause-needed : goal.returns-clause-needed
returns-clause-needed c = λ i h. elim (c.in_ok-add_base_id.ensures.needed c.args.name i h) [
  | inl t ↦ c.in_ok-add_view_id.ensures.needed i t
  | inr t ↦ inr t
]
