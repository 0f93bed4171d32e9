use Rattle.std.proofs.Common.{◌∙◌, sym, ap, inl}
use Rattle.rt_values.specs.Maps.{contains}
use Rattle.snap_nested.specs.declared.family.Member.{Member}
use Rattle.snap_nested.proofs.Members.{none_left}
use Rattle.snap_nested.proofs.changes.add_member_ids.Goals as goal

pub returns-in_default : goal.returns-in_default
returns-in_default c = record {
  rising = c.requires;
  more = λ i h. h;
  only = λ i h. inl h;
  each = λ i w. absurd (none_left i (sym (ap (λ (m : Member). contains i m.ids) c.in_default.ensures.none) ∙ w.1));
}
