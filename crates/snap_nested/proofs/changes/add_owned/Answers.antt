use Rattle.std.proofs.Common.{◌∙◌, ap, arith, ℕ, List}
use Rattle.rt_values.specs.Maps.{contains}
use Rattle.snap_nested.specs.Members.{member}
use Rattle.snap_nested.specs.declared.family.Member.{Member}
use Rattle.snap_nested.proofs.Members.{any_member}
use Rattle.snap_nested.proofs.Open.{index_of}
use Rattle.snap_nested.proofs.changes.add_owned.Goals as goal

pub returns : goal.returns
returns c =
    let items = c.ids-names.result.now in
    let ms = c.args.members.now in
    let inv = c.loop-index.invariant in
    record {
      rising = inv.rising;
      more = inv.more;
      only = inv.only;
      each = λ i w.
          let p = any_member (λ (m : Member). contains i m.ids) ms w.1 in
          let at = index_of p.0 items (ap (λ (l : List ℕ). contains p.0 l) c.ids-names.ensures.ids
          ∙ c.requires.open_names.kept p.0 i p.1) in
          inv.each at.0 (omega (arith, at.1, c.loop-index-test.false)) i w.0
          (ap (λ (n : ℕ). contains i (member ms n).ids) at.2 ∙ p.1);
    }
