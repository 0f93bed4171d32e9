use Rattle.std.proofs.Common.{◌≡◌, ◌<◌, sym, ap, ◌∙◌, subst, ℕ, List, length}
use Rattle.std.specs.Prelude.{slice_index_or}
use Rattle.snap_nested.specs.Members.{member}
use Rattle.snap_nested.specs.declared.family.Member.{Member}
use Rattle.snap_nested.proofs.ByName.{found, indexed}
use Rattle.snap_nested.proofs.member_list.MemberList.get_near.Goals as goal

pub returns-then-names-index-clause-some : goal.returns-then-names-index-clause-some
returns-then-names-index-clause-some c =
    let within : c.args.index < length c.self.inside.names =
    subst (λ (l : List ℕ). c.args.index < length l) c.ids-names.ensures.ids c.if-index-names.true in
    let is : slice_index_or c.self.inside.names c.args.index 0 ≡ c.args.name =
    ap (λ (l : List ℕ). slice_index_or l c.args.index 0) (sym c.ids-names.ensures.ids) ∙ c.if-names-index.true in
    subst (λ (l : List Member). c.index.result.now ≡ member l c.args.name) c.self.view_is
    (indexed c.self.invariant c.args.index within c.index.result.now c.index.ensures
    ∙ sym (found c.self.invariant c.args.index c.args.name within is))
