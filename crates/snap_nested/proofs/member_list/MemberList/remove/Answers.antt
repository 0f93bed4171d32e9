use Rattle.std.proofs.Common.{◌≡◌, ◌∙◌, ap, sym, subst, ℕ, List}
use Rattle.std.specs.Prelude.{slice_set}
use Rattle.snap_ids.specs.IdLists.{without_id}
use Rattle.snap_nested.specs.Members.{member, no_member}
use Rattle.snap_nested.specs.ByName.{by_name, AreListed}
use Rattle.snap_nested.specs.declared.family.Member.{Member}
use Rattle.snap_nested.proofs.ByName.{found, indexed, unfound, none_removed, removed_listed, removed_by_name}
use Rattle.snap_nested.proofs.member_list.MemberList.remove.Goals as goal

pub returns-clause-some : goal.returns-clause-some
returns-clause-some c = subst (λ (l : List Member). c.remove.result ≡ member l c.args.name) c.self.view_is
    (indexed c.self.invariant c.in-Some.at c.in-Some.ensures.within c.remove.result c.remove.ensures.value
    ∙ sym (found c.self.invariant c.in-Some.at c.args.name c.in-Some.ensures.within c.in-Some.ensures.some))

pub returns-in_default-clause-none : goal.returns-in_default-clause-none
returns-in_default-clause-none c = subst (λ (l : List Member). member l c.args.name ≡ no_member) c.self.view_is
    (unfound c.self.invariant c.args.name c.in_default.ensures.none)

pub returns-in_default-clause-gone : goal.returns-in_default-clause-gone
returns-in_default-clause-gone c = none_removed c.args.self.now c.args.name
    (subst (λ (l : List Member). member l c.args.name ≡ no_member) c.self.view_is
    (unfound c.self.invariant c.args.name c.in_default.ensures.none))

pub returns-clause-gone : goal.returns-clause-gone
returns-clause-gone c =
    let n = c.self.inside.count in
    ap (λ (l : List ℕ). by_name n l c.remove.new.self.items) c.clear.ensures
    ∙ ap (λ (l : List Member). by_name n (without_id c.args.name c.self.inside.names) l) c.remove.ensures.items
    ∙ removed_by_name c.self.invariant c.in-Some.at c.args.name c.in-Some.ensures.within c.in-Some.ensures.some
    ∙ ap (λ (l : List Member). slice_set l c.args.name no_member) c.self.view_is

pub invariant_of-self : goal.invariant_of-self
invariant_of-self c = subst (λ (l : List ℕ). AreListed c.self.inside.count l c.remove.new.self.items)
    (sym c.clear.ensures)
    (subst (λ (l : List Member). AreListed c.self.inside.count (without_id c.args.name c.self.inside.names) l)
    (sym c.remove.ensures.items)
    (removed_listed c.self.invariant c.in-Some.at c.args.name c.in-Some.ensures.within c.in-Some.ensures.some))
