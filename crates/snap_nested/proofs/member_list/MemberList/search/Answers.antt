use Rattle.std.proofs.Common.{◌≡◌, sym, ◌∙◌, subst, List}
use Rattle.snap_nested.specs.Members.{no_member, member}
use Rattle.snap_nested.specs.declared.family.Member.{Member}
use Rattle.snap_nested.proofs.ByName.{found, indexed, unfound}
use Rattle.snap_nested.proofs.member_list.MemberList.search.Goals as goal

pub returns-in-Some-clause-some : goal.returns-in-Some-clause-some
returns-in-Some-clause-some c = subst (λ (l : List Member). c.index.result.now ≡ member l c.args.name) c.self.view_is
    (indexed c.self.invariant c.in-Some.at c.in-Some.ensures.within c.index.result.now c.index.ensures
    ∙ sym (found c.self.invariant c.in-Some.at c.args.name c.in-Some.ensures.within c.in-Some.ensures.some))

pub returns-in-None-clause-none : goal.returns-in-None-clause-none
returns-in-None-clause-none c = subst (λ (l : List Member). member l c.args.name ≡ no_member) c.self.view_is
    (unfound c.self.invariant c.args.name c.in-None.ensures.none)
