use Rattle.std.proofs.Common.{◌≡◌, ◌∙◌, ap, refl, subst, List, length}
use Rattle.snap_nested.specs.Members.{member, without_invalid}
use Rattle.snap_nested.specs.ByName.{by_name}
use Rattle.snap_nested.specs.declared.family.Member.{Member}
use Rattle.snap_nested.proofs.ByName.{lengths, each_name}
use Rattle.snap_nested.proofs.member_list.MemberList.remove_invalid.Goals as goal

pub returns-clause-count : goal.returns-clause-count
returns-clause-count c =
    lengths c.self.invariant c.remove_all_invalid.new.opened.items c.remove_all_invalid.ensures.count
    ∙ ap (λ (l : List Member). length l) c.self.view_is

pub returns-clause-each : goal.returns-clause-each
returns-clause-each c = λ n. subst (λ (l : List Member).
    member (by_name c.self.inside.count c.self.inside.names c.remove_all_invalid.new.opened.items) n
    ≡ without_invalid c.args.own.now (member l n)) c.self.view_is
    (each_name c.self.invariant c.remove_all_invalid.new.opened.items c.remove_all_invalid.ensures.count
    (λ o p. p ≡ without_invalid c.args.own.now o) refl (λ j low. c.remove_all_invalid.ensures.each j) n)
