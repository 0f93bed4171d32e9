use Rattle.std.proofs.Common.{◌≡◌, ◌∙◌, ap, refl, subst, List, length}
use Rattle.snap_nested.specs.Members.{member}
use Rattle.snap_nested.specs.Unused.{without_unused}
use Rattle.snap_nested.specs.ByName.{by_name}
use Rattle.snap_nested.specs.declared.family.Member.{Member}
use Rattle.snap_nested.proofs.ByName.{lengths, each_name}
use Rattle.snap_nested.proofs.member_list.MemberList.remove_unused.Goals as goal

pub returns-clause-count : goal.returns-clause-count
returns-clause-count c =
    lengths c.self.invariant c.remove_all_unused.new.opened.items c.remove_all_unused.ensures.count
    ∙ ap (λ (l : List Member). length l) c.self.view_is

pub returns-clause-each : goal.returns-clause-each
returns-clause-each c = λ n. subst (λ (l : List Member).
    member (by_name c.self.inside.count c.self.inside.names c.remove_all_unused.new.opened.items) n
    ≡ without_unused c.args.unused.now (member l n)) c.self.view_is
    (each_name c.self.invariant c.remove_all_unused.new.opened.items c.remove_all_unused.ensures.count
    (λ o p. p ≡ without_unused c.args.unused.now o) refl (λ j low. c.remove_all_unused.ensures.each j) n)
