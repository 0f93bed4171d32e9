use Rattle.std.proofs.Common.{ap, sym, ◌∙◌, List, length}
use Rattle.snap_nested.specs.declared.family.Member.{Member}
use Rattle.snap_nested.proofs.ByName.{length-by_name}
use Rattle.snap_nested.proofs.member_list.MemberList.count.Goals as goal

pub returns : goal.returns
returns c = sym (length-by_name c.self.inside.count c.self.inside.names c.self.inside.opened.items)
    ∙ ap (λ (l : List Member). length l) c.self.view_is
