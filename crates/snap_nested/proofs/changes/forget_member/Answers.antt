use Rattle.std.proofs.Common.{ap}
use Rattle.snap_nested.specs.declared.family.Member.{Member}
use Rattle.snap_nested.proofs.Forgetting.{forgotten, forgotten_none}
use Rattle.snap_nested.proofs.changes.forget_member.Goals as goal

pub returns-in_default : goal.returns-in_default
returns-in_default c =
    forgotten_none c.args.members.now c.remove.new.self c.args.name c.remove.ensures.gone c.in_default.ensures.none

pub returns : goal.returns
returns c = forgotten c.args.members.now c.remove.new.self c.remove_invalid.new.self c.in-Some.gone.ids c.args.name
    c.remove.ensures.gone (ap (λ (m : Member). m.ids) c.in-Some.ensures.some) c.remove_invalid.ensures.count
    c.remove_invalid.ensures.each
