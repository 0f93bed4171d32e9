use Rattle.std.proofs.Common.{arith, subst}
use Rattle.recompose_scopes.specs.Scopes.{own_reads}
use Rattle.recompose_scopes.specs.Owed.{IsOwedList}
use Rattle.composer.specs.OldSiblings.{LastFrameGroups}
use Rattle.composer.proofs.QuietRuns.{quiet_between}
use Rattle.composer.proofs.last_groups.LastGroups.next_owed.Goals as goal

pub returns : goal.returns
returns c from to low high inside =
    let owed = subst (λ (l : LastFrameGroups). IsOwedList (own_reads l.groups) l.owed.objects c.self.inside.calls)
    c.self.view_is c.self.invariant in
    quiet_between c.args.self.now.owed.objects c.args.self.now.groups c.self.inside.calls owed from to inside
    (λ i after before. c.next_from.ensures.none i (omega (arith, low, after)) (omega (arith, before, high)))
