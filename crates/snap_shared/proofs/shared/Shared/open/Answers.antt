use Rattle.std.proofs.Common.{◌∷◌, [], ◌∙◌, ap, sym, Some}
use Rattle.snap_shared.specs.Histories.{caller_of, IsWorldAfter}
use Rattle.snap_shared.proofs.MadeCalls.{follows_none}
use Rattle.snap_shared.proofs.OpenedTables.{opens_with}
use Rattle.snap_shared.proofs.shared.Shared.open.Goals as goal

pub new-requires : goal.new-requires
new-requires g c =
    opens_with caller_of g.W.Versions.log (IsWorldAfter g.W.P.Policy.rules g.W.Versions.stands) c.of.result.value
    c.args.count c.in-Ok.slots.items (c.in-Ok.ensures ∙ ap (λ w. Some w ∷ []) (sym c.of.ensures))
    (ap g.W.Versions.log c.of.ensures ∙ c.requires.empty)
    (follows_none g.W.P.Policy.rules g.W.Versions.stands c.of.result.value)
