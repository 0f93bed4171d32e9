use Rattle.std.proofs.Common.{drop, if◌then◌else◌, ap, sym, ◌∙◌}
use Rattle.rt_groups.specs.Paths.{GroupKey, same_sibling}
use Rattle.path_laws.specs.SiblingEquality.{same_is}
use Rattle.composer.specs.Waiting.{waiting_siblings}
use Rattle.composer.proofs.pending.Pending.take.Goals as goal

pub returns-then-eq-clause-left : goal.returns-then-eq-clause-left
returns-then-eq-clause-left c = λ s.
    c.take_next.ensures.left s
    ∙ ap (λ (t : GroupKey). if same_sibling t s then drop 1 (waiting_siblings c.args.self.now s) else waiting_siblings c.args.self.now s)
    (sym c.sibling_at.ensures ∙ same_is c.sibling_at.result c.args.key.now (sym c.eq.ensures ∙ c.if-eq.true))
