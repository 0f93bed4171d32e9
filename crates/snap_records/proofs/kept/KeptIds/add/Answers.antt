use Rattle.std.proofs.Common.{ℕ, ◌||◌, ◌==◌, List, length, ap, ◌∙◌, arith}
use Rattle.rt_values.specs.Maps.{contains}
use Rattle.snap_records.proofs.KeptLists.{length-added, contains-added}
use Rattle.snap_records.proofs.kept.KeptIds.add.Goals as goal

pub returns-clause-ok : goal.returns-clause-ok
returns-clause-ok c = λ i. contains-added i c.args.id c.self.inside.many c.set.new.self c.self.inside.few.items
    c.in_ok-set.ensures.ok ∙ ap (λ (l : List ℕ). contains i l || i == c.args.id) c.self.view_is

pub returns-clause-few : goal.returns-clause-few
returns-clause-few c = omega (
  arith,
  length-added c.args.id c.self.inside.many c.set.new.self c.self.inside.few.items c.in_ok-set.ensures.ok,
  ap (λ (l : List ℕ). length l) c.self.view_is,
)
