use Rattle.rt_values.proofs.Equal.{told_equal}
use Rattle.rt_values.proofs.value.Value.same_any.Goals as goal

pub returns-in-Ints-Ints-clause-equal : goal.returns-in-Ints-Ints-clause-equal
returns-in-Ints-Ints-clause-equal c = told_equal c.args.self.now c.args.other.now _
    (rw (c.in-Ints-Ints.is-0, c.in-Ints-Ints.is-1) c.same-in-Ints-Ints.ensures)
