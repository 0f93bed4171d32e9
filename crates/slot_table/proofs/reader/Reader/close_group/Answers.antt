use Rattle.slot_table.proofs.OpenGroups.{closed_is, one_less_open}
use Rattle.slot_table.proofs.reader.Reader.close_group.Goals as goal

pub returns-in-Some-clause-closed : goal.returns-in-Some-clause-closed
returns-in-Some-clause-closed c = λ o os is.
    closed_is c.self.inside.table.now.groups c.self.inside.next c.in-Some.index c.index_after-self-inside.result
    c.self.inside.opens.items c.pop.new.self.items c.args.self.now o os c.self.invariant c.self.view_is
    c.in-Some.ensures.items c.index_after-self-inside.ensures.after is

pub returns-in-Some-clause-count : goal.returns-in-Some-clause-count
returns-in-Some-clause-count c = one_less_open c.args.self.now _ c.requires (returns-in-Some-clause-closed c)
