use Rattle.slot_table.proofs.OpenGroups.{opened_is, one_more_open}
use Rattle.slot_table.proofs.reader.Reader.open_group.Goals as goal

pub returns-clause-opened : goal.returns-clause-opened
returns-clause-opened g c = λ first rest is. opened_is c.self.inside.table.now.groups rest first c.self.inside.next
    c.self.inside.opens.items c.push.new.self.items c.args.self.now c.self.view_is c.in_ok-push.ensures.items is

pub returns-clause-count : goal.returns-clause-count
returns-clause-count g c = one_more_open c.args.self.now _ c.requires (returns-clause-opened g c)
