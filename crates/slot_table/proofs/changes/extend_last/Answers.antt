use Rattle.slot_table.proofs.KeptRuns.{is_extended}
use Rattle.slot_table.proofs.changes.extend_last.Goals as goal

pub returns-clause-extended : goal.returns-clause-extended
returns-clause-extended c = λ is olds all low high.
    is_extended olds c.pop.new.self.items c.args.runs.now.items c.push_reserved-2.new.self.items c.in-Some.last
    c.args.gap c.args.from c.args.to c.if-gap-ne0.false c.in-Some.ensures.items
    c.push_reserved-2.ensures.items c.if-last-from.false all low high
