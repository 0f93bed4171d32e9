use Rattle.std.proofs.Common.{◌∙◌, sym}
use Rattle.recomposer.proofs.composition.Composition.list_calls.Goals as goal

pub returns-then-keeps_all : goal.returns-then-keeps_all
returns-then-keeps_all c k m h made = c.new.ensures ∙ sym (c.keeps_all.ensures k m h made c.if-keeps_all.true)

pub returns : goal.returns
returns c k m h made = c.calls_to.ensures k m c.args.draft.now h made (c.table.ensures ∙ c.in_ok-preview.ensures)
