use Rattle.std.proofs.Common.{◌<◌, ◌∙◌, refl, subst, sym}
use Rattle.recomposer.proofs.Owings.{owes_more}
use Rattle.recomposer.proofs.composition.Composition.note.Goals as goal

pub returns-clause-noted : goal.returns-clause-noted
returns-clause-noted c k l m h follows is = record {
  checked = h.checked;
  holds = h.holds;
  owes = owes_more c.args.self.now.program.now k.seen k.trail l m c.args.self.now.owed c.mark.new.self
      c.args.changed.now h.owes follows is c.mark.ensures.all
      (λ x low. c.mark.ensures.marked x (subst (λ n. x < n) (sym h.states) low));
  numbers = h.numbers;
  from_one = h.from_one;
  states = c.mark.ensures.states ∙ h.states;
  groups = h.groups;
  nodes = h.nodes;
}

pub returns-clause-calls : goal.returns-clause-calls
returns-clause-calls c = record { settings = record { program = refl; watcher = refl }; ops = refl }
