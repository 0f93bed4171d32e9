use Rattle.std.proofs.Common.{◌∙◌}
use Rattle.recomposer.proofs.Stops.{good_not_err}
use Rattle.recomposer.proofs.composition.Composition.begin.Goals as goal

pub returns-in-Ok-clause-frame : goal.returns-in-Ok-clause-frame
returns-in-Ok-clause-frame g c = record {
  good = λ k types l h last alone.
      let took = c.in-Ok.ensures.took types l last alone in
      record {
        map = took.map;
        at_now = c.note.ensures.noted k l took.map h took.follows (c.numbers.ensures ∙ took.changed_is);
        shown = took.shown;
        is_last = took.is_last;
        changed_is = took.changed_is;
        inner = took.inner;
      };
  stays = λ types l last alone. tt;
}

pub returns-in-Ok-clause-stops : goal.returns-in-Ok-clause-stops
returns-in-Ok-clause-stops g c = record { err = tt; few = λ e. good_not_err e; no_fault = λ e. good_not_err e }

pub returns-in-Ok-clause-take : goal.returns-in-Ok-clause-take
returns-in-Ok-clause-take g c =
    record { taken = (c.in-Ok.ensures.call, c.in-Ok.ensures.log); refused = λ known. tt }

pub returns-in-Ok-clause-calls : goal.returns-in-Ok-clause-calls
returns-in-Ok-clause-calls g c = c.note.ensures.calls

pub returns-in-Ok-clause-opened : goal.returns-in-Ok-clause-opened
returns-in-Ok-clause-opened g c = record { name = c.in-Ok.ensures.opened; kept = tt; still = λ m s. tt }

pub returns-in-Ok-clause-desk : goal.returns-in-Ok-clause-desk
returns-in-Ok-clause-desk g c = record {
  lends = c.in-Ok.ensures.lends;
  alone = c.in-Ok.ensures.alone;
  caller = c.in-Ok.ensures.caller;
}
