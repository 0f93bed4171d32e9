use Rattle.std.proofs.Common.{◌∙◌, ap}
use Rattle.lang_forms.specs.Names.{number_in}
use Rattle.lang_forms.proofs.Firsts.{first_states}
use Rattle.lang_forms.proofs.known_names.state_number.Goals as goal

pub returns : goal.returns
returns c =
    c.state_among.ensures ∙ ap (number_in c.args.name.now) (first_states c.args.states.now c.min.result c.min.ensures)
