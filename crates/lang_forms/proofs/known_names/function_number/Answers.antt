use Rattle.std.proofs.Common.{◌∙◌, ap}
use Rattle.lang_forms.specs.Names.{number_in}
use Rattle.lang_forms.proofs.Firsts.{first_functions}
use Rattle.lang_forms.proofs.known_names.function_number.Goals as goal

pub returns : goal.returns
returns c = c.function_among.ensures
    ∙ ap (number_in c.args.name.now) (first_functions c.args.functions.now c.min.result c.min.ensures)
