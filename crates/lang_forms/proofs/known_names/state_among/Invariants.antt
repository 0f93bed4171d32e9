use Rattle.std.proofs.Common.{◌≡◌, ◌+◌, drop}
use Rattle.lang_forms.specs.Names.{number_in}
use Rattle.lang_forms.specs.Views.{state_names}
use Rattle.lang_forms.proofs.known_names.state_among.Given as goal

abbrev pub invariant-loop-i : goal.invariant-loop-i
invariant-loop-i l = l.i + number_in l.name (state_names (drop l.i l.states)) ≡ number_in l.name (state_names l.states)
