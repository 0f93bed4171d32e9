-- Trusted: the verdict on one object as a value of the code.
use Rattle.std.specs.Prelude.{Bool, true, false}
use Rattle.rt_values.specs.Maps.{no_entry}
use Rattle.rt_values.specs.declared.maps.StampedValue.{StampedValue}
use Rattle.snap_api.specs.Settle.{Verdict, takes, keeps, clashes}
use Rattle.snap_api.specs.declared.choice.Choice.{Choice}
use Rattle.snap_api.specs.declared.choice.Choice.TheVariants.{Changed, Kept, Clash}

-- The verdict, for an object whose stamped value in the parent is `current`.
abbrev pub choice_of : Verdict → StampedValue → Choice
choice_of (takes e) current = Changed e
choice_of keeps current = Kept current
choice_of clashes current = Clash

-- Whether the verdict is a conflict.
abbrev pub is_clash : Choice → Bool
is_clash (Changed e) = false
is_clash (Kept e) = false
is_clash Clash = true

-- Whether the parent takes a new stamped value.
abbrev pub is_changed : Choice → Bool
is_changed (Changed e) = true
is_changed (Kept e) = false
is_changed Clash = false

-- The stamped value of the parent after the apply. A conflict gives the default.
abbrev pub entry_of_choice : Choice → StampedValue
entry_of_choice (Changed e) = e
entry_of_choice (Kept e) = e
entry_of_choice Clash = no_entry
