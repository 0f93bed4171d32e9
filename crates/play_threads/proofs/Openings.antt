-- The world in which the actors begin.
use Rattle.std.proofs.Common.{◌≡◌, List, [], ◌∷◌, Bool, true, false, length, refl, arith}
use Rattle.std.proofs.lemmas.List.{length-map}
use Rattle.rt_values.specs.Values.{type_of}
use Rattle.rt_values.specs.declared.maps.StampedValue.{StampedValue}
use Rattle.lang_ast.specs.declared.program.State.{State}
use Rattle.snap_policy.specs.declared.policy.BuiltIn.{BuiltIn}
use Rattle.snap_policy.specs.Table.{table}
use Rattle.snap_api.proofs.Valid.{open_within, shaped_start, shaped_made, shaped_watched}
use Rattle.snap_api.proofs.ValidMade.{valid_start, valid_made, makeable}
use Rattle.snap_api.proofs.ValidMoves.{valid_watched}
use Rattle.snap_api.specs.Shaped.{IsShaped}
use Rattle.snap_api.specs.TracksLive.{OnlyGlobalIsLive}
use Rattle.snap_api.specs.World.{World, start, is_closed, with_object, world_after_make}
use Rattle.lang_script.specs.StepCalls.{with_states, opening_world}
use Rattle.play_run.proofs.Openings.{makes-state}
use Rattle.play_run.specs.Opening.{StatesFit}
use Rattle.play_threads.specs.ActorSteps.{CountsSnapshots}
use Rattle.play_laws.proofs.ScriptTurns.{count-states as states_one}

states_count : (w : World BuiltIn) (ss : List State) → StatesFit ss → CountsSnapshots w
    → CountsSnapshots (with_states w ss)
states_count w [] fit c = c
states_count w (s ∷ more) fit c =
    let e : StampedValue = record { value = s.initial; stamp = 0 } in
    let same = length-map w.snapshots (with_object e) in
    let some = c.some in
    let few = c.few in
    states_count (world_after_make w (type_of s.initial) s.policy s.initial) more fit.1 (record {
      some = omega (arith, some, same);
      few = omega (arith, few, same);
      valid = valid_made c.valid (type_of s.initial) s.policy s.initial
          (makeable table (type_of s.initial) s.policy s.initial (makes-state s.initial s.policy fit.0));
    })

pub opening_counts : (ss : List State) → StatesFit ss → CountsSnapshots (opening_world ss)
opening_counts ss fit =
    let c = states_count (start 0) ss fit
    (record { some = omega arith; few = omega arith; valid = valid_start table 0 (omega arith) }) in
    record { some = c.some; few = c.few; valid = valid_watched c.valid }

states_shaped : (w : World BuiltIn) (ss : List State) → IsShaped w → IsShaped (with_states w ss)
states_shaped w [] v = v
states_shaped w (s ∷ more) v = states_shaped (world_after_make w (type_of s.initial) s.policy s.initial) more
    (shaped_made w (type_of s.initial) s.policy s.initial v)

pub opening_shaped : (ss : List State) → IsShaped (opening_world ss)
opening_shaped ss = shaped_watched (with_states (start 0) ss) (states_shaped (start 0) ss (shaped_start 0))

pub opening_global : (ss : List State) → OnlyGlobalIsLive (opening_world ss)
opening_global ss n inner = by (is_closed (opening_world ss) n) refl where
  by : (b : Bool) → is_closed (opening_world ss) n ≡ b → b ≡ true
  by true e = refl
  by false e =
      let within = open_within (opening_world ss) n e in
      let one : length (opening_world ss).snapshots ≡ 1 = states_one (start 0) ss in
      absurd (omega (arith, inner, within, one))
