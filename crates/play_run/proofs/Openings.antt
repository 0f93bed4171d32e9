-- The world and the composition before the first step.
use Rattle.std.proofs.Common.{◌≡◌, ℕ, List, [], ◌∷◌, ◌++◌, Bool, true, false, Option, None, ◌&&◌, arith, refl, sym, ap, ◌∙◌, subst, length, map, nat_lt, slice_index_or}
use Rattle.rt_values.specs.Maps.{Map}
use Rattle.std.proofs.lemmas.List.{length-map}
use Rattle.std.proofs.lemmas.Bool.{and_parts as both}
use Rattle.rt_groups.specs.Frames.{no_last_frame}
use Rattle.rt_values.specs.Values.{type_of, same_type}
use Rattle.rt_values.specs.declared.value.Ty.{Ty}
use Rattle.rt_values.specs.declared.value.Ty.TheVariants as ty
use Rattle.rt_values.specs.declared.value.Value.{Value}
use Rattle.lang_ast.specs.declared.program.State.{State}
use Rattle.lang_ast.specs.Terms.{Func}
use Rattle.lang_ast.specs.Programs.{Program, root_number, functions_of}
use Rattle.lang_checks.specs.declared.faults.CheckKind.{CheckKind}
use Rattle.lang_checks.specs.declared.faults.CheckKind.TheVariants as kind
use Rattle.lang_checks.specs.Scopes.{duplicate_faults}
use Rattle.lang_checks.specs.FaultOrder.{fault_unless}
use Rattle.lang_checks.specs.ProgramFaults.{program_faults, states_faults, is_well_typed}
use Rattle.snap_policy.specs.declared.policy.BuiltIn.{BuiltIn}
use Rattle.snap_policy.specs.Table.{table, table_fits}
use Rattle.snap_api.specs.Valid.{IsValid}
use Rattle.snap_api.specs.declared.data.Entry.{Entry}
use Rattle.snap_api.specs.World.{World, start, last_of, world_after_make, make_refusal, with_object}
use Rattle.snap_api.proofs.ValidMade.{valid_start, valid_made, makeable, same_type_tells as same_types}
use Rattle.snap_api.proofs.ValidMoves.{valid_watched}
use Rattle.lang_script.specs.NamesInMemory.{Holds}
use Rattle.lang_script.specs.StepCalls.{with_states, opening_world, watcher_number}
use Rattle.recomposer.specs.Compositions.{IsAt}
use Rattle.play_run.specs.Opening.{StatesFit}
use Rattle.play_run.specs.RunOutput.{first_run}
use Rattle.play_run.specs.RunState.{RunFacts, IsRun, IsLogged}
use Rattle.play_run.proofs.RunLogs.{logged_first}
use Rattle.recomposer.specs.declared.composition.Composition.{Composition}
use Rattle.play_run.specs.declared.memory.RunMemory.{RunMemory}
use Rattle.lang_ast.proofs.Limits.{none_in}
use Rattle.lang_checks.proofs.Fine.{held}
use Rattle.play_laws.proofs.ScriptTurns.{count-states}

-- Making states makes no watcher.
pub lasts-states : (w : World BuiltIn) (ss : List State) → (with_states w ss).lasts ≡ w.lasts
lasts-states w [] = refl
lasts-states w (s ∷ more) = lasts-states (world_after_make w (type_of s.initial) s.policy s.initial) more

same-itself : (t : Ty) → same_type t t ≡ true
same-itself ty.Int = refl
same-itself ty.Bool = refl
same-itself ty.Text = refl
same-itself ty.Ints = refl

-- A state's value has its own type, and its policy fits.
pub makes-state : (v : Value) (p : BuiltIn) → table_fits p (type_of v) ≡ true
    → make_refusal table (type_of v) p v ≡ None
makes-state v p fits = rw (same-itself (type_of v)) (rw fits refl)

valid-states : (w : World BuiltIn) (ss : List State) → StatesFit ss → IsValid table w → IsValid table (with_states w ss)
valid-states w [] fit h = h
valid-states w (s ∷ more) fit h =
    valid-states (world_after_make w (type_of s.initial) s.policy s.initial) more fit.1
    (valid_made h (type_of s.initial) s.policy s.initial
    (makeable table (type_of s.initial) s.policy s.initial (makes-state s.initial s.policy fit.0)))

-- The opening world is valid.
pub valid_opening : (states : List State) → StatesFit states → IsValid table (opening_world states)
valid_opening states fit = valid_watched (valid-states (start 0) states fit (valid_start table 0 (omega arith)))

clock-states : (w : World BuiltIn) (ss : List State) → (with_states w ss).clock ≡ w.clock
clock-states w [] = refl
clock-states w (s ∷ more) = clock-states (world_after_make w (type_of s.initial) s.policy s.initial) more

pub opened_facts : {functions : List Func} {V : Type 0} {stands : V → World BuiltIn → Type 0} {world : V}
    {kept : Composition} (actor : ℕ) (states : List State) (began : Option (List Entry)) → StatesFit states →
    stands world (opening_world states) → IsAt kept no_last_frame None → functions_of kept.program.now ≡ functions
    → RunFacts functions stands world kept actor None (first_run states began)
opened_facts {kept = kept} actor states began fit stood at same =
    let counted = count-states (start 0) states in
    let last : last_of (opening_world states) watcher_number ≡ None =
    ap (λ (ls : List (Option Map)). slice_index_or (ls ++ None ∷ []) watcher_number None)
    (lasts-states (start 0) states) in
    record {
      world_stands = stood;
      valid = valid_opening states fit;
      few = omega (arith, counted);
      known = λ name n found. absurd cc;
      is_at = subst (λ o. IsAt kept no_last_frame o) (sym last) at;
      same_program = same;
      noted = refl;
      at_frame = refl;
    }

pub opened : {functions : List Func} {V : Type 0} {stands : V → World BuiltIn → Type 0} {log : V → Option (List Entry)}
    {world : V} {memory : RunMemory} (actor : ℕ) (states : List State) (began : Option (List Entry)) → StatesFit states
    → log world ≡ began →
    stands world (opening_world states) → IsAt memory.composition no_last_frame None
    → functions_of memory.composition.program.now ≡ functions → Holds memory.names [] →
    IsRun functions stands log world memory actor None (first_run states began)
opened {functions = functions} actor states began fit untold stood at same holds = record {
  facts = opened_facts actor states began fit stood at same;
  named = holds;
  logged = subst (λ l. IsLogged functions (first_run states began) began l) (sym untold)
      (logged_first functions states began);
}

states-fit : (ss : List State) → states_faults ss ≡ [] → StatesFit ss
states-fit [] h = tt
states-fit (s ∷ more) h =
    let parts = none_in (fault_unless (is_well_typed s) _ s.at) (states_faults more) h in
    let typed = both (same_type (type_of s.initial) s.ty) (table_fits s.policy s.ty)
    (held (is_well_typed s) _ s.at parts.0) in (
      subst (λ t. table_fits s.policy t ≡ true) (sym (same_types (type_of s.initial) s.ty typed.0)) typed.1,
      states-fit more parts.1,
    )

fourth : {A : Type 0} (a b c d e : List A) → a ++ (b ++ (c ++ (d ++ e))) ≡ [] → d ≡ []
fourth a b c d e h =
    let one = none_in a (b ++ (c ++ (d ++ e))) h in
    let two = none_in b (c ++ (d ++ e)) one.1 in
    let three = none_in c (d ++ e) two.1 in
    (none_in d e three.1).0

pub program-fits : (p : Program) → program_faults p ≡ [] → StatesFit p.states
program-fits p h =
    states-fit p.states (fourth (duplicate_faults [] (map (λ s. s.name) p.states))
    (duplicate_faults [] (map (λ f. f.name) p.functions))
    (fault_unless (nat_lt (root_number p.functions) (length p.functions)) kind.Unknown p.header) (states_faults p.states) _
    h)
