-- What a command writes is what the definitions say.
use Rattle.std.proofs.Common.{Ok, Err, ◌≡◌, ℕ, Bool, List, true, sym, ap, ◌∙◌, subst, refl, Option, Some, None, ◌⊎◌, inl, inr, ◌<◌, ◌≤◌, ◌≢◌, ◌+◌, length, arith, false}
use Rattle.std.specs.declared.result.Result.{Result}
use Rattle.std.specs.Prelude.{IfSome, IfErr, OnOk, OnErr}
use Rattle.std.specs.Io.KnownBytes.{Appends, Keeps, Consumes, IsAtEnd}
use Rattle.std.proofs.KnownBytes.{Consumes-whole}
use Rattle.rt_streams.specs.Streams.{AppendsPart, Rose, rise}
use Rattle.rt_streams.proofs.Parts.{part-none}
use Rattle.lang_ast.specs.declared.program.State.{State}
use Rattle.lang_ast.specs.declared.script.DoForm.{DoForm}
use Rattle.lang_ast.specs.Terms.{Func}
use Rattle.lang_forms.specs.Sources.{Source}
use Rattle.script_lang.specs.declared.flags.Flags.{Flags}
use Rattle.script_lang.specs.Lines.{LineStyle, run_text}
use Rattle.lang_script.specs.StepCalls.{script_parts}
use Rattle.lang_script.specs.Scripts.{actors_of}
use Rattle.play_core.specs.declared.top.Status.{Status}
use Rattle.play_core.specs.declared.top.Status.TheVariants as status
use Rattle.play_args.specs.CommandWords.{command_of_args}
use Rattle.play_args.specs.declared.command.Command.{Command}
use Rattle.play_args.specs.declared.command.Command.TheVariants.{Run, Threads, Check, Gen}
use Rattle.play_core.specs.Texts.{IsText, IsRead, IsInput, IsNoText, IsOutput, has_threads, has_input, style, run_output, check_output, gen_output, long_line, input_limit}
use Rattle.play_core.specs.Faults.{IsFault, WritesPart, fault_line}
use Rattle.play_core.specs.declared.fault.Fault.{Fault}
use Rattle.play_core.specs.declared.text.Input.{Input}
use Rattle.play_threads.specs.WovenText.{IsWovenText}
use Rattle.play_gen.specs.declared.tally.Tally.{Tally}
use Rattle.play_gen.specs.Tallies.{generated_counts}
use Rattle.play_gen.specs.SummaryText.{summary_text}
use Rattle.play_core.specs.CommandOutput.{SaysOutput, run_status, IsRefusal, ReadsInput}
use Rattle.snap_api.specs.declared.data.Entry.{Entry}
use Rattle.play_run.specs.RunLog.{LogsRun, StopsRun}
use Rattle.play_run.specs.RunPromise.{FaultsAfter}
use Rattle.play_run.specs.declared.write_lines.Stop.{Stop}
use Rattle.play_run.specs.declared.write_lines.Stop.TheVariants as stop
use Rattle.play_core.specs.Promise.{Streams, HasFailed, WritesOutput, WritesFault, TextMeets, CommandMeets, allowed_by, exactly, GenMeets, PlayMeets, KeepsWorld, LeavesWorld, LogsText, StopsText}
use Rattle.play_run.proofs.Stops.{unlogged_stop}
use Rattle.play_threads.proofs.Texts.{some_text}
use Rattle.play_core.proofs.Uniques.{text_one}
use Rattle.play_core.proofs.OneFault.{one_fault, faulty_is_no_text}
use Rattle.rt_values.proofs.TextPrefixes.{le_or_gt as le_or_lt}

abbrev line_style : List State → List (List ℕ) → Flags → LineStyle
line_style states actors flags = record { titles = record { states = states; actors = actors }; flags = flags }

-- The parsed program and script give the output of the source text.
pub run-is : {threads : Bool} {bytes : List ℕ} {states : List State} {functions : List Func} {actors : List (List ℕ)}
    {forms : List DoForm} (flags : Flags) (h : IsRead threads bytes states functions actors forms) (p : Source)
    → IsText threads bytes p →
    run_text (line_style states actors flags) functions (script_parts actors forms) ≡ run_output flags p
unfolding run_output
run-is {bytes = bytes} {functions = functions} {actors = actors} {forms = forms} flags h p t =
    ap (λ ss. run_text (line_style ss actors flags) functions (script_parts actors forms)) h.states_are
    ∙ ap (λ l. run_text (line_style h.source.program.states l flags) functions (script_parts l forms)) h.actors_are
    ∙ ap (λ l. run_text (line_style h.source.program.states (actors_of h.source.script) flags) l
    (script_parts (actors_of h.source.script) forms)) h.functions_are
    ∙ ap (λ l. run_text (line_style h.source.program.states (actors_of h.source.script) flags)
    h.source.program.functions (script_parts (actors_of h.source.script) l)) h.forms_are
    ∙ ap (run_output flags) (text_one bytes h.source p h.text t)

-- Lines of a history of the parsed script are an output of the source text.
pub woven-is : {bytes : List ℕ} {states : List State} {functions : List Func} {actors : List (List ℕ)}
    {forms : List DoForm} (flags : Flags) (h : IsRead true bytes states functions actors forms) (p : Source)
    → IsText true bytes p →
    (out : List ℕ) → IsWovenText (line_style states actors flags) functions forms out
    → IsWovenText (style p flags) p.program.functions p.script out
woven-is {bytes = bytes} {functions = functions} {actors = actors} {forms = forms} flags h p t out w =
    subst (λ (q : Source). IsWovenText (style q flags) q.program.functions q.script out)
    (text_one bytes h.source p h.text t)
    (subst (λ l. IsWovenText (line_style h.source.program.states (actors_of h.source.script) flags)
    h.source.program.functions l out) h.forms_are
    (subst (λ l. IsWovenText (line_style h.source.program.states (actors_of h.source.script) flags) l forms out)
    h.functions_are
    (subst (λ l. IsWovenText (line_style h.source.program.states l flags) functions forms out) h.actors_are
    (subst (λ ss. IsWovenText (line_style ss actors flags) functions forms out) h.states_are w))))

-- The summary in memory is the output of `gen`.
pub gen-is : (number size : ℕ) (t : Tally) (text : List ℕ) → t ≡ generated_counts number size → text ≡ summary_text t
    → text ≡ gen_output number size
unfolding gen_output
gen-is number size t text counted is = is ∙ ap summary_text counted

-- The log of the parsed program and script is that of the source text.
pub logs-is : {threads : Bool} {bytes : List ℕ} {states : List State} {functions : List Func} {actors : List (List ℕ)}
    {forms : List DoForm} {T : Type 0} (h : IsRead threads bytes states functions actors forms) (p : Source)
    → IsText threads bytes p → (r : Result T Stop) (old new : Option (List Entry)) →
    OnOk r (LogsRun (record { states = states; actors = actors }) functions (script_parts actors forms) old new)
    → OnOk r (LogsText p old new)
logs-is {bytes = bytes} {functions = functions} {actors = actors} {forms = forms} h p t r old new x =
    subst (λ (q : Source). OnOk r (LogsText q old new)) (text_one bytes h.source p h.text t)
    (subst (λ l. OnOk r (LogsRun (record { states = h.source.program.states; actors = actors_of h.source.script })
    h.source.program.functions (script_parts (actors_of h.source.script) l) old new)) h.forms_are
    (subst (λ l. OnOk r (LogsRun (record { states = h.source.program.states; actors = actors_of h.source.script }) l
    (script_parts (actors_of h.source.script) forms) old new)) h.functions_are
    (subst (λ l. OnOk r (LogsRun (record { states = h.source.program.states; actors = l }) functions
    (script_parts l forms) old new)) h.actors_are
    (subst (λ ss. OnOk r (LogsRun (record { states = ss; actors = actors }) functions (script_parts actors forms) old
    new)) h.states_are x))))

-- The log of a run that stopped, likewise.
pub stops-is : {threads : Bool} {bytes : List ℕ} {states : List State} {functions : List Func} {actors : List (List ℕ)}
    {forms : List DoForm} {T : Type 0} (flags : Flags) (h : IsRead threads bytes states functions actors forms)
    (p : Source) → IsText threads bytes p
    → (r : Result T Stop) (old new : Option (List Entry)) (a z : Option (List ℕ)) →
    OnErr r (StopsRun (record { titles = record { states = states; actors = actors }; flags = flags }) functions
    (script_parts actors forms) old new a z) → OnErr r (StopsText flags p old new a z)
stops-is {bytes = bytes} {functions = functions} {actors = actors} {forms = forms} flags h p t r old new a z x =
    subst (λ (q : Source). OnErr r (StopsText flags q old new a z)) (text_one bytes h.source p h.text t)
    (subst (λ l. OnErr r (StopsRun (record {
      titles = record {
        states = h.source.program.states;
        actors = actors_of h.source.script;
      };
      flags = flags;
    }) h.source.program.functions
    (script_parts (actors_of h.source.script) l) old new a z)) h.forms_are
    (subst (λ l. OnErr r (StopsRun (record {
      titles = record {
        states = h.source.program.states;
        actors = actors_of h.source.script;
      };
      flags = flags;
    }) l (script_parts (actors_of h.source.script) forms) old
    new a z)) h.functions_are
    (subst (λ l. OnErr r (StopsRun (record {
      titles = record { states = h.source.program.states; actors = l };
      flags = flags;
    }) functions (script_parts l forms) old new a z)) h.actors_are
    (subst (λ ss. OnErr r (StopsRun (record { titles = record { states = ss; actors = actors }; flags = flags })
    functions (script_parts actors forms) old new a z)) h.states_are x))))

-- Nothing was logged.
pub unlogged-text : (flags : Flags) (p : Source) (old : Option (List Entry)) (a z : Option (List ℕ))
    → StopsText flags p old old a z
unlogged-text flags p old a z =
    unlogged_stop (style p flags) p.program.functions (script_parts (actors_of p.script) p.script) old old a z refl

-- What is true after a command that stopped.
pub stopped-after : {T P : Type 0} (r : Result T Stop)
    → (run_status r ≡ status.WriteFault) ⊎ (run_status r ≡ status.NoMemory) → OnErr r P → P
stopped-after (Ok x) (inl e) h = absurd cc
stopped-after (Ok x) (inr e) h = absurd cc
stopped-after (Err e) stopped h = h

pub unlogged-texts : (left : Option (List ℕ)) (flags : Flags) (old : Option (List Entry)) (a z : Option (List ℕ))
    → IfSome left (λ bytes. (p : Source) → IsText false bytes p → StopsText flags p old old a z)
unlogged-texts None flags old a z = tt
unlogged-texts (Some bytes) flags old a z = λ p text. unlogged-text flags p old a z

-- What is true after a command that is done.
pub done-after : {T P : Type 0} (r : Result T Stop) → run_status r ≡ status.Done → OnOk r P → P
done-after (Ok x) e h = h
done-after (Err stop.WriteFault) e h = absurd cc
done-after (Err stop.NoMemory) e h = absurd cc

-- A part of the output of a source text, which has no fault.
pub text-part : (threads : Bool) (may : List ℕ → Source → List ℕ → Type 0) (bytes : List ℕ) (a z : Option (List ℕ))
    → ((fault : Fault) → IsFault threads bytes fault → ⊥)
    → ((p : Source) → IsText threads bytes p → (out : List ℕ) × may bytes p out × AppendsPart a z out)
    → WritesPart threads may bytes a z
text-part threads may bytes a z good part = record { lines = part; refusal = λ fault f. absurd (good fault f) }

-- The arguments ask for at most one command.
pub one-command : (o : Option Command) (a b : Command) → o ≡ Some a → o ≡ Some b → a ≡ b
one-command o a b e f = cc

-- A part of the line of the one fault of rejected bytes.
pub refused-part : (threads : Bool) (may : List ℕ → Source → List ℕ → Type 0) (bytes : List ℕ) (fault : Fault)
    (a z : Option (List ℕ)) → IsNoText threads bytes → ((other : Fault) → IsFault threads bytes other → other ≡ fault)
    → AppendsPart a z (fault_line fault) → WritesPart threads may bytes a z
refused-part threads may bytes fault a z none one part = record {
  lines = λ p t. absurd (none p t);
  refusal = λ other f. subst (λ g. AppendsPart a z (fault_line g)) (sym (one other f)) part;
}

-- Each command has an output.
pub some-output : (command : Command) (p : Source) → (out : List ℕ) × IsOutput command (Some p) out
some-output (Run flags) p = (run_output flags p, refl)
some-output (Threads flags) p = some_text (style p flags) p.program.functions p.script
some-output Check p = (check_output p, refl)
some-output (Gen number size) p = (gen_output number size, refl)

-- Nothing was written.
pub nothing-part : (threads : Bool) (may : List ℕ → Source → List ℕ → Type 0)
    → ((bytes : List ℕ) (p : Source) → (out : List ℕ) × may bytes p out) →
    (o a : Option (List ℕ)) → IfSome o (λ bytes. WritesPart threads may bytes a a)
nothing-part threads may some None a = tt
nothing-part threads may some (Some bytes) a = record {
  lines = λ p t. let one = some bytes p in (one.0, one.1, part-none a one.0);
  refusal = λ fault f. part-none a (fault_line fault);
}

-- Every status has its cause, so a source text is done unless the call failed.
pub text-answers : (threads : Bool) (r : Status) (left : Option (List ℕ)) {B C D E : Type 0} (P : List ℕ → Type 0)
    (taken limit : ℕ) (bytes : List ℕ) (p : Source) → ((bs : List ℕ) → P bs → IsNoText threads bs) → left ≡ Some bytes
    → taken ≤ limit → IsText threads bytes p →
    r ≢ status.Usage → (r ≡ status.BadInput → IfSome left P) → (r ≡ status.TooLong → (limit < taken) × B)
    → (r ≡ status.ReadFault → C × D) → (r ≡ status.WriteFault → E) →
    (r ≡ status.Done) ⊎ ((r ≡ status.NoMemory) ⊎ (((r ≡ status.ReadFault) × C) ⊎ ((r ≡ status.WriteFault) × E)))
text-answers threads status.Done left P taken limit bytes p out e few t usage bad long fault write = inl refl
text-answers threads status.Usage left P taken limit bytes p out e few t usage bad long fault write =
    absurd (usage refl)
text-answers threads status.BadInput left P taken limit bytes p out e few t usage bad long fault write =
    absurd (out bytes (subst (λ o. IfSome o P) e (bad refl)) p t)
text-answers threads status.ReadFault left P taken limit bytes p out e few t usage bad long fault write =
    inr (inr (inl (refl, (fault refl).0)))
text-answers threads status.WriteFault left P taken limit bytes p out e few t usage bad long fault write =
    inr (inr (inr (refl, write refl)))
text-answers threads status.NoMemory left P taken limit bytes p out e few t usage bad long fault write = inr (inl refl)
text-answers threads status.TooLong left P taken limit bytes p out e few t usage bad long fault write =
    absurd (let more = (long refl).0 in omega (arith, more, few))

-- Every status has its cause, so other bytes are rejected unless the call failed.
pub other-answers : (threads : Bool) (r : Status) (left : Option (List ℕ)) {B C D E : Type 0} (P : List ℕ → Type 0)
    (taken limit : ℕ) (bytes : List ℕ) → ((bs : List ℕ) → P bs → (p : Source) × IsText threads bs p) → left ≡ Some bytes
    → taken ≤ limit → IsNoText threads bytes →
    r ≢ status.Usage → (r ≡ status.Done → IfSome left P) → (r ≡ status.TooLong → (limit < taken) × B)
    → (r ≡ status.ReadFault → C × D) → (r ≡ status.WriteFault → E) →
    (r ≡ status.BadInput) ⊎ ((r ≡ status.NoMemory) ⊎ (((r ≡ status.ReadFault) × C) ⊎ ((r ≡ status.WriteFault) × E)))
other-answers threads status.Done left P taken limit bytes out e few none usage done long fault write =
    let d = out bytes (subst (λ o. IfSome o P) e (done refl)) in absurd (none d.0 d.1)
other-answers threads status.Usage left P taken limit bytes out e few none usage done long fault write =
    absurd (usage refl)
other-answers threads status.BadInput left P taken limit bytes out e few none usage done long fault write = inl refl
other-answers threads status.ReadFault left P taken limit bytes out e few none usage done long fault write =
    inr (inr (inl (refl, (fault refl).0)))
other-answers threads status.WriteFault left P taken limit bytes out e few none usage done long fault write =
    inr (inr (inr (refl, write refl)))
other-answers threads status.NoMemory left P taken limit bytes out e few none usage done long fault write =
    inr (inl refl)
other-answers threads status.TooLong left P taken limit bytes out e few none usage done long fault write =
    absurd (let more = (long refl).0 in omega (arith, more, few))

-- Rejected bytes that have a fault are rejected with the line of that fault.
pub fault-answers : (threads : Bool) (r : Status) (left : Option (List ℕ)) {F : Type 0} (P : List ℕ → Type 0)
    (a z : Option (List ℕ)) (bytes : List ℕ) (fault : Fault) →
    ((bs : List ℕ) → P bs → (g : Fault) × IsFault threads bs g × Appends a z (fault_line g)) → left ≡ Some bytes
    → IsFault threads bytes fault → (r ≡ status.BadInput → IfSome left P) →
    (r ≡ status.BadInput) ⊎ F → ((r ≡ status.BadInput) × Appends a z (fault_line fault)) ⊎ F
fault-answers threads r left P a z bytes fault out e f bad h = elim h [
  | inl is ↦ let w = out bytes (subst (λ o. IfSome o P) e (bad is)) in
      inl (is, subst (λ (g : Fault). Appends a z (fault_line g)) (one_fault threads bytes w.0 fault w.1 f) w.2)
  | inr failed ↦ inr failed
]

pub keeps-same : (o : Option (List ℕ)) → Keeps o o
keeps-same None = tt
keeps-same (Some bytes) = refl

-- The promise after the process ran out of memory before anything was written.
pub memory-meets : (threads : Bool) (may : List ℕ → Source → List ℕ → Type 0)
    → ((bytes : List ℕ) (p : Source) → (out : List ℕ) × may bytes p out) → (left left' : Option (List ℕ)) (taken taken' faults faults' : ℕ)
    (written : Option (List ℕ)) (write_faults : ℕ) → rise taken taken' ≤ input_limit →
    TextMeets threads may (record {
      left = left;
      taken = taken;
      read_faults = faults;
      written = written;
      write_faults = write_faults;
    })
    (record { left = left'; taken = taken'; read_faults = faults'; written = written; write_faults = write_faults })
    status.NoMemory
memory-meets threads may some left left' taken taken' faults faults' written write_faults short = record {
  not_usage = λ e. absurd cc;
  done = λ e. absurd cc;
  bad_input = λ e. absurd cc;
  too_long = λ e. absurd cc;
  long_told = λ more. absurd (omega (arith, more, short));
  read_fault = λ e. absurd cc;
  write_fault = λ e. absurd cc;
  part = λ few stopped. nothing-part threads may some left written;
  complete = λ bytes t given few text. inr (inl refl);
  refused = λ bytes given few none. inr (inl refl);
  faulty = λ bytes fault given few f. inr (inl refl);
  at_most = omega (arith, short);
}

-- The promise for an input whose read failed.
pub read-fault-meets : (threads : Bool) (may : List ℕ → Source → List ℕ → Type 0)
    → ((bytes : List ℕ) (p : Source) → (out : List ℕ) × may bytes p out) → (left left' : Option (List ℕ)) (taken taken' faults faults' : ℕ)
    (written : Option (List ℕ)) (write_faults : ℕ) → rise taken taken' ≤ input_limit → Rose faults faults' →
    TextMeets threads may (record {
      left = left;
      taken = taken;
      read_faults = faults;
      written = written;
      write_faults = write_faults;
    })
    (record { left = left'; taken = taken'; read_faults = faults'; written = written; write_faults = write_faults })
    status.ReadFault
read-fault-meets threads may some left left' taken taken' faults faults' written write_faults short rose = record {
  not_usage = λ e. absurd cc;
  done = λ e. absurd cc;
  bad_input = λ e. absurd cc;
  too_long = λ e. absurd cc;
  long_told = λ more. absurd (omega (arith, more, short));
  read_fault = λ e. (rose, keeps-same written);
  write_fault = λ e. absurd cc;
  part = λ few stopped. nothing-part threads may some left written;
  complete = λ bytes t given few text. inr (inr (inl (refl, rose)));
  refused = λ bytes given few none. inr (inr (inl (refl, rose)));
  faulty = λ bytes fault given few f. inr (inr (inl (refl, rose)));
  at_most = omega (arith, short);
}

-- The promise for an input that is too long.
pub long-meets : (threads : Bool) (may : List ℕ → Source → List ℕ → Type 0) (before after : Streams) (r : Status) → (r ≡ status.TooLong) ⊎ (r ≡ status.WriteFault) →
    (r ≡ status.TooLong → Appends before.written after.written long_line)
    → (r ≡ status.WriteFault → AppendsPart before.written after.written long_line) →
    (r ≡ status.WriteFault → Rose before.write_faults after.write_faults) → input_limit < rise before.taken after.taken
    → rise before.taken after.taken ≤ input_limit + 1 →
    ((bytes : List ℕ) → before.left ≡ Some bytes → rise before.taken after.taken ≤ length bytes)
    → TextMeets threads may before after r
long-meets threads may before after r answers all part rose long most told =
    let not : (s : Status) → (status.TooLong ≡ s → ⊥) → (status.WriteFault ≡ s → ⊥) → r ≡ s → ⊥ =
    λ s one other e. elim answers [ inl is ↦ one (sym is ∙ e) | inr is ↦ other (sym is ∙ e) ] in
    let short : (bytes : List ℕ) → before.left ≡ Some bytes → length bytes ≤ input_limit → ⊥ =
    λ bytes given few. (let taken = told bytes given in omega (arith, taken, few, long)) in
    record {
      not_usage = not status.Usage (λ e. absurd cc) (λ e. absurd cc);
      done = λ e. absurd (not status.Done (λ e. absurd cc) (λ e. absurd cc) e);
      bad_input = λ e. absurd (not status.BadInput (λ e. absurd cc) (λ e. absurd cc) e);
      too_long = λ e. (long, all e);
      long_told = λ more. elim answers [ inl is ↦ inl is | inr is ↦ inr (is, part is) ];
      read_fault = λ e. absurd (not status.ReadFault (λ e. absurd cc) (λ e. absurd cc) e);
      write_fault = rose;
      part = λ few stopped. absurd (omega (arith, few, long));
      complete = λ bytes t given few text. absurd (short bytes given few);
      refused = λ bytes given few none. absurd (short bytes given few);
      faulty = λ bytes fault given few f. absurd (short bytes given few);
      at_most = most;
    }

-- The promise for an input that was read whole.
pub read-meets : (threads : Bool) (may : List ℕ → Source → List ℕ → Type 0) (before after : Streams) (r : Status) (bytes : List ℕ)
    → Consumes before.left after.left bytes → IsAtEnd after.left → length bytes ≤ input_limit →
    rise before.taken after.taken ≡ length bytes → (r ≡ status.Done → WritesOutput threads may before after bytes)
    → (r ≡ status.BadInput → WritesFault threads before after bytes) →
    ((r ≡ status.WriteFault) ⊎ (r ≡ status.NoMemory) → WritesPart threads may bytes before.written after.written)
    → (r ≡ status.WriteFault → Rose before.write_faults after.write_faults) →
    (r ≢ status.Usage) × (r ≢ status.ReadFault) × (r ≢ status.TooLong) → TextMeets threads may before after r
read-meets threads may before after r bytes consumed end few taken done bad part rose others =
    let Done' : List ℕ → Type 0 = λ bs. IsAtEnd after.left × (length bs ≤ input_limit)
    × WritesOutput threads may before after bs in
    let Bad' : List ℕ → Type 0 = λ bs. IsAtEnd after.left × (length bs ≤ input_limit) × WritesFault threads before after bs in
    let is_done : r ≡ status.Done → IfSome before.left Done' =
    λ e. Consumes-whole _ _ bytes Done' consumed end (end, few, done e) in
    let is_bad : r ≡ status.BadInput → IfSome before.left Bad' =
    λ e. Consumes-whole _ _ bytes Bad' consumed end (end, few, bad e) in
    let is_long : r ≡ status.TooLong → (input_limit < rise before.taken after.taken) × ⊥ = λ e. absurd (others.2 e) in
    let is_read : r ≡ status.ReadFault → Rose before.read_faults after.read_faults × ⊥ = λ e. absurd (others.1 e) in
    let short : rise before.taken after.taken ≤ input_limit = omega (arith, taken, few) in
    let refuses : (bs : List ℕ) → before.left ≡ Some bs → IsNoText threads bs → (r ≡ status.BadInput) ⊎ HasFailed before after r = λ bs given none.
    other-answers threads r before.left Done' (rise before.taken after.taken) input_limit bs
    (λ xs h. (h.2.0, h.2.1)) given short none others.0 is_done is_long is_read rose in
    record {
      not_usage = others.0;
      done = is_done;
      bad_input = is_bad;
      too_long = λ e. absurd (others.2 e);
      long_told = λ more. absurd (omega (arith, more, short));
      read_fault = λ e. absurd (others.1 e);
      write_fault = rose;
      part = λ s stopped. Consumes-whole _ _ bytes (λ bs. WritesPart threads may bs before.written after.written) consumed end
          (part stopped);
      complete = λ bs t given s text. text-answers threads r before.left Bad' (rise before.taken after.taken)
          input_limit bs t (λ xs h. h.2.0) given short text others.0 is_bad is_long is_read rose;
      refused = λ bs given s none. refuses bs given none;
      faulty = λ bs fault given s f. fault-answers threads r before.left Bad' before.written after.written bs
          fault (λ xs h. h.2.1) given f is_bad (refuses bs given (faulty_is_no_text threads bs fault f));
      at_most = omega (arith, short);
    }

-- The count of bytes taken, if the input is not too long.
pub not-long : {T E : Type 0} (r : Result T E) (e long : E) (n : ℕ) → r ≡ Err e → (long ≡ e → ⊥)
    → (input_limit < n → r ≡ Err long) → n ≤ input_limit
not-long r e long n is other more =
    elim (le_or_lt n input_limit) [ inl le ↦ le | inr lt ↦ absurd (other (let m = more lt in cc)) ]

-- The output of a command that is done.
pub done-says : {T : Type 0} (r : Result T Stop) (a z : Option (List ℕ)) (may : List ℕ → Type 0)
    → run_status r ≡ status.Done → SaysOutput a z may r → (out : List ℕ) × may out × Appends a z out
done-says (Ok x) a z may e says = (says.0, says.1, says.2.all)
done-says (Err stop.WriteFault) a z may e says = absurd cc
done-says (Err stop.NoMemory) a z may e says = absurd cc

-- A part of the output of a command that stopped.
pub stopped-says : {T : Type 0} (r : Result T Stop) (a z : Option (List ℕ)) (may : List ℕ → Type 0)
    → (run_status r ≡ status.WriteFault) ⊎ (run_status r ≡ status.NoMemory) → SaysOutput a z may r →
    (out : List ℕ) × may out × AppendsPart a z out
stopped-says (Ok x) a z may e says = elim e [ inl e ↦ absurd cc | inr e ↦ absurd cc ]
stopped-says (Err s) a z may e says = (says.0, says.1, says.2.part)

-- The count of failed writes of a command.
pub rose-after : {T : Type 0} (r : Result T Stop) (before now : ℕ) → run_status r ≡ status.WriteFault
    → FaultsAfter before now r → Rose before now
rose-after (Ok x) before now e h = absurd cc
rose-after (Err stop.WriteFault) before now e h = h
rose-after (Err stop.NoMemory) before now e h = absurd cc

-- A command on a source text is not answered with these statuses.
pub run-others : {T : Type 0} (r : Result T Stop)
    → (run_status r ≢ status.Usage) × (run_status r ≢ status.ReadFault) × (run_status r ≢ status.TooLong)
    × (run_status r ≢ status.BadInput)
run-others (Ok x) = ((λ e. absurd cc), (λ e. absurd cc), (λ e. absurd cc), λ e. absurd cc)
run-others (Err stop.WriteFault) = ((λ e. absurd cc), (λ e. absurd cc), (λ e. absurd cc), λ e. absurd cc)
run-others (Err stop.NoMemory) = ((λ e. absurd cc), (λ e. absurd cc), (λ e. absurd cc), λ e. absurd cc)

-- A command leaves the world where it makes no call on it.
pub leaves : {P : Type 0} (o : Option Command) (c : Command) (r : Status) → o ≡ Some c → (KeepsWorld c → P)
    → ((r ≡ status.BadInput) ⊎ ((r ≡ status.TooLong) ⊎ (r ≡ status.ReadFault)) → P) → r ≢ status.Usage → LeavesWorld o r
    → P
leaves o c r asks keeps refused not_usage h = elim h [
  | inl none ↦ absurd cc
  | inr more ↦ elim more [
    | inl is ↦ keeps (subst KeepsWorld (one-command o is.0 c is.1 asks) is.2)
    | inr rest ↦ elim rest [ inl usage ↦ absurd (not_usage usage) | inr stops ↦ refused stops ]
  ]
]

-- The promise for an input that was parsed.
pub parsed-meets : {T : Type 0} (threads : Bool) (may : List ℕ → Source → List ℕ → Type 0) (before middle : Streams)
    (bytes : List ℕ) (input : Input) (r : Result T Stop) (written : Option (List ℕ)) (faults : ℕ)
    → (h : ReadsInput threads before middle bytes input) →
    ((t : Source) → IsText threads bytes t → SaysOutput middle.written written (may bytes t) r)
    → FaultsAfter middle.write_faults faults r →
    TextMeets threads may before (record {
      left = middle.left;
      taken = middle.taken;
      read_faults = middle.read_faults;
      written = written;
      write_faults = faults;
    }) (run_status r)
parsed-meets threads may before middle bytes input r written faults h says counted =
    let said : (t : Source) → IsText threads bytes t → SaysOutput before.written written (may bytes t) r =
    λ t text. subst (λ o. SaysOutput o written (may bytes t) r) h.written (says t text) in
    let after : Streams = record {
      left = middle.left;
      taken = middle.taken;
      read_faults = middle.read_faults;
      written = written;
      write_faults = faults;
    } in
    let others = run-others r in
    let read = h.parsed.read in
    read-meets threads may before after (run_status r) bytes h.consumed h.end h.few h.taken
    (λ e. (
      read.source,
      read.text,
      done-says r before.written written (may bytes read.source) e (said read.source read.text),
    ))
    (λ e. absurd (others.3 e))
    (λ e. text-part threads may bytes before.written written h.good
    (λ p t. stopped-says r before.written written (may bytes p) e (said p t)))
    (λ e. rose-after r before.write_faults faults e (subst (λ n. FaultsAfter n faults r) h.faults counted))
    (others.0, others.1, others.2)

-- A part of an output that `may` allows is a part of one that `or` allows, if `or` allows more.
part-of-more : (threads : Bool) (may or : List ℕ → Source → List ℕ → Type 0)
    → ((bytes : List ℕ) (t : Source) (out : List ℕ) → may bytes t out → or bytes t out) →
    (bytes : List ℕ) (a z : Option (List ℕ)) → WritesPart threads may bytes a z → WritesPart threads or bytes a z
part-of-more threads may or more bytes a z part = record {
  lines = λ t text. let one = part.lines t text in (one.0, more bytes t one.0 one.1, one.2);
  refusal = part.refusal;
}

if_some : {A : Type 0} {P Q : A → Type 0} (o : Option A) → ((x : A) → P x → Q x) → IfSome o P → IfSome o Q
if_some None more h = tt
if_some (Some x) more h = more x h

-- What is promised for some outputs is promised for more.
pub meets-more : (threads : Bool) (may or : List ℕ → Source → List ℕ → Type 0)
    → ((bytes : List ℕ) (t : Source) (out : List ℕ) → may bytes t out → or bytes t out) →
    (before after : Streams) (r : Status) → TextMeets threads may before after r → TextMeets threads or before after r
meets-more threads may or more before after r h = record {
  not_usage = h.not_usage;
  done = λ e. if_some before.left (λ bytes d. (
    d.0,
    d.1,
    let w = d.2 in (w.0, w.1, (w.2.0, more bytes w.0 w.2.0 w.2.1, w.2.2)),
  )) (h.done e);
  bad_input = h.bad_input;
  too_long = h.too_long;
  long_told = h.long_told;
  read_fault = h.read_fault;
  write_fault = h.write_fault;
  part = λ few e. if_some before.left
      (λ bytes. part-of-more threads may or more bytes before.written after.written) (h.part few e);
  complete = h.complete;
  refused = h.refused;
  faulty = h.faulty;
  at_most = h.at_most;
}

-- One output of a command for each source text.
pub one-output : Command → List ℕ → Source → List ℕ
one-output c bytes p = (some-output c p).0

-- The promise for a command whose input was rejected.
pub rejected-meets : (c : Command) (threads : Bool) → has_threads c ≡ threads → (before after : Streams) (r : Status)
    → TextMeets threads (exactly (one-output c)) before after r → CommandMeets c before after r
unfolding one-output
rejected-meets c threads kind before after r h =
    subst (λ b. TextMeets b (allowed_by c) before after r) (sym kind)
    (meets-more threads (exactly (one-output c)) (allowed_by c)
    (λ bytes t out is. subst (IsOutput c (Some t)) (sym is) (some-output c t).1) before after r h)

-- The promise for an input that was read but not parsed.
pub refused-meets : {T : Type 0} (threads : Bool) (may : List ℕ → Source → List ℕ → Type 0) (before after : Streams) (r : Result T Status) (bytes items : List ℕ)
    → bytes ≡ items → Consumes before.left after.left items → IsAtEnd after.left → length items ≤ input_limit →
    rise before.taken after.taken ≡ length items → (r ≡ Err status.BadInput → WritesFault threads before after bytes) →
    ((r ≡ Err status.WriteFault) ⊎ (r ≡ Err status.NoMemory) → WritesPart threads may bytes before.written after.written)
    → (r ≡ Err status.WriteFault → Rose before.write_faults after.write_faults) →
    IfErr r IsRefusal → IfErr r (TextMeets threads may before after)
refused-meets threads may before after (Ok x) bytes items same consumed end few taken bad part rose others = tt
refused-meets threads may before after (Err s) bytes items same consumed end few taken bad part rose others =
    read-meets threads may before after s bytes (subst (Consumes before.left after.left) (sym same) consumed) end
    (subst (λ l. length l ≤ input_limit) (sym same) few) (taken ∙ ap (λ l. length l) (sym same))
    (λ e. absurd (subst IsRefusal e others)) (λ e. bad (ap Err e))
    (λ e. part (elim e [ inl a ↦ inl (ap Err a) | inr b ↦ inr (ap Err b) ])) (λ e. rose (ap Err e)) (
      (λ e. absurd (subst IsRefusal e others)),
      (λ e. absurd (subst IsRefusal e others)),
      λ e. absurd (subst IsRefusal e others),
    )

-- The input that was parsed.
pub parsed-input : (threads : Bool) (before after : Streams) (input : Input) (bytes items : List ℕ)
    → bytes ≡ items → Consumes before.left after.left items → IsAtEnd after.left → length items ≤ input_limit →
    rise before.taken after.taken ≡ length items → IsInput threads bytes input
    → ((fault : Fault) → IsFault threads bytes fault → ⊥) →
    (after.written ≡ before.written) × (after.write_faults ≡ before.write_faults)
    → ReadsInput threads before after items input
parsed-input threads before after input bytes items same consumed end few taken parsed good still = record {
  consumed = consumed;
  end = end;
  few = few;
  taken = taken;
  parsed = subst (λ bs. IsInput threads bs input) same parsed;
  good = subst (λ bs. (fault : Fault) → IsFault threads bs fault → ⊥) same good;
  written = still.0;
  faults = still.1;
}

GeneratedMeets : Command → Streams → Streams → Status → Type 0
GeneratedMeets (Run flags) before after r = Unit {0}
GeneratedMeets (Threads flags) before after r = Unit {0}
GeneratedMeets Check before after r = Unit {0}
GeneratedMeets (Gen number size) before after r = GenMeets number size before after r

-- The promise for the arguments of `gen`.
pub generated-meets : (words : List (List ℕ)) (before after : Streams) (r : Status) (number size : ℕ)
    → command_of_args words ≡ Some (Gen number size) → GenMeets number size before after r →
    (r ≢ status.ReadFault → after.read_faults ≡ before.read_faults)
    → (r ≢ status.WriteFault → after.write_faults ≡ before.write_faults) → PlayMeets words before after r
unfolding GeneratedMeets
generated-meets words before after r number size asks meets reads writes = record {
  no_command = λ none. absurd (let e : None ≡ Some (Gen number size) = sym none ∙ asks in cc);
  command = λ k told needs. absurd (let e : has_input (Gen number size)
      ≡ true = subst (λ c. has_input c ≡ true) (one-command (command_of_args words) k (Gen number size) told asks)
      needs in cc);
  generated = λ n s told. subst (λ c. GeneratedMeets c before after r)
      (one-command (command_of_args words) (Gen number size) (Gen n s) asks told) meets;
  reads = reads;
  writes = writes;
}
