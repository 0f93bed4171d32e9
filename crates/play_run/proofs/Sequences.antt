-- Parts that are run one after the other.
use Rattle.std.proofs.Common.{◌≡◌, ℕ, List, [], ◌++◌, sym, ap, ◌∙◌, subst, Option, None, Ok, Err, OnOk, append_assoc}
use Rattle.std.proofs.lemmas.Grind.{flat_map-append}
use Rattle.std.specs.declared.result.Result.{Result}
use Rattle.lang_ast.specs.Terms.{Func}
use Rattle.snap_policy.specs.declared.policy.BuiltIn.{BuiltIn}
use Rattle.snap_api.specs.World.{World}
use Rattle.snap_api.specs.declared.data.Entry.{Entry}
use Rattle.lang_script.specs.StepCalls.{ActorPart}
use Rattle.script_lang.specs.Lines.{LineStyle}
use Rattle.play_run.specs.RunOutput.{Run, parts_lines, parts_after}
use Rattle.play_run.specs.RunState.{RunFacts, IsRun, RunsAt, flat}
use Rattle.play_run.specs.RunPromise.{WritesBytes}
use Rattle.play_run.specs.declared.memory.RunMemory.{RunMemory}
use Rattle.recomposer.specs.declared.composition.Composition.{Composition}
use Rattle.rt_streams.proofs.Parts.{part-none}
use Rattle.play_run.specs.declared.write_lines.Stop.{Stop}
use Rattle.play_run.proofs.RunLines.{lines_append, after_append}
use Rattle.play_run.proofs.Stops.{at_stop, stops_unmade, stops_then, stops_front}
use Rattle.play_run.proofs.Written.{says_behind, says_front, says_same}

module _ {V : Type 0} {stands : V → World BuiltIn → Type 0} {log : V → Option (List Entry)} (t : LineStyle)
    (functions : List Func) (actor : ℕ) where
  -- Nothing was run yet.
  pub runs_none : {T : Type 0} {world : V} {memory : RunMemory} (frame : Option ℕ) (written : Option (List ℕ)) (r : Run)
      (x : T) → IsRun functions stands log world memory actor frame r →
      WritesBytes {T = T} {E = Stop} written written [] (Ok x)
      → RunsAt {T = T} t functions stands log actor [] world memory frame written written r (Ok x)
  runs_none frame written r x h says = record { says = says; left = h; stops = tt }

  -- The run stopped before its first call.
  pub runs_unmade : {T : Type 0} {world : V} {memory : RunMemory} (frame : Option ℕ) (written : Option (List ℕ))
      (r : Run) (e : Stop) (ps : List ActorPart) → IsRun functions stands log world memory actor frame r
      → RunsAt {T = T} t functions stands log actor ps world memory frame written written r (Err e)
  runs_unmade {world = world} frame written r e ps h = record {
    says = record { all = tt; part = part-none written _ };
    left = tt;
    stops = stops_unmade t functions r ps (log world) written written [] (at_stop functions r r.log (log world) h.logged)
        (part-none written []);
  }

  -- Parts were run, and then more parts.
  pub runs_then : {T U : Type 0} {world' world'' : V} {memory' memory'' : RunMemory} (frame' frame'' : Option ℕ)
      (written written' written'' : Option (List ℕ)) (r : Run) (x : T) (result : Result U Stop)
      (ps qs : List ActorPart) →
      RunsAt {T = T} t functions stands log actor ps world' memory' frame' written written' r (Ok x) →
      RunsAt t functions stands log actor qs world'' memory'' frame'' written' written'' (parts_after functions r ps)
      result →
      RunsAt t functions stands log actor (ps ++ qs) world'' memory'' frame'' written written'' r result
  runs_then {world'' = world''} {memory'' = memory''} frame' frame'' written written' written'' r x result ps qs one two = record {
    says = says_same result written written'' _ _
        (sym (flat_map-append (λ l. l) (parts_lines t functions r ps)
        (parts_lines t functions (parts_after functions r ps) qs))
        ∙ ap flat (sym (lines_append t functions r ps qs)))
        (says_behind result written written' written'' _ _ one.says.all two.says);
    left = subst (λ s. OnOk result (IsRun functions stands log world'' memory'' actor frame'' s))
        (sym (after_append t functions r ps qs)) two.left;
    stops = stops_then t functions r ps qs (log world'') result written written' written'' one.says.all two.stops;
  }

  -- Parts were run up to an error.
  pub runs_stopped : {T U : Type 0} {world' : V} {memory' memory'' : RunMemory} (frame' frame'' : Option ℕ)
      (written written' : Option (List ℕ)) (r : Run) (e f : Stop) (ps qs : List ActorPart) →
      RunsAt {T = T} t functions stands log actor ps world' memory' frame' written written' r (Err e) →
      RunsAt {T = U} t functions stands log actor (ps ++ qs) world' memory'' frame'' written written' r (Err f)
  runs_stopped {world' = world'} frame' frame'' written written' r e f ps qs one = record {
    says = says_same _ written written' _ _
        (sym (flat_map-append (λ l. l) (parts_lines t functions r ps)
        (parts_lines t functions (parts_after functions r ps) qs))
        ∙ ap flat (sym (lines_append t functions r ps qs)))
        (says_front e f written written' _ _ one.says);
    left = tt;
    stops = stops_front t functions r ps qs (log world') written written' one.stops;
  }

  -- The same parts in another form.
  pub runs_same : {U : Type 0} {world' : V} {memory' : RunMemory} (frame' : Option ℕ)
      (written written' : Option (List ℕ)) (r : Run) (result : Result U Stop) (ps qs : List ActorPart) → ps ≡ qs →
      RunsAt t functions stands log actor ps world' memory' frame' written written' r result
      → RunsAt t functions stands log actor qs world' memory' frame' written written' r result
  runs_same {world' = world'} {memory' = memory'} frame' written written' r result ps qs e h =
      subst (λ l. RunsAt t functions stands log actor l world' memory' frame' written written' r result) e h

-- While no frame is open, the actor does not matter.
pub facts_as : {functions : List Func} {V : Type 0} {stands : V → World BuiltIn → Type 0} {world : V}
    {kept : Composition} {r : Run} (a b : ℕ) → RunFacts functions stands world kept a None r
    → RunFacts functions stands world kept b None r
facts_as a b h = record {
  world_stands = h.world_stands;
  valid = h.valid;
  few = h.few;
  known = h.known;
  is_at = h.is_at;
  same_program = h.same_program;
  noted = h.noted;
  at_frame = h.at_frame;
}

pub run_as : {V : Type 0} {stands : V → World BuiltIn → Type 0} {log : V → Option (List Entry)} {functions : List Func}
    {world : V} {memory : RunMemory} {r : Run} (a b : ℕ) → IsRun functions stands log world memory a None r
    → IsRun functions stands log world memory b None r
run_as a b h = record { facts = facts_as a b h.facts; named = h.named; logged = h.logged }

pub runs_as : {V T : Type 0} {stands : V → World BuiltIn → Type 0} {log : V → Option (List Entry)} {t : LineStyle}
    {functions : List Func} {world : V} {memory : RunMemory} {r : Run} (a b : ℕ) (ps : List ActorPart)
    (written written' : Option (List ℕ)) (result : Result T Stop) →
    RunsAt t functions stands log a ps world memory None written written' r result
    → RunsAt t functions stands log b ps world memory None written written' r result
runs_as a b ps written written' (Ok x) h = record { says = h.says; left = run_as a b h.left; stops = tt }
runs_as a b ps written written' (Err e) h = record { says = h.says; left = tt; stops = h.stops }

-- The same outcome with another value.
pub runs_ok : {V T U : Type 0} {stands : V → World BuiltIn → Type 0} {log : V → Option (List Entry)} {t : LineStyle}
    {functions : List Func} {world : V} {memory : RunMemory} {r : Run} {actor : ℕ} {frame : Option ℕ}
    {ps : List ActorPart} {written written' : Option (List ℕ)} (a : Result T Stop) (x : T) (b : Result U Stop) (y : U)
    → a ≡ Ok x → b ≡ Ok y →
    RunsAt t functions stands log actor ps world memory frame written written' r a
    → RunsAt t functions stands log actor ps world memory frame written written' r b
runs_ok {stands = stands} {log = log} {t = t} {functions = functions} {world = world} {memory = memory} {r = r} {actor = actor} {frame = frame} {ps = ps} {written = written} {written' = written'} a x b y is same h =
    subst (λ c. RunsAt t functions stands log actor ps world memory frame written written' r c) (sym same)
    (let at = subst (λ c. RunsAt t functions stands log actor ps world memory frame written written' r c) is h in
    record { says = record { all = at.says.all; part = tt }; left = at.left; stops = tt })

pub runs_err : {V T U : Type 0} {stands : V → World BuiltIn → Type 0} {log : V → Option (List Entry)} {t : LineStyle}
    {functions : List Func} {world : V} {memory : RunMemory} {r : Run} {actor : ℕ} {frame : Option ℕ}
    {ps : List ActorPart} {written written' : Option (List ℕ)} (a : Result T Stop) (e : Stop) (b : Result U Stop)
    (f : Stop) → a ≡ Err e → b ≡ Err f →
    RunsAt t functions stands log actor ps world memory frame written written' r a
    → RunsAt t functions stands log actor ps world memory frame written written' r b
runs_err {stands = stands} {log = log} {t = t} {functions = functions} {world = world} {memory = memory} {r = r} {actor = actor} {frame = frame} {ps = ps} {written = written} {written' = written'} a e b f is same h =
    subst (λ c. RunsAt t functions stands log actor ps world memory frame written written' r c) (sym same)
    (let at = subst (λ c. RunsAt t functions stands log actor ps world memory frame written written' r c) is h in
    record { says = record { all = tt; part = at.says.part }; left = tt; stops = at.stops })

-- A loop over parts: those that were run, those that are run next, and the rest.
module _ {V : Type 0} {stands : V → World BuiltIn → Type 0} {log : V → Option (List Entry)} (t : LineStyle)
    (functions : List Func) (actor : ℕ) (frame : Option ℕ) (written written' written'' : Option (List ℕ)) (r : Run)
    (done here rest left all : List ActorPart) where
  pub loop_next : {world' world'' : V} {memory' memory'' : RunMemory} → left ≡ here ++ rest → done ++ left ≡ all →
      RunsAt {T = Unit {0}} t functions stands log actor done world' memory' frame written written' r (Ok tt) →
      RunsAt {T = Unit {0}} t functions stands log actor here world'' memory'' frame written' written''
      (parts_after functions r done) (Ok tt) →
      ((done ++ here) ++ rest ≡ all)
      × RunsAt {T = Unit {0}} t functions stands log actor (done ++ here) world'' memory'' frame written written'' r
      (Ok tt)
  loop_next {world' = world'} {world'' = world''} {memory' = memory'} {memory'' = memory''} split is one two = (
    append_assoc done here rest ∙ ap (λ l. done ++ l) (sym split) ∙ is,
    runs_then t functions actor {world' = world'} {world'' = world''} {memory' = memory'} {memory'' = memory''} frame
        frame written written' written'' r tt (Ok tt) done here one two,
  )

  pub loop_stopped : {world' world'' : V} {memory' memory'' : RunMemory} (e : Stop) → left ≡ here ++ rest
      → done ++ left ≡ all →
      RunsAt {T = Unit {0}} t functions stands log actor done world' memory' frame written written' r (Ok tt) →
      RunsAt {T = Unit {0}} t functions stands log actor here world'' memory'' frame written' written''
      (parts_after functions r done) (Err e) →
      RunsAt {T = Unit {0}} t functions stands log actor all world'' memory'' frame written written'' r (Err e)
  loop_stopped {world' = world'} {world'' = world''} {memory' = memory'} {memory'' = memory''} e split is one two =
      runs_same t functions actor frame written written'' r (Err e) (done ++ (here ++ rest)) all
      (ap (λ l. done ++ l) (sym split) ∙ is)
      (runs_then t functions actor {world' = world'} {world'' = world''} {memory' = memory'} {memory'' = memory''} frame
      frame written written' written'' r tt (Err e) done (here ++ rest) one
      (runs_stopped t functions actor {world' = world''} {memory' = memory''} {memory'' = memory''} frame frame written'
      written'' (parts_after functions r done) e e here rest two))
