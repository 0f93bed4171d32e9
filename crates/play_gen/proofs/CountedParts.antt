-- The state of a counted run after the parts of steps, and their counts.
use Rattle.std.proofs.Common.{◌≡◌, ℕ, ◌==◌, ◌||◌, inl, inr, List, [], ◌∷◌, ◌++◌, true, false, refl, sym, ap, ◌∙◌, subst, Option, Some, None, Ok, Err, OnOk}
use Rattle.std.proofs.lemmas.Bool.Decides.{eqb_tells}
use Rattle.std.specs.declared.result.Result.{Result}
use Rattle.rt_values.specs.declared.names.NoMemory.{NoMemory}
use Rattle.lang_ast.specs.Terms.{Func}
use Rattle.lang_ast.specs.declared.program.State.{State}
use Rattle.compose_model.specs.Frame.{frame, kept_after}
use Rattle.lang_ast.specs.Programs.{functions_of}
use Rattle.recomposer.specs.Compositions.{IsAt}
use Rattle.snap_policy.specs.declared.policy.BuiltIn.{BuiltIn}
use Rattle.snap_policy.specs.Table.{table}
use Rattle.snap_api.specs.World.{World, call}
use Rattle.snap_api.specs.declared.data.Reply.{Reply}
use Rattle.snap_api.specs.declared.data.Request.{Request}
use Rattle.snap_api.specs.declared.data.Request.TheVariants as request
use Rattle.snap_api.specs.declared.data.Entry.{Entry}
use Rattle.lang_script.specs.StepCalls.{Part, BeginFrame, EndFrame, ActorPart, of_actor, request_of, end_request, notes_after, entry, sequential, frame_begun, watcher_number}
use Rattle.script_lang.specs.Lines.{LineStyle, Standing, ends_frame, next}
use Rattle.play_run.specs.RunOutput.{Run, first_run, run_after_request, part_after, parts_after}
use Rattle.play_run.specs.RunState.{RunFacts, IsPlain}
use Rattle.play_run.proofs.OpenFrames.{IsPlainCall}
use Rattle.play_run.proofs.RunLogs.{next_world}
use Rattle.play_run.proofs.RunLines.{after_append}
use Rattle.play_run.proofs.RunParts.{is_plain_call, plain_facts}
use Rattle.play_run.proofs.FrameParts.{Noted, begun, frame_map, outcome, end_facts}
use Rattle.play_gen.specs.declared.tally.Tally.{Tally}
use Rattle.play_gen.specs.declared.counting.Counting.{Counting}
use Rattle.play_gen.specs.Tallies.{no_counts, reply_counted, frame_counted, is_outside, entry_counted, history_counted, run_counted}
use Rattle.play_gen.specs.Counting.{request_counted, parts_counted, CountsAt}
use Rattle.snap_api.proofs.LawsViews.{equal as itself}

-- How lines are written does not matter here.
abbrev some_style : LineStyle
some_style = record { titles = record { states = []; actors = [] }; flags = record { json = false; ops = false } }

-- A plain call outside frames.
outside : (q : Request) → IsPlainCall q → (ends_frame [] q ≡ false) × (is_outside [] q ≡ true)
outside (request.Take parent kind) plain = (refl, refl)
outside (request.TakeFor watcher) plain = absurd plain
outside (request.Read n x) plain = (refl, refl)
outside (request.Write n x v) plain = (refl, refl)
outside (request.Apply n) plain = (refl, refl)
outside (request.Dispose n) plain = (refl, refl)

outside_counted : (functions : List Func) (t : Tally) (s : Standing) (e : Entry) → s.frames ≡ [] → IsPlainCall e.request
    → entry_counted functions t s e ≡ reply_counted t e.reply
outside_counted functions t s e none plain =
    let is = outside e.request plain in
    let ends : ends_frame s.frames e.request ≡ false = ap (λ fs. ends_frame fs e.request) none ∙ is.0 in
    let out : is_outside s.frames e.request ≡ true = ap (λ fs. is_outside fs e.request) none ∙ is.1 in
    rw ends (rw out refl)

begin_counted : (functions : List Func) (t : Tally) (s : Standing) (e : Entry) → s.frames ≡ []
    → e.request ≡ request.TakeFor watcher_number → entry_counted functions t s e ≡ t
begin_counted functions t s e none is =
    let ends : ends_frame s.frames e.request ≡ false = ap (ends_frame s.frames) is in
    let out : is_outside s.frames e.request ≡ false = ap (λ fs. is_outside fs e.request) none ∙ ap (is_outside []) is in
    rw ends (rw out refl)

end_counted : (functions : List Func) (t : Tally) (r : Run) (name : ℕ) → r.standing.frames ≡ name ∷ []
    → entry_counted functions t r.standing (entry r.standing.world 0 (request.Dispose name))
    ≡ frame_counted t (outcome functions r name)
end_counted functions t r name opened =
    let ends : ends_frame r.standing.frames (request.Dispose name) ≡ true =
    ap (λ fs. ends_frame fs (request.Dispose name)) opened ∙ ap (λ b. b || false) (itself name) in
    rw ends refl

module _ (functions : List Func) where
  pub counted_append : (t : Tally) (r : Run) (ps qs : List ActorPart)
      → parts_counted functions t r (ps ++ qs)
      ≡ parts_counted functions (parts_counted functions t r ps) (parts_after functions r ps) qs
  counted_append t r [] qs = refl
  counted_append t r (p ∷ ps) qs = counted_append (request_counted functions t r p.actor (request_of r.notes p.part))
      (part_after functions r p) ps qs

  step_counted : (t : Tally) (r : Run) (p : ActorPart) (ps : List ActorPart) (o : Option Request) →
      ((t' : Tally) (r' : Run) → history_counted functions t' r'.standing (sequential r'.standing.world r'.notes ps)
      ≡ parts_counted functions t' r' ps) →
      history_counted functions t r.standing
      (elim o [
        | None ↦ sequential r.standing.world r.notes ps
        | Some q ↦ entry r.standing.world p.actor
            q ∷ sequential (call table r.standing.world p.actor q).0 (notes_after r.notes p.part
            (call table r.standing.world p.actor q).1) ps
      ])
      ≡ parts_counted functions (request_counted functions t r p.actor o) (run_after_request functions r p o) ps
  step_counted t r p ps None rest = rest t r
  step_counted t r p ps (Some q) rest =
      let e = entry r.standing.world p.actor q in
      let notes = notes_after r.notes p.part (call table r.standing.world p.actor q).1 in
      ap (λ w. history_counted functions (entry_counted functions t r.standing e) (next functions r.standing e)
      (sequential w notes ps)) (sym (next_world functions r.standing e))
      ∙ rest (entry_counted functions t r.standing e) (run_after_request functions r p (Some q))

  pub history_is : (t : Tally) (r : Run) (ps : List ActorPart)
      → history_counted functions t r.standing (sequential r.standing.world r.notes ps) ≡ parts_counted functions t r ps
  history_is t r [] = refl
  history_is t r (p ∷ ps) = step_counted t r p ps (request_of r.notes p.part) (λ t' r'. history_is t' r' ps)

-- The counts of a run.
pub run_counted_is : (states : List State) (functions : List Func) (log : Option (List Entry)) (ps : List ActorPart)
    → run_counted states functions ps ≡ parts_counted functions no_counts (first_run states log) ps
unfolding run_counted
run_counted_is states functions log ps = history_is functions no_counts (first_run states log) ps

module _ {functions : List Func} {V : Type 0} {stands : V → World BuiltIn → Type 0} where
  -- Parts were made, and then more parts.
  pub counts_then : {world' world'' : V} {counting' counting'' : Counting} (frame' frame'' : Option ℕ) (t : Tally)
      (r : Run) (ps qs : List ActorPart) →
      CountsAt functions stands ps world' counting' frame' t r
      → CountsAt functions stands qs world'' counting'' frame'' counting'.tally (parts_after functions r ps) →
      CountsAt functions stands (ps ++ qs) world'' counting'' frame'' t r
  counts_then {world'' = world''} {counting'' = counting''} frame' frame'' t r ps qs one two = record {
    facts = subst (RunFacts functions stands world'' counting''.memory.composition 0 frame'')
        (sym (after_append some_style functions r ps qs)) two.facts;
    counted = two.counted ∙ ap (λ u. parts_counted functions u (parts_after functions r ps) qs) one.counted
        ∙ sym (counted_append functions t r ps qs);
  }

  -- Nothing was made yet.
  pub counts_none : {world : V} (counting : Counting) (frame : Option ℕ) (r : Run)
      → RunFacts functions stands world counting.memory.composition 0 frame r
      → CountsAt functions stands [] world counting frame counting.tally r
  counts_none counting frame r h = record { facts = h; counted = refl }

  -- A part makes no call.
  pub counts_no_call : {world : V} (counting : Counting) (frame : Option ℕ) (r : Run) (p : Part)
      → RunFacts functions stands world counting.memory.composition 0 frame r → request_of r.notes p ≡ None →
      CountsAt functions stands (of_actor 0 p ∷ []) world counting frame counting.tally r
  counts_no_call {world} counting frame r p h is = record {
    facts = subst (RunFacts functions stands world counting.memory.composition 0 frame)
        (sym (ap (run_after_request functions r (of_actor 0 p)) is)) h;
    counted = sym (ap (request_counted functions counting.tally r 0) is);
  }

  -- The same parts in another form.
  pub counts_same : {world' : V} {counting' : Counting} (frame' : Option ℕ) (t : Tally) (r : Run)
      (ps qs : List ActorPart) → ps ≡ qs → CountsAt functions stands ps world' counting' frame' t r
      → CountsAt functions stands qs world' counting' frame' t r
  counts_same {world'} {counting'} frame' t r ps qs e h =
      subst (λ l. CountsAt functions stands l world' counting' frame' t r) e h

  -- A call was made outside frames.
  pub counts_call : {world world' : V} (counting counting' : Counting) (r : Run) (p : Part) (q : Request) (y : Reply)
      → IsPlain p → request_of r.notes p ≡ Some q →
      RunFacts functions stands world counting.memory.composition 0 None r
      → stands world' (call table r.standing.world 0 q).0 → y ≡ (call table r.standing.world 0 q).1 →
      counting'.memory.composition ≡ counting.memory.composition → counting'.tally ≡ reply_counted counting.tally y
      → CountsAt functions stands (of_actor 0 p ∷ []) world' counting' None counting.tally r
  counts_call {world} {world'} counting counting' r p q y plain is h stood told kept tallied =
      let t = counting.tally in
      record {
        facts =
            subst (λ k. RunFacts functions stands world' k 0 None (part_after functions r (of_actor 0 p))) (sym kept)
            (plain_facts some_style functions r 0 p q {stands = stands} {world = world}
            {kept = counting.memory.composition} plain is None h stood);
        counted = tallied ∙ ap (reply_counted t) told
            ∙ sym (outside_counted functions t r.standing (entry r.standing.world 0 q) h.at_frame
            (is_plain_call r.notes p q plain is))
            ∙ sym (ap (request_counted functions t r 0) is);
      }

  -- A frame was begun.
  pub counts_begin : {world world' : V} (counting counting' : Counting) (r : Run) (y : Reply) (x : Option ℕ)
      → y ≡ (call table r.standing.world 0 (request.TakeFor watcher_number)).1 → x ≡ frame_begun y
      → Noted y counting.memory.composition counting'.memory.composition →
      RunFacts functions stands world counting.memory.composition 0 None r
      → stands world' (call table r.standing.world 0 (request.TakeFor watcher_number)).0
      → counting'.tally ≡ counting.tally →
      CountsAt functions stands (of_actor 0 BeginFrame ∷ []) world' counting' x counting.tally r
  counts_begin {world} {world'} counting counting' r y x is begins noted h stood same = record {
    facts = subst (λ o. RunFacts functions stands world' counting'.memory.composition 0 o
        (part_after functions r (of_actor 0 BeginFrame))) (sym begins) (begun 0 r y is h stood noted);
    counted = same ∙ sym (begin_counted functions counting.tally r.standing
        (entry r.standing.world 0 (request.TakeFor watcher_number)) h.at_frame refl);
  }

  -- A frame was ended.
  pub counts_end : {world world' : V} (counting counting' : Counting) (r : Run) (name : ℕ)
      (h : RunFacts functions stands world counting.memory.composition 0 (Some name) r)
      → stands world' (call table r.standing.world 0 (request.Dispose name)).0 →
      IsAt counting'.memory.composition
      (kept_after r.standing.kept (frame (functions_of counting.memory.composition.program.now) r.standing.kept
      (frame_map r name))) (Some (frame_map r name)) →
      counting'.memory.composition.program ≡ counting.memory.composition.program
      → counting'.tally ≡ frame_counted counting.tally (outcome functions r name) →
      CountsAt functions stands (of_actor 0 EndFrame ∷ []) world' counting' None counting.tally r
  counts_end {world} {world'} counting counting' r name h stood at program tallied =
      let t = counting.tally in
      record {
        facts = end_facts 0 name r h stood at program;
        counted = tallied ∙ sym (end_counted functions t r name h.at_frame.frames)
            ∙ sym (ap (request_counted functions t r 0) (ap end_request h.noted));
      }

-- Parts were made, and then more parts unless the process is out of memory.
pub then_ok : {V T : Type 0} {functions : List Func} {stands : V → World BuiltIn → Type 0} {world' : V}
    {counting' : Counting} (world'' : V) (counting'' : Counting) (result : Result T NoMemory)
    (frame' frame'' : Option ℕ) (t : Tally) (r : Run) (ps qs all : List ActorPart) → ps ++ qs ≡ all →
    CountsAt functions stands ps world' counting' frame' t r
    → OnOk result (CountsAt functions stands qs world'' counting'' frame'' counting'.tally
    (parts_after functions r ps)) →
    OnOk result (CountsAt functions stands all world'' counting'' frame'' t r)
then_ok world'' counting'' (Ok x) frame' frame'' t r ps qs all e one two =
    counts_same frame'' t r (ps ++ qs) all e (counts_then frame' frame'' t r ps qs one two)
then_ok world'' counting'' (Err e) frame' frame'' t r ps qs all e' one two = tt
