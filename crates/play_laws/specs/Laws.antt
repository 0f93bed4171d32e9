-- Trusted: the laws of woven histories and of what is printed of them.
use Rattle.std.specs.Prelude.{◌≡◌, ◌≢◌, ℕ, ◌<◌, List, [], ◌∷◌, ◌++◌, map, length, true, false, Option, Some, None}
use Rattle.std.specs.List.{flat_map}
use Rattle.rt_values.specs.Maps.{contains}
use Rattle.lang_ast.specs.Terms.{Func}
use Rattle.lang_ast.specs.declared.program.State.{State}
use Rattle.lang_ast.specs.declared.script.DoForm.{DoForm}
use Rattle.snap_policy.specs.Rules.{Rules}
use Rattle.snap_policy.specs.declared.policy.BuiltIn.{BuiltIn}
use Rattle.snap_policy.specs.Table.{table}
use Rattle.snap_api.specs.declared.data.Entry.{Entry}
use Rattle.snap_api.specs.declared.data.Reply.{Reply}
use Rattle.snap_api.specs.declared.data.Request.{Request}
use Rattle.snap_api.specs.World.{World, History, IsLegal, world_after}
use Rattle.snap_api.specs.DeskReads.{call_of, reads_of}
use Rattle.snap_api.specs.Valid.{IsValid}
use Rattle.snap_shared.specs.SharedCalls.{own_calls, HasOnlyCallersBelow}
use Rattle.lang_script.specs.Scripts.{actors_of}
use Rattle.lang_script.specs.ScriptFaults.{script_faults}
use Rattle.lang_script.specs.StepCalls.{Notes, ActorPart, no_notes, request_of, notes_after, opening_world, script_parts, sequential}
use Rattle.script_lang.specs.Lines.{LineStyle, Standing, actor_name, lines, standing_after}
use Rattle.script_lang.specs.PrintedCalls.{reads_frame, frames_after, printed_calls}
use Rattle.play_laws.specs.PrintedHistory.{printed_history, frames_after_calls}
use Rattle.play_laws.specs.Woven.{parts_of_actor, AreOf, actor_parts, ActorState, actor_at, initial_actor, SpellsAll, IsWoven}
use Rattle.play_laws.specs.FirstParts.{IsFirstPart, SpellsTo}
use Rattle.play_laws.specs.FramesInTurn.{AreInTurn}

-- The printed calls of a legal history are legal from the same world, and leave the same world.
abbrev pub PrintedIsLegal : {P : Type 0} → Rules P → Type 0
PrintedIsLegal {P} rules = (w : World P) (h : History) → IsLegal rules w h →
    IsLegal rules w (printed_history h) × (world_after rules w (printed_history h) ≡ world_after rules w h)

-- Of each caller the printed history has the calls that are printed of this caller alone.
abbrev pub PrintedByCaller : Type 0
PrintedByCaller = (a : ℕ) (h : History) → own_calls a (printed_history h) ≡ printed_calls [] (own_calls a h)

-- If each actor's own calls, as printed, are those that its parts make, and no one else calls, then the printed calls
-- of a legal history are legal and woven.
abbrev pub PrintedIsWoven : {P : Type 0} → Rules P → Type 0
PrintedIsWoven {P} rules = (n : ℕ) (actors : ℕ → ActorState) (w : World P) (h : History) → IsLegal rules w h →
    ((a : ℕ) → a < n → SpellsAll (actors a) (printed_calls [] (own_calls a h))) → HasOnlyCallersBelow n h →
    IsLegal rules w (printed_history h) × IsWoven n actors (printed_history h)

-- Of each actor below `n` these calls are those of a first part of its steps.
abbrev pub AreFirstParts : ℕ → List ActorPart → (ℕ → History) → Type 0
AreFirstParts n parts calls = (a : ℕ) → a < n → IsFirstPart (initial_actor parts a) (calls a)

-- A history can be continued to a legal and woven one.
abbrev pub CanBeCompleted : ℕ → List ActorPart → World BuiltIn → History → Type 0
CanBeCompleted n parts w h =
    (more : History) × IsLegal table w (h ++ more) × IsWoven n (initial_actor parts) (h ++ more)

-- A legal history in which each actor has made the calls of a first part of its steps, and no one else calls, can be
-- continued to a legal and woven one.
abbrev pub PartIsCompleted : Type 0
PartIsCompleted = (n : ℕ) (parts : List ActorPart) (w : World BuiltIn) (h : History) → IsLegal table w h →
    AreFirstParts n parts (λ a. own_calls a h) → HasOnlyCallersBelow n h → CanBeCompleted n parts w h

-- If each actor's own calls, as printed, are those of a first part of its steps, and no one else calls, then the
-- printed calls of a legal history can be continued to a legal and woven one.
abbrev pub PrintedPartIsCompleted : Type 0
PrintedPartIsCompleted = (n : ℕ) (parts : List ActorPart) (w : World BuiltIn) (h : History) → IsLegal table w h →
    AreFirstParts n parts (λ a. printed_calls [] (own_calls a h)) → HasOnlyCallersBelow n h →
    CanBeCompleted n parts w (printed_history h)

-- A text without a colon (code 58).
abbrev pub HasNoColon : List ℕ → Type 0
HasNoColon [] = Unit {0}
HasNoColon (c ∷ cs) = (c ≢ 58) × HasNoColon cs

-- The names of the first `n` actors have no colon, and no two of them are equal.
pub record AreActorNames (n : ℕ) (name : ℕ → List ℕ) : Type 0 where
  pub plain : (a : ℕ) → a < n → HasNoColon (name a)
  pub distinct : (a b : ℕ) → a < n → b < n → name a ≡ name b → a ≡ b

-- The actors of a script have distinct names.
abbrev pub ActorNamesAreDistinct : Type 0
ActorNamesAreDistinct = (forms : List DoForm) (a b : ℕ) →
    a < length (actors_of forms) → b < length (actors_of forms) →
    actor_name (actors_of forms) a ≡ actor_name (actors_of forms) b → a ≡ b

-- The bytes of the lines of a history.
abbrev pub text_of : LineStyle → List Func → Standing → History → List ℕ
text_of style functions s h = flat_map (λ l. l) (lines style functions s h)

-- The bytes of a history that goes on begin with those of its first part.
abbrev pub TextGoesOn : Type 0
TextGoesOn = (style : LineStyle) (functions : List Func) (s : Standing) (h more : History) →
    text_of style functions s (h ++ more)
    ≡ text_of style functions s h ++ text_of style functions (standing_after functions s h) more

-- Two histories that are legal and woven of the same actors are equal if their printed bytes are equal.
abbrev pub LinesTellTheHistory : Type 0
LinesTellTheHistory = (style : LineStyle) (functions : List Func) (n : ℕ) →
    AreActorNames n (actor_name style.titles.actors) →
    (s : Standing) (actors : ℕ → ActorState) (h k : History) → IsLegal table s.world h → IsLegal table s.world k →
    IsWoven n actors h → IsWoven n actors k → text_of style functions s h ≡ text_of style functions s k → h ≡ k

-- The sequential history of one actor is woven.
abbrev pub SequentialIsWoven : Type 0
SequentialIsWoven = (w : World BuiltIn) (parts : List ActorPart) → AreOf 0 parts →
    IsWoven 1 (initial_actor parts) (sequential w no_notes parts)

-- No other history of one actor is both legal and woven.
abbrev pub WovenIsSequential : Type 0
WovenIsSequential = (w : World BuiltIn) (parts : List ActorPart) (h : History) → AreOf 0 parts →
    IsLegal table w h → IsWoven 1 (initial_actor parts) h → h ≡ sequential w no_notes parts

-- An actor without a call is in the state in which it began.
abbrev pub NothingIsSpelled : Type 0
NothingIsSpelled = (s : ActorState) → SpellsTo s [] s

-- The call of the next part is one call more.
abbrev pub CallIsSpelled : Type 0
CallIsSpelled = (before : ActorState) (h : History) (n : Notes) (p : ActorPart) (rest : List ActorPart)
    (q : Request) (r : Reply) →
    SpellsTo before h (actor_at n (p ∷ rest)) → request_of n p.part ≡ Some q →
    SpellsTo before (h ++ record { caller = p.actor; request = q; reply = r } ∷ [])
    (actor_at (notes_after n p.part r) rest)

-- A part that makes no call is passed.
abbrev pub PartIsPassed : Type 0
PartIsPassed = (before : ActorState) (h : History) (n : Notes) (p : ActorPart) (rest : List ActorPart) →
    SpellsTo before h (actor_at n (p ∷ rest)) → request_of n p.part ≡ None → SpellsTo before h (actor_at n rest)

-- If no part is left, the calls are all that the parts make.
abbrev pub AllIsSpelled : Type 0
AllIsSpelled = (before : ActorState) (h : History) (n : Notes) → SpellsTo before h (actor_at n []) → SpellsAll before h

-- A call of a caller is printed if it does not read the snapshot of an open frame.
abbrev pub CallIsPrinted : Type 0
CallIsPrinted = (h : History) (e : Entry) → reads_frame (frames_after_calls [] h) e.request ≡ false →
    (printed_calls [] (h ++ e ∷ []) ≡ printed_calls [] h ++ e ∷ [])
    × (frames_after_calls [] (h ++ e ∷ []) ≡ frames_after (frames_after_calls [] h) e)

-- Reads of the snapshot of an open frame are not printed, and leave the frames open.
abbrev pub FrameReadsAreLeftOut : Type 0
FrameReadsAreLeftOut = (h more : History) (a name : ℕ) (xs : List ℕ) →
    contains name (frames_after_calls [] h) ≡ true →
    map call_of more ≡ reads_of a name xs →
    (printed_calls [] (h ++ more) ≡ printed_calls [] h) × (frames_after_calls [] (h ++ more) ≡ frames_after_calls [] h)

-- The parts of one actor are those of the script's steps for this actor.
abbrev pub PartsAreOfScript : Type 0
PartsAreOfScript = (a : ℕ) (actors : List (List ℕ)) (forms : List DoForm) →
    parts_of_actor a (script_parts actors forms) ≡ actor_parts a actors forms

-- In a script without the faults of `threads` frames are in turn, in each legal and woven history: one actor at most
-- has frames, and no other actor has a name for their snapshots.
abbrev pub FramesAreInTurn : Type 0
FramesAreInTurn = (states : List State) (first_oversized : Option ℕ) (forms : List DoForm) (h : History) →
    IsValid table (opening_world states) → script_faults true states first_oversized forms ≡ [] →
    let actors = actors_of forms in
    IsLegal table (opening_world states) h → IsWoven (length actors) (initial_actor (script_parts actors forms)) h →
    AreInTurn None h
