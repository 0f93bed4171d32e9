-- How far an actor has come after a part, and after the reads of a frame.
use Rattle.std.proofs.Common.{◌≡◌, ℕ, ◌==◌, List, [], ◌∷◌, ◌++◌, ◌||◌, true, false, cond, refl, sym, ap, ◌∙◌, subst, Option, Some, None, eq-eqb}
use Rattle.std.proofs.lemmas.Option.{same_Some as some_same}
use Rattle.rt_values.specs.Maps.{contains}
use Rattle.snap_policy.specs.declared.policy.BuiltIn.{BuiltIn}
use Rattle.snap_policy.specs.Table.{table}
use Rattle.snap_api.specs.Calls.{is_no_memory}
use Rattle.snap_api.specs.DeskReads.{LogsReadsIn}
use Rattle.snap_api.specs.World.{World, History, call, world_after, IsLegal}
use Rattle.snap_api.specs.declared.data.Entry.{Entry}
use Rattle.snap_api.specs.declared.data.Reply.{Reply}
use Rattle.snap_api.specs.declared.data.Request.{Request}
use Rattle.snap_shared.specs.HistoryEffects.{after_append, legal_parts}
use Rattle.snap_shared.specs.SeatDesk.{SeatAfterReads}
use Rattle.snap_shared.specs.Seats.{seen_by, mine_of}
use Rattle.snap_shared.specs.SharedCalls.{own_calls, entries_added, SeesOwnCall}
use Rattle.script_lang.specs.PrintedCalls.{printed_calls, reads_frame, frames_after}
use Rattle.lang_script.specs.StepCalls.{Part, Take, Read, Write, WriteSum, Apply, Dispose, BeginFrame, EndFrame, ActorPart, Notes, of_actor, end_request, request_of, notes_after}
use Rattle.play_laws.specs.FirstParts.{IsFirstPart, SpellsTo}
use Rattle.play_laws.specs.PartTurns.{Alternates}
use Rattle.play_laws.specs.PrintedHistory.{frames_after_calls}
use Rattle.play_laws.specs.Woven.{ActorState, actor_at}
use Rattle.play_laws.proofs.Prints.{call_is_printed, frame_reads_are_left_out}
use Rattle.play_laws.proofs.Steps.{call_is_spelled, part_is_passed}
use Rattle.play_run.specs.RunState.{AreKnown}
use Rattle.play_steps.specs.ActorNotes.{IsNoted}
use Rattle.play_threads.specs.ActorSteps.{CountsSnapshots, FrameIsApart, frame_list, HasCome, IsActorAt, IsInOrder}
use Rattle.play_steps.specs.declared.memory.ActorMemory.{ActorMemory}
use Rattle.play_threads.specs.declared.worker.Worker.{Worker}
use Rattle.play_threads.proofs.PartFacts.{MayMake, PartDone, part_done}
use Rattle.play_threads.proofs.Worlds.{counts_after, longer, known_on, apart_on}

-- The next part may be made.
may_make : (a : ℕ) (p : Part) (rest : List ActorPart) (frame : Option ℕ) → IsInOrder frame (of_actor a p ∷ rest)
    → MayMake p frame
may_make a (Take name kind parent) rest frame h = tt
may_make a (Read s x) rest frame h = tt
may_make a (Write s x v) rest frame h = tt
may_make a (WriteSum s x z) rest frame h = tt
may_make a (Apply s) rest frame h = tt
may_make a (Dispose s) rest frame h = tt
may_make a BeginFrame rest frame h = h.outside h.alternates.0
may_make a EndFrame rest frame h = tt

-- The rest of the parts, after a part that keeps the open frame.
kept_turn : (frame : Option ℕ) (p : ActorPart) (rest : List ActorPart) (h : IsInOrder frame (p ∷ rest))
    → Alternates rest h.inside → IsInOrder frame rest
kept_turn frame p rest h more = record { inside = h.inside; alternates = more; outside = h.outside }

-- The rest of the parts, after the call of the first one.
turn_after : (a : ℕ) (n : Notes) (p : Part) (r : Reply) (rest : List ActorPart)
    → IsInOrder n.frame (of_actor a p ∷ rest) → IsInOrder (notes_after n p r).frame rest
turn_after a n (Take name kind parent) r rest h =
    kept_turn n.frame (of_actor a (Take name kind parent)) rest h h.alternates
turn_after a n (Read s x) r rest h = kept_turn n.frame (of_actor a (Read s x)) rest h h.alternates
turn_after a n (Write s x v) r rest h = kept_turn n.frame (of_actor a (Write s x v)) rest h h.alternates
turn_after a n (WriteSum s x z) r rest h = kept_turn n.frame (of_actor a (WriteSum s x z)) rest h h.alternates
turn_after a n (Apply s) r rest h = kept_turn n.frame (of_actor a (Apply s)) rest h h.alternates
turn_after a n (Dispose s) r rest h = kept_turn n.frame (of_actor a (Dispose s)) rest h h.alternates
turn_after a n BeginFrame r rest h =
    record { inside = true; alternates = h.alternates.1; outside = λ e. let not : true ≡ false = e in absurd cc }
turn_after a n EndFrame r rest h = record { inside = false; alternates = h.alternates; outside = λ e. refl }

-- The rest of the parts, after a part that makes no call.
turn_passed : (a : ℕ) (n : Notes) (p : Part) (rest : List ActorPart) → IsInOrder n.frame (of_actor a p ∷ rest)
    → request_of n p ≡ None → IsInOrder n.frame rest
turn_passed a n (Take name kind parent) rest h asks = absurd cc
turn_passed a n (Read s x) rest h asks = absurd cc
turn_passed a n (Write s x v) rest h asks = absurd cc
turn_passed a n (WriteSum s x z) rest h asks = kept_turn n.frame (of_actor a (WriteSum s x z)) rest h h.alternates
turn_passed a n (Apply s) rest h asks = absurd cc
turn_passed a n (Dispose s) rest h asks = absurd cc
turn_passed a n BeginFrame rest h asks = absurd cc
turn_passed a n EndFrame rest h asks =
    record { inside = false; alternates = h.alternates; outside = λ e. none n.frame asks }
  where
    none : (frame : Option ℕ) → end_request frame ≡ None → frame ≡ None
    none None is = refl
    none (Some f) is = absurd cc

-- A part that makes no call is passed.
pub part_passed : (o : World BuiltIn) (before : ActorState) (seen mine : History) (m : ActorMemory) (a : ℕ) (p : Part)
    (rest : List ActorPart) (at : IsActorAt o before seen mine m (of_actor a p ∷ rest))
    → request_of at.notes p ≡ None → IsActorAt o before seen mine m rest
part_passed o before seen mine m a p rest at asks =
    record {
      notes = at.notes;
      noted = at.noted;
      spells = part_is_passed before (printed_calls [] mine) at.notes (of_actor a p) rest at.spells asks;
      frames = at.frames;
      known = at.known;
      apart = at.apart;
      turn = turn_passed a at.notes p rest at.turn asks;
    }

module _ {W : Type 0} (stands : W → World BuiltIn → Type 0) (opening : W) (o : World BuiltIn) (stood : stands opening o)
    (counts : CountsSnapshots o) (before : ActorState)
    (number a : ℕ) (is_callers : number ≡ a) (seen seen' mine mine' : History) (q : Request) (r : Reply)
    (c : SeesOwnCall table stands opening number seen seen' q r) (had : is_no_memory r ≡ false)
    (grew : mine' ≡ mine ++ entries_added number q r) where
  abbrev entry_made : Entry
  entry_made = record { caller = number; request = q; reply = r }

  abbrev world_then : World BuiltIn
  world_then = world_after table o (seen ++ c.continues.between)

  ends : seen' ≡ (seen ++ c.continues.between) ++ entry_made ∷ []
  ends = c.continues.is ∙ ap (λ b. (seen ++ c.continues.between) ++ cond b [] (entry_made ∷ [])) had

  told : (call table world_then number q).1 ≡ r
  told = (legal_parts table o (seen ++ c.continues.between) (entry_made ∷ [])
      (subst (λ l. IsLegal table o l) ends (c.legal o stood))).1.0

  world_now : world_after table o seen' ≡ (call table world_then number q).0
  world_now =
      ap (λ l. world_after table o l) ends ∙ after_append table o (seen ++ c.continues.between) (entry_made ∷ [])

  mine_grew : mine' ≡ mine ++ entry_made ∷ []
  mine_grew = grew ∙ ap (λ b. mine ++ cond b [] (entry_made ∷ [])) had

  module _ (m : ActorMemory) (p : Part) (rest : List ActorPart)
      (at : IsActorAt o before seen mine m (of_actor a p ∷ rest)) (asks : request_of at.notes p ≡ Some q) where
    made : PartDone at.notes p entry_made (call table world_then number q).0
    made =
        let n = at.notes in
        let more = longer o seen c.continues.between in
        part_done world_then number n (counts_after o (seen ++ c.continues.between) counts)
        (known_on (world_after table o seen) world_then n.names more at.known)
        (apart_on (world_after table o seen) world_then n.names n.frame more at.apart) p q r
        (may_make a p rest n.frame at.turn) asks told

    one_printed : (printed_calls [] (mine ++ entry_made ∷ []) ≡ printed_calls [] mine ++ entry_made ∷ [])
        × (frames_after_calls [] (mine ++ entry_made ∷ []) ≡ frames_after (frames_after_calls [] mine) entry_made)
    one_printed = call_is_printed mine entry_made (ap (λ fs. reads_frame fs q) at.frames ∙ made.unread)

    spelled_then : SpellsTo before (printed_calls [] mine') (actor_at (notes_after at.notes p r) rest)
    spelled_then =
        subst (λ l. SpellsTo before l (actor_at (notes_after at.notes p r) rest))
        (sym (ap (λ l. printed_calls [] l) mine_grew ∙ one_printed.0))
        (subst (λ (k : ℕ). SpellsTo before (printed_calls [] mine ++ record { caller = k; request = q; reply = r } ∷ [])
        (actor_at (notes_after at.notes p r) rest)) (sym is_callers)
        (call_is_spelled before (printed_calls [] mine) at.notes (of_actor a p) rest q r at.spells asks))

    -- The call of a part, also if the reply could not be noted.
    pub first_made : IsFirstPart before (printed_calls [] mine')
    first_made = spelled_then.0

    pub part_made : (m' : ActorMemory) → IsNoted m' (notes_after at.notes p r)
        → IsActorAt o before seen' mine' m' rest
    part_made m' noted =
        let n = at.notes in
        let done = made in
        record {
          notes = notes_after n p r;
          noted = noted;
          spells = spelled_then;
          frames = ap (λ l. frames_after_calls [] l) mine_grew ∙ one_printed.1
              ∙ ap (λ fs. frames_after fs entry_made) at.frames ∙ done.frames;
          known = subst (λ w. AreKnown w (notes_after n p r).names) (sym world_now) done.known;
          apart = subst (λ w. FrameIsApart w (notes_after n p r).names (notes_after n p r).frame) (sym world_now)
              done.apart;
          turn = turn_after a n p r rest at.turn;
        }

-- The reads of a frame are not printed.
pub frame_read : (o : World BuiltIn) (opens opens' : World BuiltIn → Type 0) (before : ActorState)
    (seen seen' : History) (number number' : ℕ) (opened opened' : Option ℕ) (m m' : ActorMemory) (name : ℕ)
    (left : List ActorPart) →
    SeatAfterReads table opens opens' seen seen' number number' opened opened' → opened ≡ Some name
    → ((n : Notes) → IsNoted m n → IsNoted m' n) →
    m.frame ≡ Some name → IsActorAt o before seen (own_calls number seen) m left
    → IsActorAt o before seen' (own_calls number' seen') m' left
frame_read o opens opens' before seen seen' number number' opened opened' m m' name left k is same open_frame at =
    let mine = own_calls number seen in
    let n = at.notes in
    let tells = subst (λ x. LogsReadsIn (Some mine) (Some (own_calls number' seen')) number x k.read) is k.tells in
    let grew : own_calls number' seen' ≡ mine ++ tells.more = some_same _ _ tells.log_is in
    let itself : (name == name) ≡ true = eq-eqb name name refl in
    let opened_now : contains name (frames_after_calls [] mine) ≡ true =
    ap (λ fs. contains name fs) at.frames
    ∙ ap (λ f. contains name (frame_list f)) (sym at.noted.has_frame ∙ open_frame)
    ∙ ap (λ b. b || false) itself in
    let unread = frame_reads_are_left_out mine tells.more number name k.read opened_now tells.reads in
    let more = longer o seen k.more in
    let world_same = ap (λ l. world_after table o l) k.is in
    record {
      notes = n;
      noted = same n at.noted;
      spells = subst (λ l. SpellsTo before l (actor_at n left)) (sym (ap (λ l. printed_calls [] l) grew ∙ unread.0))
          at.spells;
      frames = ap (λ l. frames_after_calls [] l) grew ∙ unread.1 ∙ at.frames;
      known = subst (λ w. AreKnown w n.names) (sym world_same)
          (known_on (world_after table o seen) (world_after table o (seen ++ k.more)) n.names more at.known);
      apart = subst (λ w. FrameIsApart w n.names n.frame) (sym world_same)
          (apart_on (world_after table o seen) (world_after table o (seen ++ k.more)) n.names n.frame more at.apart);
      turn = at.turn;
    }

-- A worker that has stopped, and one that goes on.
pub came_short : {W : Type 0} (o : World BuiltIn) (before : ActorState) (w : Worker W)
    (left : List ActorPart) (mine : History) → mine_of w.seat ≡ mine → w.short ≡ true →
    IsFirstPart before (printed_calls [] mine) → HasCome o before w left
came_short o before w left mine same short first = record {
  first = subst (λ l. IsFirstPart before (printed_calls [] l)) (sym same) first;
  on = λ ns. let e : true ≡ false = sym short ∙ ns in absurd cc;
}

pub came_on : {W : Type 0} (o : World BuiltIn) (before : ActorState) (w : Worker W) (left : List ActorPart) →
    IsActorAt o before (seen_by w.seat) (mine_of w.seat) w.memory left → HasCome o before w left
came_on o before w left at = record { first = at.spells.0; on = λ ns. at }
