-- Actors before their first step and after their last one, and the history of all.
use Rattle.std.proofs.Common.{◌≡◌, inl, inr, ℕ, zero, suc, ◌-◌, ◌<◌, List, [], ◌∷◌, ◌++◌, Bool, true, false, cond, length, map, refl, sym, ap, ◌∙◌, subst, arith, append_assoc}
use Rattle.std.proofs.lemmas.Bool.{cases_lt}
use Rattle.std.proofs.lemmas.List.{length-map, get_or-map, get_or-append_right}
use Rattle.std.proofs.Math.ListN.{get_or-append}
use Rattle.std.specs.Prelude.{slice_index_or}
use Rattle.std.specs.List.{All}
use Rattle.snap_policy.specs.declared.policy.BuiltIn.{BuiltIn}
use Rattle.snap_policy.specs.Table.{table}
use Rattle.snap_api.specs.World.{World, History, IsLegal}
use Rattle.snap_shared.specs.Seats.{opening_of, seat_number, seen_by, mine_of, IsSeat}
use Rattle.snap_shared.specs.SharedCalls.{own_calls, numbers_below, ContainsSeat}
use Rattle.snap_shared.specs.declared.shared.Seat.{Seat}
use Rattle.snap_shared.specs.declared.shared.Shared.{Shared}
use Rattle.script_lang.specs.PrintedCalls.{reads_frame, frames_after, printed_calls}
use Rattle.lang_script.specs.StepCalls.{ActorPart, no_notes}
use Rattle.play_laws.specs.Laws.{CanBeCompleted}
use Rattle.play_laws.specs.FirstParts.{IsFirstPart, SpellsTo}
use Rattle.play_laws.specs.PartTurns.{Alternates}
use Rattle.play_laws.specs.PrintedHistory.{no_frames, with_frames, printed_from, printed_history, frames_after_calls}
use Rattle.play_laws.specs.Woven.{actor_at, initial_actor, parts_of_actor, IsWoven, SpellsAll}
use Rattle.play_laws.proofs.Steps.{nothing_is_spelled, all_is_spelled}
use Rattle.play_steps.specs.ActorNotes.{IsNoted}
use Rattle.play_threads.specs.ActorSteps.{CountsSnapshots, HasCome, HasActed, ActsThrough}
use Rattle.play_threads.specs.declared.worker.Worker.{Worker}
use Rattle.snap_shared.proofs.SplitSeats.{length_numbers as below_length}

-- A seat that has seen nothing has no own calls.
first_none : {W : Type 0} (parts : List ActorPart) (a : ℕ) (seat : Seat W) → seen_by seat ≡ []
    → IsFirstPart (initial_actor parts a) (printed_calls [] (mine_of seat))
first_none parts a seat none =
    subst (λ l. IsFirstPart (initial_actor parts a) (printed_calls [] (own_calls (seat_number seat) l))) (sym none)
    (nothing_is_spelled (initial_actor parts a)).0

-- An actor before its first step.
pub started : {W : Type 0} (o : World BuiltIn) (parts left : List ActorPart) (a : ℕ) (w : Worker W)
    → left ≡ parts_of_actor a parts → Alternates left false → seen_by w.seat ≡ [] → IsNoted w.memory no_notes →
    HasCome o (initial_actor parts a) w left
started o parts left a w same turn none noted = record {
  first = first_none parts a w.seat none;
  on = λ ns. record {
    notes = no_notes;
    noted = noted;
    spells = subst (λ l. SpellsTo (initial_actor parts a) (printed_calls [] (own_calls (seat_number w.seat) l))
        (actor_at no_notes left)) (sym none)
        (subst (λ l. SpellsTo (initial_actor parts a) [] (actor_at no_notes l)) (sym same)
        (nothing_is_spelled (initial_actor parts a)));
    frames = ap (λ l. frames_after_calls [] (own_calls (seat_number w.seat) l)) none;
    known = λ name n found. absurd cc;
    apart = tt;
    turn = record { inside = false; alternates = turn; outside = λ e. refl };
  };
}

-- An actor after its last step.
pub ended : {W : Type 0} (o : World BuiltIn) (parts : List ActorPart) (a : ℕ) (w : Worker W)
    → HasCome o (initial_actor parts a) w [] → HasActed parts a (mine_of w.seat) w.short
ended o parts a w h = record {
  first = h.first;
  whole = λ ns. let at = h.on ns in
      all_is_spelled (initial_actor parts a) (printed_calls [] (mine_of w.seat)) at.notes at.spells;
}

-- An actor that could not begin.
pub unstarted : {W : Type 0} (parts : List ActorPart) (a : ℕ) (seat : Seat W) → seen_by seat ≡ []
    → HasActed parts a (mine_of seat) true
unstarted parts a seat none = record { first = first_none parts a seat none; whole = λ e. absurd cc }

pub number_at : (n k d : ℕ) → k < n → slice_index_or (numbers_below n) k d ≡ k
number_at zero k d within = absurd (omega (arith, within))
number_at (suc n) k d within = elim (cases_lt k n) [
  | inl under ↦ get_or-append (numbers_below n) (n ∷ []) d k (omega (arith, under, below_length n))
      ∙ number_at n k d under
  | inr far ↦
      let here : k ≡ n = omega (arith, within, far) in
      let none : k - n ≡ 0 = omega (arith, here) in
      get_or-append_right (numbers_below n) (n ∷ []) n k d (below_length n) far
      ∙ ap (λ i. slice_index_or (n ∷ []) i d) none ∙ sym here
]

-- An element of a list that has one at this index.
element : {A : Type 0} (xs : List A) (k : ℕ) → k < length xs → A
element [] k within = absurd (omega (arith, within))
element (x ∷ xs) k within = x

module _ {W : Type 0} (parts : List ActorPart) (h : History) where
  -- What an actor has done, in the history of all.
  acted_in : (a : ℕ) (seat : Seat W) (short any : Bool) → seat_number seat ≡ a
      → own_calls (seat_number seat) h ≡ own_calls (seat_number seat) (seen_by seat) → (any ≡ false → short ≡ false) →
      HasActed parts a (mine_of seat) short → HasActed parts a (own_calls a h) any
  acted_in a seat short any is same all acted =
      let calls : mine_of seat ≡ own_calls a h = sym same ∙ ap (λ n. own_calls n h) is in
      record {
        first = subst (λ l. IsFirstPart (initial_actor parts a) (printed_calls [] l)) calls acted.first;
        whole =
            λ none. subst (λ l. SpellsAll (initial_actor parts a) (printed_calls [] l)) calls (acted.whole (all none));
      }

module _ {A : Type 0} (number : A → ℕ) (actors : List A) where
  -- Each actor has the number of its place.
  number_is : (n k : ℕ) (d : A) → map number actors ≡ numbers_below n → length actors ≡ n → k < n
      → number (slice_index_or actors k d) ≡ k
  number_is n k d numbers many within =
      sym (get_or-map number actors k d 0 (omega (arith, within, many)))
      ∙ ap (λ (l : List ℕ). slice_index_or l k 0) numbers ∙ number_at n k 0 within

module _ {W A : Type 0} (seat : A → Seat W) (number : A → ℕ) (actors : List A) where
  -- Each actor has a new seat of its number.
  pub ready : (New : Seat W → Type 0) (seats : List (Seat W)) (n : ℕ) → map seat actors ≡ seats
      → map number actors ≡ numbers_below (length seats) → map seat_number seats ≡ numbers_below n → length seats ≡ n →
      All New seats → All (λ x. New (seat x) × (seat_number (seat x) ≡ number x)) actors
  ready New seats n same numbers callers many new k d within =
      let x = slice_index_or actors k d in
      let long : length actors ≡ length seats = sym (length-map actors seat)
      ∙ ap (λ (l : List (Seat W)). length l) same in
      let here : k < length seats = omega (arith, within, long) in
      let is : slice_index_or seats k (seat d) ≡ seat x =
      ap (λ (l : List (Seat W)). slice_index_or l k (seat d)) (sym same)
      ∙ get_or-map seat actors k d (seat d) within in
      let at : seat_number (seat x) ≡ k =
      ap seat_number (sym is) ∙ sym (get_or-map seat_number seats k (seat d) 0 here)
      ∙ ap (λ (l : List ℕ). slice_index_or l k 0) callers ∙ number_at n k 0 (omega (arith, here, many)) in (
        subst New is (new k (seat d) here),
        at ∙ sym (number_is number actors (length seats) k d numbers long here),
      )

module _ {W A : Type 0} (seat : A → Seat W) (short : A → Bool) (number : A → ℕ) (stands : W → World BuiltIn → Type 0)
    (shared : Shared W BuiltIn) (parts : List ActorPart)
    (actors ends : List A) (many : length ends ≡ length actors)
    (acts : (k : ℕ) (d : A) → k < length actors
    → ActsThrough stands shared parts (number (slice_index_or actors k d)) (seat (slice_index_or ends k d))
    (short (slice_index_or ends k d))) where
  -- All seats are at rest.
  pub all_fit : (seats : List (Seat W)) → seats ≡ map seat ends → All (λ x. IsSeat shared x) seats
  all_fit seats same k d within =
      let long : length seats ≡ length ends = ap (λ (l : List (Seat W)). length l) same ∙ length-map ends seat in
      let here : k < length ends = omega (arith, within, long) in
      let there : k < length actors = omega (arith, here, many) in
      let e = element ends k here in
      let is : slice_index_or seats k d ≡ seat (slice_index_or ends k e) =
      ap (λ (l : List (Seat W)). slice_index_or l k d) same ∙ get_or-map seat ends k e d here in
      subst (λ x. IsSeat shared x) (sym is) (acts k e there).seated.fits

  pub all_acted : (o : World BuiltIn) → stands (opening_of shared) o → CountsSnapshots o
      → (h : History) (any : Bool) (seats : List (Seat W)) (n : ℕ) → length actors ≡ n
      → map number actors ≡ numbers_below n →
      seats ≡ map seat ends → All (λ x. ContainsSeat h (seat_number x) (seen_by x)) seats
      → (any ≡ false → All (λ x. short x ≡ false) ends) → (a : ℕ) → a < n → HasActed parts a (own_calls a h) any
  all_acted o stood counts h any seats n count numbers same holds none a under =
      let there : a < length actors = omega (arith, under, count) in
      let here : a < length ends = omega (arith, there, many) in
      let e = element ends a here in
      let x = slice_index_or ends a e in
      let act = acts a e there in
      let is : number (slice_index_or actors a e) ≡ a = number_is number actors n a e numbers count under in
      let long : length seats ≡ length ends = ap (λ (l : List (Seat W)). length l) same ∙ length-map ends seat in
      let at : slice_index_or seats a (seat e) ≡ seat x = ap (λ (l : List (Seat W)). slice_index_or l a (seat e)) same
      ∙ get_or-map seat ends a e (seat e) here in
      let holds_it = subst (λ s. ContainsSeat h (seat_number s) (seen_by s)) at
      (holds a (seat e) (omega (arith, here, long))) in
      acted_in parts h a (seat x) (short x) any (act.seated.is_callers ∙ is) holds_it.1 (λ f. none f a e here)
      (subst (λ k. HasActed parts k (mine_of (seat x)) (short x)) is (act.acted o stood counts))

-- What is printed of a first part of a history is a first part of what is printed of all.
printed_part_from : (frames : ℕ → List ℕ) (h more : History)
    → (rest : History) × (printed_from frames h ++ rest ≡ printed_from frames (h ++ more))
printed_part_from frames [] more = (printed_from frames more, refl)
printed_part_from frames (e ∷ es) more =
    let after = with_frames frames e.caller (frames_after (frames e.caller) e) in
    by after (reads_frame (frames e.caller) e.request) (printed_part_from frames es more)
    (printed_part_from after es more)
  where
    by : (after : ℕ → List ℕ) (b : Bool)
        → (rest : History) × (printed_from frames es ++ rest ≡ printed_from frames (es ++ more))
        → (rest : History) × (printed_from after es ++ rest ≡ printed_from after (es ++ more)) →
        (rest : History) × (cond b (printed_from frames es) (e ∷ printed_from after es) ++ rest
        ≡ cond b (printed_from frames (es ++ more)) (e ∷ printed_from after (es ++ more)))
    by after true same next = same
    by after false same next = (next.0, ap (λ l. e ∷ l) next.1)

pub printed_part : (h more all : History) → h ++ more ≡ all
    → (rest : History) × (printed_history h ++ rest ≡ printed_history all)
printed_part h more all is = subst (λ l. (rest : History) × (printed_history h ++ rest ≡ printed_history l)) is
    (printed_part_from no_frames h more)

-- A history can be continued to a legal and woven one if a longer one can.
pub part_completed : (n : ℕ) (parts : List ActorPart) (w : World BuiltIn) (h more all : History) → h ++ more ≡ all
    → CanBeCompleted n parts w all → CanBeCompleted n parts w h
part_completed n parts w h more all is done =
    let whole : h ++ (more ++ done.0) ≡ all ++ done.0 = sym (append_assoc h more done.0) ∙ ap (λ l. l ++ done.0) is in (
      more ++ done.0,
      subst (λ l. IsLegal table w l) (sym whole) done.1,
      subst (λ l. IsWoven n (initial_actor parts) l) (sym whole) done.2,
    )
