-- What is left of their steps, each actor makes in turn.
use Rattle.std.proofs.Common.{◌≡◌, ◌≢◌, ℕ, zero, suc, ◌+◌, ◌<◌, ◌≤◌, List, [], ◌∷◌, ◌++◌, refl, sym, ap, ◌∙◌, subst, inl, inr, arith, append-nil}
use Rattle.std.proofs.lemmas.Bool.Decides.{eqb_tells}
use Rattle.snap_policy.specs.declared.policy.BuiltIn.{BuiltIn}
use Rattle.snap_policy.specs.Table.{table}
use Rattle.snap_api.specs.World.{World, History, IsLegal, world_after, call}
use Rattle.snap_shared.specs.SharedCalls.{own_calls}
use Rattle.snap_shared.specs.Histories.{caller_of}
use Rattle.snap_shared.proofs.Prefixes.{calls_by-append}
use Rattle.lang_script.specs.StepCalls.{ActorPart, no_notes, sequential}
use Rattle.lang_script.proofs.Sequential.{spelled, only}
use Rattle.play_laws.specs.PrintedHistory.{printed_history}
use Rattle.play_laws.specs.Woven.{ActorState, initial_actor, parts_of_actor, AreOf, SpellsAll}
use Rattle.play_laws.specs.FirstParts.{replies_of, state_given, IsFirstPart}
use Rattle.play_laws.specs.Laws.{PartIsCompleted, PrintedPartIsCompleted, SequentialIsWoven, WovenIsSequential}
use Rattle.play_laws.proofs.Callers.{AreBy, are_by_first, own_calls-mine, own_calls-others, parts_of-mine, parts_are_of, left_is_of, sequential_is_by}
use Rattle.play_laws.proofs.Prints.{printed_is_legal, printed_by_caller, printed_callers}
use Rattle.play_laws.proofs.Steps.{spelled_on}

own_calls-append : (a : ℕ) (xs ys : History) → own_calls a (xs ++ ys) ≡ own_calls a xs ++ own_calls a ys
own_calls-append a xs ys = calls_by-append caller_of a xs ys

legal_append : (w : World BuiltIn) (h k : History) → IsLegal table w h → IsLegal table (world_after table w h) k
    → IsLegal table w (h ++ k)
legal_append w [] k l m = m
legal_append w (x ∷ h) k l m = (l.0, legal_append (call table w x.caller x.request).0 h k l.1 m)

-- The rest of one actor's calls.
abbrev rest_of : World BuiltIn → ActorState → History
rest_of w s = sequential w s.notes s.left

module _ (states : ℕ → ActorState) where
  -- The rests of `k` actors from actor `a` on.
  abbrev rests : World BuiltIn → ℕ → ℕ → History
  rests w a zero = []
  rests w a (suc k) = rest_of w (states a) ++ rests (world_after table w (rest_of w (states a))) (suc a) k

  rests_legal : (k a : ℕ) (w : World BuiltIn) → IsLegal table w (rests w a k)
  rests_legal zero a w = tt
  rests_legal (suc k) a w =
      legal_append w (rest_of w (states a)) _ (spelled w (states a).notes (states a).left).0 (rests_legal k (suc a) _)

  module _ (own : (a : ℕ) → AreOf a (states a).left) where
    by_one : (a : ℕ) (w : World BuiltIn) → AreBy a (rest_of w (states a))
    by_one a w = sequential_is_by a w (states a).notes (states a).left (own a)

    -- The first actor's calls are not another's.
    skipped : (b k a : ℕ) (w : World BuiltIn) → a ≢ b
        → own_calls b (rests w a (suc k)) ≡ own_calls b (rests (world_after table w (rest_of w (states a))) (suc a) k)
    skipped b k a w ne =
        let later = rests (world_after table w (rest_of w (states a))) (suc a) k in
        own_calls-append b (rest_of w (states a)) later
        ∙ ap (λ l. l ++ own_calls b later) (own_calls-others a b (rest_of w (states a)) ne (by_one a w))

    below : (b k a : ℕ) (w : World BuiltIn) → b < a → own_calls b (rests w a k) ≡ []
    below b zero a w h = refl
    below b (suc k) a w h = skipped b k a w (λ e. omega (arith, h, e)) ∙ below b k (suc a) _ (omega (arith, h))

    above : (b k a : ℕ) (w : World BuiltIn) → a + k ≤ b → own_calls b (rests w a k) ≡ []
    above b zero a w h = refl
    above b (suc k) a w h = skipped b k a w (λ e. omega (arith, h, e)) ∙ above b k (suc a) _ (omega (arith, h))

    -- The first actor's calls are its rest.
    first : (k a : ℕ) (w : World BuiltIn) → own_calls a (rests w a (suc k)) ≡ rest_of w (states a)
    first k a w =
        let later = rests (world_after table w (rest_of w (states a))) (suc a) k in
        own_calls-append a (rest_of w (states a)) later
        ∙ ap (λ l. own_calls a (rest_of w (states a)) ++ l)
        (below a k (suc a) (world_after table w (rest_of w (states a))) (omega (arith)))
        ∙ append-nil (own_calls a (rest_of w (states a))) ∙ own_calls-mine a (rest_of w (states a)) (by_one a w)

    within : (b k a : ℕ) (w : World BuiltIn) → a ≤ b → b < a + k → SpellsAll (states b) (own_calls b (rests w a k))
    within b zero a w lo hi = absurd (omega (arith, lo, hi))
    within b (suc k) a w lo hi = elim (eqb_tells a b) [
      | inl same ↦ subst (λ (x : ℕ). SpellsAll (states x) (own_calls x (rests w a (suc k)))) same.1
          (subst (λ (l : History). SpellsAll (states a) l) (sym (first k a w))
          (spelled w (states a).notes (states a).left).1)
      | inr other ↦
          let ne = other.1 in
          subst (λ (l : History). SpellsAll (states b) l) (sym (skipped b k a w ne))
          (within b k (suc a) _ (omega (arith, lo, ne)) (omega (arith, hi)))
    ]

-- An actor after these calls of its own.
abbrev state_after : List ActorPart → History → ℕ → ActorState
state_after parts h a = state_given no_notes (parts_of_actor a parts) (replies_of (own_calls a h))

pub part_is_completed : PartIsCompleted
part_is_completed n parts w h legal firsts others =
    let states = state_after parts h in
    let own : (a : ℕ) → AreOf a (states a).left =
    λ a. left_is_of a no_notes (parts_of_actor a parts) (replies_of (own_calls a h)) (parts_are_of a parts) in
    let after = world_after table w h in
    let more = rests states after 0 n in (
      more,
      legal_append w h more legal (rests_legal states n 0 after),
      record {
        each = λ a under. subst (λ (l : History). SpellsAll (initial_actor parts a) l) (sym (own_calls-append a h more))
            (spelled_on no_notes (parts_of_actor a parts) (own_calls a h) (own_calls a more) (firsts a under)
            (within states own a n 0 after (omega (arith)) (omega (arith, under))));
        others = λ a far. own_calls-append a h more ∙ ap (λ l. l ++ own_calls a more) (others a far)
            ∙ above states own a n 0 after (omega (arith, far));
      },
    )

pub printed_part_is_completed : PrintedPartIsCompleted
printed_part_is_completed n parts w h legal firsts others =
    part_is_completed n parts w (printed_history h) (printed_is_legal table w h legal).0
    (λ a under. subst (λ (l : History). IsFirstPart (initial_actor parts a) l) (sym (printed_by_caller a h))
    (firsts a under)) (printed_callers n h others)

pub sequential_is_woven : SequentialIsWoven
sequential_is_woven w parts m =
    let by_it = sequential_is_by 0 w no_notes parts m in record {
      each = λ a under.
          let none : 0 ≡ a = omega (arith, under) in
          subst (λ (x : ℕ). SpellsAll (initial_actor parts x) (own_calls x (sequential w no_notes parts))) none
          (subst (λ (l : History). SpellsAll (initial_actor parts 0) l)
          (sym (own_calls-mine 0 (sequential w no_notes parts) by_it))
          (subst (λ (ps : List ActorPart). SpellsAll (record { notes = no_notes; left = ps })
          (sequential w no_notes parts)) (sym (parts_of-mine 0 parts m)) (spelled w no_notes parts).1));
      others = λ a far. own_calls-others 0 a (sequential w no_notes parts) (λ e. omega (arith, far, e)) by_it;
    }

pub woven_is_sequential : WovenIsSequential
woven_is_sequential w parts h m legal woven =
    let one = subst (λ (l : History). SpellsAll (initial_actor parts 0) l)
    (own_calls-mine 0 h (are_by_first h woven.others)) (woven.each 0 (omega (arith))) in
    only w no_notes parts h legal
    (subst (λ (ps : List ActorPart). SpellsAll (record { notes = no_notes; left = ps }) h) (parts_of-mine 0 parts m)
    one)
