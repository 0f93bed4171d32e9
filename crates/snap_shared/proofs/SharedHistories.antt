-- Two seats meet: lemmas on the history that both see afterwards.
use Rattle.std.proofs.Common.{◌≡◌, ℕ, List, [], ◌∷◌, ◌++◌, refl, ap, sym, subst, ◌∙◌, append-nil, append_assoc}
use Rattle.std.specs.Prelude.{Option}
use lib.ListN.{get_elem?}
use Rattle.atomic_table.specs.Table.{Me}
use Rattle.snap_policy.specs.Rules.{Rules}
use Rattle.snap_api.specs.World.{World, IsLegal}
use Rattle.snap_api.specs.declared.data.Entry.{Entry}
use Rattle.snap_shared.specs.declared.rule.SeatState.{SeatState}
use Rattle.snap_shared.specs.SharedCalls.{own_calls, ContinuesWith, SeeOneHistory}
use Rattle.snap_shared.specs.SeatSteps.{SeesJoined, AdoptsJoined}
use Rattle.snap_shared.specs.Seats.{IsAtRest}
use Rattle.snap_shared.specs.Histories.{caller_of, StartsWith, IsWorldAfter}
use Rattle.snap_shared.specs.StepResults.{AreCallsIn, SeesHistory, AdoptsReceived}
use Rattle.snap_shared.specs.TurnRule.{joined_state, note_of}
use Rattle.snap_shared.proofs.Prefixes.{calls_by-append}
use Rattle.snap_shared.proofs.MadeCalls.{append-cancel}

module _ {W : Type 0} (leads_to : W → List Entry → W → Type 0) where
  abbrev M : Type 0
  M = Me (Option W) (SeatState W Entry)

  pub after_join_hear : (one other cut joined last : M) (found : ℕ) → cut ≡ (note_of other.0, [])
      → joined ≡ (joined_state one.0 cut.0, one.1) → SeesHistory caller_of leads_to joined found last
      → SeesJoined leads_to one other last
  after_join_hear one other cut joined last found is join p =
      let now : joined ≡ (joined_state one.0 (note_of other.0), one.1) = join
      ∙ ap (λ (m : M). (joined_state one.0 m.0, one.1)) is in
      subst (λ (m : M). SeesHistory caller_of leads_to m 0 last) now p

  pub after_join_adopt : (one other cut joined last : M) (found : ℕ) → cut ≡ (note_of other.0, [])
      → joined ≡ (joined_state one.0 cut.0, one.1) → AdoptsReceived caller_of leads_to joined found last
      → AdoptsJoined leads_to one other last
  after_join_adopt one other cut joined last found is join p =
      let now : joined ≡ (joined_state one.0 (note_of other.0), one.1) = join
      ∙ ap (λ (m : M). (joined_state one.0 m.0, one.1)) is in
      subst (λ (m : M). AdoptsReceived caller_of leads_to m 0 last) now p

-- A longer history with the same calls of a caller continues with other callers' calls.
continues : (number : ℕ) (old new : List Entry) → StartsWith new old → own_calls number new ≡ own_calls number old
    → ContinuesWith number old new []
continues number old new b same = record {
  between = b.0;
  others = append-cancel (own_calls number old) (own_calls number b.0)
      (sym (calls_by-append caller_of number old b.0) ∙ ap (own_calls number) (sym b.1) ∙ same);
  is = b.1 ∙ sym (append-nil (old ++ b.0));
}

-- A history between two histories with the same own calls has these own calls too.
squeezed : (number : ℕ) (old mid new : List Entry) → StartsWith mid old → StartsWith new mid
    → own_calls number new ≡ own_calls number old → own_calls number mid ≡ own_calls number old
squeezed number old mid new b c same =
    let parts : own_calls number new ≡ own_calls number old ++ (own_calls number b.0 ++ own_calls number c.0) =
    ap (own_calls number) (c.1 ∙ ap (λ l. l ++ c.0) b.1) ∙ calls_by-append caller_of number (old ++ b.0) c.0
    ∙ ap (λ l. l ++ own_calls number c.0) (calls_by-append caller_of number old b.0)
    ∙ append_assoc (own_calls number old) (own_calls number b.0) (own_calls number c.0) in
    let none = append-cancel (own_calls number old) (own_calls number b.0 ++ own_calls number c.0) (sym parts ∙ same) in
    ap (own_calls number) b.1 ∙ calls_by-append caller_of number old b.0
    ∙ ap (λ l. own_calls number old ++ l) (first (own_calls number b.0) (own_calls number c.0) none)
    ∙ append-nil (own_calls number old) where
      first : (xs ys : List Entry) → xs ++ ys ≡ [] → xs ≡ []
      first [] ys e = refl
      first (x ∷ xs) ys e = absurd cc

module _ {W P : Type 0} (rules : Rules P) (stands : W → World P → Type 0) (opening : W) (a b : ℕ)
    (one other one' other' : Me (Option W) (SeatState W Entry)) (one_rests : IsAtRest opening a one)
    (other_rests : IsAtRest opening b other)
    (received : SeesJoined (IsWorldAfter rules stands) one other one')
    (over : AdoptsJoined (IsWorldAfter rules stands) other one' other') where
  abbrev M2 : Type 0
  M2 = Me (Option W) (SeatState W Entry)

  log : List Entry
  log = received.0

  seen_one : one'.0.seen ≡ received.0
  seen_one = ap (λ (m : M2). m.0.seen) received.1

  seen_other : other'.0.seen ≡ one'.0.seen
  seen_other = ap (λ (m : M2). m.0.seen) over.1

  own_is : (v w : M2) (n : ℕ) → IsAtRest opening n v
      → (joined_state v.0 (note_of w.0)).own ≡ (n, own_calls n v.0.seen) ∷ []
  own_is v w n rests = append-nil v.0.own ∙ rests.2

  own_log : (v w : M2) (n : ℕ) (l : List Entry) → IsAtRest opening n v
      → AreCallsIn caller_of l (joined_state v.0 (note_of w.0)).own → own_calls n l ≡ own_calls n v.0.seen
  own_log v w n l rests own =
      own 0 (n, own_calls n v.0.seen) (ap (λ (x : List (ℕ × List Entry)). get_elem? x 0) (own_is v w n rests))

  mine_one : own_calls a one'.0.seen ≡ own_calls a one.0.seen
  mine_one = ap (own_calls a) seen_one ∙ own_log one other a received.0 one_rests received.2.own

  begins_other : StartsWith one'.0.seen other.0.seen
  begins_other = subst (λ (l : List Entry). StartsWith l other.0.seen) (sym seen_one) received.2.begins_received

  mine_other : own_calls b one'.0.seen ≡ own_calls b other.0.seen
  mine_other = squeezed b other.0.seen one'.0.seen over.0 begins_other over.2.begins_received
      (own_log other one' b over.0 other_rests over.2.own)

  pub one_at_rest : IsAtRest opening a one'
  one_at_rest = (
    ap (λ (m : M2). m.0.phase) received.1 ∙ one_rests.0,
    ap (λ (m : M2). m.0.opening) received.1 ∙ one_rests.1,
    ap (λ (m : M2). m.0.own) received.1 ∙ own_is one other a one_rests
        ∙ ap (λ (l : List Entry). (a, l) ∷ []) (sym mine_one),
    ap (λ (m : M2). m.1) received.1 ∙ one_rests.3,
  )

  pub other_at_rest : IsAtRest opening b other'
  other_at_rest = (
    ap (λ (m : M2). m.0.phase) over.1 ∙ other_rests.0,
    ap (λ (m : M2). m.0.opening) over.1 ∙ other_rests.1,
    ap (λ (m : M2). m.0.own) over.1 ∙ own_is other one' b other_rests
        ∙ ap (λ (l : List Entry). (b, l) ∷ []) (sym mine_other ∙ ap (own_calls b) (sym seen_other)),
    ap (λ (m : M2). m.1) over.1 ∙ other_rests.3,
  )

  pub meets : SeeOneHistory rules stands opening a b one.0.seen other.0.seen one'.0.seen other'.0.seen
  meets = record {
    legal = λ w p. let l = received.2.leads opening one_rests.1 in
        subst (λ (x : List Entry). IsLegal rules w x) (sym seen_one) (l.1 w p).0;
    same = seen_other;
    one_on = continues a one.0.seen one'.0.seen
        (subst (λ (l : List Entry). StartsWith l one.0.seen) (sym seen_one) received.2.begins) mine_one;
    other_on = continues b other.0.seen other'.0.seen
        (subst (λ (l : List Entry). StartsWith l other.0.seen) (sym seen_other) begins_other)
        (ap (own_calls b) seen_other ∙ mine_other);
  }
