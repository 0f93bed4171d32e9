-- One seat joins the other seats, one after another.
use Rattle.std.proofs.Common.{◌≡◌, ℕ, suc, List, ◌++◌, length, refl, ap, sym, subst, ◌∙◌, arith, length-append}
use Rattle.std.specs.Prelude.{Option}
use lib.ListN.{get_elem?}
use Rattle.atomic_table.specs.Table.{Me}
use Rattle.atomic_table.proofs.Lists.{at_longer, at_last}
use Rattle.snap_api.specs.declared.data.Entry.{Entry}
use Rattle.snap_shared.specs.declared.rule.SeatState.{SeatState}
use Rattle.snap_shared.specs.SharedCalls.{own_calls, ContainsSeat}
use Rattle.snap_shared.specs.SeatSteps.{CoversSeat, IsJoinedSeat}
use Rattle.snap_shared.specs.Seats.{IsAtRest}
use Rattle.snap_shared.specs.Histories.{caller_of, StartsWith}
use Rattle.snap_shared.specs.StepResults.{AreCallsIn, SeesHistory}
use Rattle.snap_shared.specs.TurnRule.{joined_state}
use Rattle.snap_shared.proofs.Prefixes.{starts_trans, starts_itself}

module _ {W : Type 0} (leads_to : W → List Entry → W → Type 0) (opening : W) where
  abbrev M : Type 0
  M = Me (Option W) (SeatState W Entry)

  -- The first seat covers itself.
  pub covers_first : (number : ℕ) (m : M) → IsAtRest opening number m → CoversSeat m.0 number m.0.seen
  covers_first number m rests = record {
    index = 0;
    there = ap (λ (l : List (ℕ × List Entry)). get_elem? l 0) rests.2;
    begins = starts_itself m.0.seen;
  }

  pub joined_first : (number : ℕ) (m : M) → IsAtRest opening number m → IsJoinedSeat opening 1 m
  joined_first number m rests = record {
    idle = rests.0;
    opened = rests.1;
    many = ap (λ (l : List (ℕ × List Entry)). length l) rests.2;
    empty = rests.3;
  }

  module _ (v w joined last : M) (number found : ℕ) (rests : IsAtRest opening number w)
      (join : joined ≡ (joined_state v.0 w.0, v.1))
      (sees_history : SeesHistory caller_of leads_to joined found last) where
    now : SeesHistory caller_of leads_to (joined_state v.0 w.0, v.1) found last
    now = subst (λ (m : M). SeesHistory caller_of leads_to m found last) join sees_history

    seen_is : last.0.seen ≡ now.0
    seen_is = ap (λ (m : M). m.0.seen) now.1

    own_is : last.0.own ≡ v.0.own ++ w.0.own
    own_is = ap (λ (m : M). m.0.own) now.1

    pub joins_next : (n : ℕ) → IsJoinedSeat opening n v → IsJoinedSeat opening (suc n) last
    joins_next n g = record {
      idle = ap (λ (m : M). m.0.phase) now.1 ∙ g.idle;
      opened = ap (λ (m : M). m.0.opening) now.1 ∙ g.opened;
      many = ap (λ (l : List (ℕ × List Entry)). length l) own_is ∙ length-append v.0.own w.0.own
          ∙ (let one : length w.0.own ≡ 1 = ap (λ (l : List (ℕ × List Entry)). length l) rests.2 in
          omega (arith, one, g.many));
      empty = ap (λ (m : M). m.1) now.1 ∙ g.empty;
    }

    pub covers_still : (k : ℕ) (seen : List Entry) → CoversSeat v.0 k seen → CoversSeat last.0 k seen
    covers_still k seen h = record {
      index = h.index;
      there = ap (λ (l : List (ℕ × List Entry)). get_elem? l h.index) own_is
          ∙ at_longer v.0.own w.0.own h.index (k, own_calls k seen) h.there;
      begins = subst (λ (l : List Entry). StartsWith l seen) (sym seen_is)
          (starts_trans now.0 v.0.seen seen now.2.begins h.begins);
    }

    pub covers_next : CoversSeat last.0 number w.0.seen
    covers_next = record {
      index = length v.0.own;
      there = ap (λ (l : List (ℕ × List Entry)). get_elem? l (length v.0.own)) (own_is ∙ ap (λ l. v.0.own ++ l) rests.2)
          ∙ at_last v.0.own (number, own_calls number w.0.seen) (length v.0.own) refl;
      begins = subst (λ (l : List Entry). StartsWith l w.0.seen) (sym seen_is) now.2.begins_received;
    }

-- A history that contains the joined state contains each seat that was joined.
pub contains_seat : {W : Type 0} (v : SeatState W Entry) (log : List Entry) → StartsWith log v.seen
    → AreCallsIn caller_of log v.own → (number : ℕ) (seen : List Entry) → CoversSeat v number seen
    → ContainsSeat log number seen
contains_seat v log begins own number seen h =
    (starts_trans log v.seen seen begins h.begins, own h.index (number, own_calls number seen) h.there)
