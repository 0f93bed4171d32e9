-- A call whose old group has equal arguments, and whose own reads do not include an owed object: skipping the old group
-- has the same effect as composing the call next to it.
use Rattle.std.proofs.Common.{ℕ, ◌+◌, ◌<◌, List, [], ◌≡◌, refl, ap, ◌∙◌, sym, subst, true, false, not, ◌==◌, Option, Some, None, take, length}
use Rattle.std.proofs.Math.Seq.{take-append_seam}
use Rattle.std.proofs.lemmas.Bool.{eqb-true, not-false as not_false, and_parts as both_true}
use Rattle.std.proofs.lemmas.Slice.Eq.{slice_eq-Decides}
use Rattle.rt_values.specs.declared.value.Value.{Value}
use Rattle.rt_values.specs.Maps.{Map}
use Rattle.rt_values.specs.Values.{same_values}
use Rattle.rt_values.proofs.Equal.{same_value_decides}
use Rattle.rt_groups.specs.GroupForest.{GroupKind, Call, Node, Key, Cell, asks, own_part}
use Rattle.rt_groups.specs.Paths.{Found, inside_of}
use Rattle.rt_groups.specs.Frames.{meets, runs_after, same_call}
use Rattle.lang_ast.specs.Terms.{Func}
use Rattle.compose_model.specs.Composing.{meaning_at, meanings}
use Rattle.recompose_laws.specs.Refreshing.{is_owed}
use Rattle.recompose_laws.specs.Numbering.{without_numbers}
use Rattle.recompose_laws.specs.MadeCalls.{IsMadeInside}
use Rattle.recompose_laws.proofs.Refreshes.{or_false}
use Rattle.recompose_laws.proofs.MadeCalls.{front_means}
use Rattle.recompose_laws.proofs.Skipped.{skipped_call_is_renewed}
use Rattle.composer.specs.ComposerState.{ComposerState, opened_group, closed_group, composed_beside, skipped_inside, skipped_groups}
use Rattle.composer.specs.BesideContracts.{LastComposition, IsSince, IsOldFound}
use Rattle.composer.proofs.Machine.{skip_is_new}

pub same_call_is : (a : GroupKind) (f : ℕ) (vs : List Value) → same_call a (Call f vs) ≡ true → a ≡ Call f vs
same_call_is (Call g ws) f vs e =
    let both = both_true (g == f) (same_values ws vs) e in
    let number : g ≡ f = eqb-true g f both.0 in
    let decides = slice_eq-Decides same_value_decides ws vs (same_values ws vs) refl in
    ap (λ n. Call n ws) number ∙ ap (λ l. Call f l) (decides.0 both.1)
same_call_is (Node kind attributes) f vs e = absurd cc
same_call_is (Key v) f vs e = absurd cc
same_call_is (Cell ks v) f vs e = absurd cc

-- The old call that need not run: it has equal arguments, it is not owed, and `functions` made its groups.
pub record IsSkipped (owed : List ℕ) (functions : List Func) (l : LastComposition) (f : ℕ) (vs : List Value)
    (found : Option Found) : Type 0 where
  pub call : Found
  pub is : found ≡ Some call
  pub what : call.what ≡ Call f vs
  pub quiet : is_owed owed call.inside ≡ false
  pub was : without_numbers call.inside ≡ meaning_at (meanings l.map functions) f vs

pub skips : (owed : List ℕ) (m : Map) (functions : List Func) (l : LastComposition) (site f : ℕ) (vs : List Value)
    (found : Option Found) → IsSince l functions → f < length functions → IsOldFound l owed m site found →
    runs_after owed found (Call f vs) ≡ false → IsSkipped owed functions l f vs found
skips owed m functions l site f vs None since below p e = absurd cc
skips owed m functions l site f vs (Some g) since below p e =
    let both = or_false (not (same_call g.what (Call f vs))) (meets (asks (own_part g.inside)) owed) e in
    let what : g.what ≡ Call f vs = same_call_is g.what f vs (not_false (same_call g.what (Call f vs)) both.0) in
    let inside : IsMadeInside l.map l.functions (Call f vs) g.inside =
    subst (λ (w : GroupKind). IsMadeInside l.map l.functions w g.inside) what p.made.0 in
    let first : take (length functions) l.functions ≡ functions =
    ap (λ (xs : List Func). take (length functions) xs) since.front ∙ take-append_seam functions since.more in
    record {
      call = g;
      is = refl;
      what = what;
      quiet = both.1;
      was = inside ∙ sym (front_means l.map l.functions (length functions) f vs below)
          ∙ ap (λ (xs : List Func). meaning_at (meanings l.map xs) f vs) first;
    }

-- The state after the old call is skipped is the state after the call is composed next to it.
pub skips_as : (owed : List ℕ) (m : Map) (functions : List Func) (l : LastComposition) (d site f : ℕ) (vs : List Value)
    (found : Option Found) (s : ComposerState) → IsOldFound l owed m site found
    → (k : IsSkipped owed functions l f vs found) →
    skipped_inside m owed functions d site k.call.number k.call.what (is_owed owed k.call.inside) k.call.inside
    (skipped_groups m owed k.call.inside) s
    ≡ closed_group (Call f vs) s
    (composed_beside owed (inside_of found) (d + 1) false [] (meaning_at (meanings m functions) f vs)
    (opened_group d false found site (Call f vs) (meaning_at (meanings m functions) f vs) s))
skips_as owed m functions l d site f vs found s p k =
    let part = subst (λ (g : Option Found). IsOldFound l owed m site g) k.is p in
    ap (λ (w : GroupKind). skipped_inside m owed functions d site k.call.number w (is_owed owed k.call.inside)
    k.call.inside (skipped_groups m owed k.call.inside) s) k.what
    ∙ skip_is_new l.map m owed functions f vs k.call.inside k.call.number d site s skipped_call_is_renewed k.was
    part.same k.quiet
    ∙ ap (λ (g : Option Found). closed_group (Call f vs) s
    (composed_beside owed (inside_of g) (d + 1) false [] (meaning_at (meanings m functions) f vs)
    (opened_group d false (Some (record { number = k.call.number; what = Call f vs; inside = k.call.inside }))
    site (Call f vs) (meaning_at (meanings m functions) f vs) s))) (sym k.is)
