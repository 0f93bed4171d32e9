-- The walk over a call that is skipped gives what composing it again gives.
use Rattle.std.proofs.Common.{ℕ, List, [], ◌∷◌, ◌++◌, ◌≡◌, refl, ap, ◌∙◌, sym, subst, false, take, length, arith}
use Rattle.rt_values.specs.Maps.{Map}
use Rattle.rt_groups.specs.GroupForest.{GroupForest, End, Read, Group, Call, Node, Key, Cell, asks, own_part}
use Rattle.rt_groups.specs.Frames.{meets}
use Rattle.lang_ast.specs.Terms.{Func}
use Rattle.compose_model.specs.Composing.{meanings, meaning_at}
use Rattle.recompose_laws.specs.Work.{work}
use Rattle.recompose_laws.specs.Refreshing.{is_owed, refreshed_groups, SameReads}
use Rattle.recompose_laws.specs.Numbering.{without_numbers, numbered_by_siblings}
use Rattle.recompose_laws.specs.Skipped.{SkippedCallIsRenewed}
use Rattle.recompose_laws.proofs.Plain.{work-without_numbers, beside-without_numbers, refreshed_groups-without_numbers, asks-own-without_numbers}
use Rattle.recompose_laws.proofs.Refreshes.{refreshed_is, kept_call, calls_made}
use Rattle.recompose_laws.proofs.Renewals.{renewal, asks-without_numbers}
use Rattle.recompose_laws.proofs.Walks.{walk_is}

own-refreshed_groups : (m : Map) (owed : List ℕ) (t : GroupForest) (functions : List Func)
    → asks (own_part (refreshed_groups m owed t functions)) ≡ asks (own_part t)
own-refreshed_groups m owed End functions = refl
own-refreshed_groups m owed (Read x rest) functions = ap (λ l. x ∷ l) (own-refreshed_groups m owed rest functions)
own-refreshed_groups m owed (Group site n (Call f vs) inside rest) functions =
    own-refreshed_groups m owed rest functions
own-refreshed_groups m owed (Group site n (Node kind attributes) inside rest) functions =
    ap (λ l. l ++ asks (own_part (refreshed_groups m owed rest functions)))
    (own-refreshed_groups m owed inside functions)
    ∙ ap (λ l. asks (own_part inside) ++ l) (own-refreshed_groups m owed rest functions)
own-refreshed_groups m owed (Group site n (Key v) inside rest) functions =
    ap (λ l. l ++ asks (own_part (refreshed_groups m owed rest functions)))
    (own-refreshed_groups m owed inside functions)
    ∙ ap (λ l. asks (own_part inside) ++ l) (own-refreshed_groups m owed rest functions)
own-refreshed_groups m owed (Group site n (Cell ks v) inside rest) functions =
    ap (λ l. l ++ asks (own_part (refreshed_groups m owed rest functions)))
    (own-refreshed_groups m owed inside functions)
    ∙ ap (λ l. asks (own_part inside) ++ l) (own-refreshed_groups m owed rest functions)

pub skipped_call_is_renewed : SkippedCallIsRenewed
skipped_call_is_renewed m m' owed functions f vs inside k was same e =
    let reads : SameReads owed (asks (meaning_at (meanings m functions) f vs)) m m' =
    subst (λ (l : List ℕ). SameReads owed l m m') (sym (asks-without_numbers inside) ∙ ap asks was) same in
    let quiet : is_owed owed (meaning_at (meanings m functions) f vs) ≡ false = ap (λ t. is_owed owed t) (sym was)
    ∙ ap (λ l. meets l owed) (asks-own-without_numbers inside) ∙ e in
    let fresh : without_numbers (refreshed_groups m' owed inside (take f functions)) ≡ meaning_at (meanings m' functions) f vs =
    refreshed_groups-without_numbers m' owed inside (take f functions)
    ∙ ap (λ t. refreshed_groups m' owed t (take f functions)) was
    ∙ refreshed_is m m' owed (meaning_at (meanings m functions) f vs) (take f functions) reads
    (calls_made (length functions) m functions (omega arith) f vs)
    ∙ kept_call m m' owed functions f vs (meaning_at (meanings m functions) f vs) reads refl quiet in (
      renewal m' owed inside End inside [] (take f functions) k refl refl
          ∙ sym (beside-without_numbers inside [] k (refreshed_groups m' owed inside (take f functions)))
          ∙ ap (λ t. numbered_by_siblings inside [] k t) fresh,
      walk_is m' owed inside End inside [] (take f functions) refl refl
          ∙ sym (work-without_numbers owed inside [] false (refreshed_groups m' owed inside (take f functions)))
          ∙ ap (λ t. work owed inside [] false t) fresh,
      ap (λ t. asks (own_part t)) (sym fresh)
          ∙ asks-own-without_numbers (refreshed_groups m' owed inside (take f functions))
          ∙ own-refreshed_groups m' owed inside (take f functions),
    )
