-- The values of the cells in a kept forest follow from their sites and keys.
use Rattle.std.proofs.Common.{ℕ, zero, suc, List, [], ◌∷◌, ◌≡◌, refl, ap, ◌∙◌, sym, subst, Bool, true, false, if◌then◌else◌, map, Option, Some, None}
use Rattle.rt_values.specs.declared.value.Value.{Value}
use Rattle.rt_values.specs.Maps.{Map}
use Rattle.rt_groups.specs.GroupForest.{GroupForest, End, Read, Group, GroupKind}
use Rattle.rt_groups.specs.Paths.{GroupKey, sibling, same_sibling, Found, nth, matching_sibling, inside_of}
use Rattle.lang_ast.specs.Terms.{Named, Head, For, Let, Remember, Stmts, Stmt, Call, If, Block}
use Rattle.lang_ast.specs.ResultsWithReads.{Reading}
use Rattle.lang_ast.specs.Evaluation.{Bindings, new_binding, eval, eval_named}
use Rattle.compose_model.specs.Composing.{Meaning}
use Rattle.recompose_laws.specs.Numbering.{without_numbers}
use Rattle.recompose_laws.specs.CalculatedCells.{Calculation, IsCalculatedFor, CellsAreCalculated, IsFoundCalculated, Calculates, KeptCellsAreCalculated, named_with, PureCalculationsAreBySite}
use Rattle.recompose_laws.proofs.Calculations.{cells_may_be_kept}
use Rattle.recompose_laws.proofs.ForestProperties.{head_group, Allows, StatementFacts, AnyReads, IsForestProperty, AllHold, meanings_hold}

-- The property that cells have calculated values, for statements whose calculations `calc` gives.
calculated_cells : (calc : Calculation) (m : Map) (fs : List Meaning) → AllHold (CellsAreCalculated calc) fs
    → IsForestProperty m fs AnyReads (CellsAreCalculated calc) (Calculates calc)
calculated_cells calc m fs calls = record {
  none = tt;
  read = λ x xs r. (tt, λ t h. h);
  facts = facts;
}
  where
    made : (at site : ℕ) (head : Head) (body : Stmts) (env : Bindings) → Calculates calc (Block at site head body)
        → Allows (CellsAreCalculated calc) site (head_group m head env)
    made at site (For name list) body env h = tt
    made at site (Let name e) body env h = tt
    made at site (Remember name keys e) body env h = λ t u f g. ((h m env).0, f, g)
    made at site _ body env h = λ t u f g. (tt, f, g)

    facts : (s : Stmt) (env : Bindings) → Calculates calc s
        → StatementFacts m fs AnyReads (CellsAreCalculated calc) s env
    facts (Call at site name function arguments) env h = (tt, λ u g. (tt, calls function _, g))
    facts (If at site condition then_branch else_branch) env h = tt
    facts (Block at site head body) env h = (tt, made at site head body env h)

numbered_calculated : (calc : Calculation) (t : GroupForest) → CellsAreCalculated calc (without_numbers t)
    → CellsAreCalculated calc t
numbered_calculated calc End h = tt
numbered_calculated calc (Read x rest) h = numbered_calculated calc rest h
numbered_calculated calc (Group site n what inside rest) h =
    (h.0, numbered_calculated calc inside h.1, numbered_calculated calc rest h.2)

pub kept_cells_are_calculated : KeptCellsAreCalculated
kept_cells_are_calculated calc m functions root old h e =
    numbered_calculated calc old
    (subst (λ (t : GroupForest). CellsAreCalculated calc t) (sym e)
    (tt, meanings_hold (calculated_cells calc m) functions tt h root [], tt))

-- Lookup in a forest with calculated cells.
pub found_calculated : (calc : Calculation) (s : GroupKey) (n : ℕ) (t : GroupForest)
    → ((site : ℕ) (what : GroupKind) → same_sibling (sibling site what) s ≡ true → site ≡ s.site)
    → CellsAreCalculated calc t → IsFoundCalculated calc s.site (matching_sibling s n t)
found_calculated calc s n End same h = tt
found_calculated calc s n (Read x rest) same h = found_calculated calc s n rest same h
found_calculated calc s n (Group site number what inside rest) same h =
    by (same_sibling (sibling site what) s) refl n (λ j. found_calculated calc s j rest same h.2)
  where
    found : Found
    found = record { number = number; what = what; inside = inside }

    by : (b : Bool) → same_sibling (sibling site what) s ≡ b → (j : ℕ)
        → ((k : ℕ) → IsFoundCalculated calc s.site (matching_sibling s k rest))
        → IsFoundCalculated calc s.site
        (if b then nth j found (λ k. matching_sibling s k rest) else matching_sibling s j rest)
    by true e zero later = (subst (λ k. IsCalculatedFor calc k what) (same site what e) h.0, h.1)
    by true e (suc j) later = later j
    by false e j later = later j

pub inside_calculated : (calc : Calculation) (site : ℕ) (g : Option Found) → IsFoundCalculated calc site g
    → CellsAreCalculated calc (inside_of g)
inside_calculated calc site None h = tt
inside_calculated calc site (Some g) h = h.1

-- Calculations without a `get`.

named_is : (m : Map) (ns : List Named) (env : Bindings)
    → (eval_named m ns env).value ≡ named_with ns (map (λ k. k.value) (eval_named m ns env).value)
named_is m [] env = refl
named_is m (n ∷ ns) env =
    ap (λ (l : Bindings). new_binding n.name.text (eval m n.value env).value ∷ l) (named_is m ns env)

pub pure_calculations_are_by_site : PureCalculationsAreBySite
pure_calculations_are_by_site calc site keys e h c m env =
    let ks = (eval_named m keys env).value in
    let both = cells_may_be_kept e h m [] (eval_named m keys env).value in (
      ap (λ (r : Reading Value). r.value) both.1 ∙ ap (λ (k : Bindings). (eval [] e k).value) (named_is m keys env)
          ∙ sym (c (map (λ k. k.value) (eval_named m keys env).value)),
      both.0,
    )
