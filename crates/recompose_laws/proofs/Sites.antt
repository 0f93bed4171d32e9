-- The nodes of a program are at the sites of its node statements.
use Rattle.std.proofs.Common.{ℕ, ◌≡◌, List, [], Bool, true, refl}
use Rattle.rt_values.specs.Maps.{Map}
use Rattle.lang_ast.specs.Terms.{Head, For, Let, Stmt, Call, If, Block}
use Rattle.lang_ast.specs.Evaluation.{Bindings}
use Rattle.compose_model.specs.Composing.{Meaning}
use Rattle.recompose_laws.specs.Distinct.{NodesAt, makes_group, makes_node, SiteTells, NodesAreAtNodeSites}
use Rattle.recompose_laws.proofs.ForestProperties.{head_group, Allows, StatementFacts, AnyReads, IsForestProperty, AllHold, meanings_hold}

-- The property that nodes are at node sites, for statements that fit `at_site`.
node_sites : (at_site : ℕ → Bool) (m : Map) (fs : List Meaning) → AllHold (NodesAt at_site) fs
    → IsForestProperty m fs AnyReads (NodesAt at_site) (SiteTells at_site)
node_sites at_site m fs calls = record {
  none = tt;
  read = λ x xs r. (tt, λ t h. h);
  facts = facts;
}
  where
    tells : (site : ℕ) (head : Head) (env : Bindings) → (makes_group head ≡ true → makes_node head ≡ at_site site)
        → Allows (NodesAt at_site) site (head_group m head env)
    tells site (For name list) env h = tt
    tells site (Let name e) env h = tt
    tells site _ env h = λ t u f g. (h refl, f, g)

    facts : (s : Stmt) (env : Bindings) → SiteTells at_site s → StatementFacts m fs AnyReads (NodesAt at_site) s env
    facts (Call at site name function arguments) env h = (tt, λ u g. (h, calls function _, g))
    facts (If at site condition then_branch else_branch) env h = tt
    facts (Block at site head body) env h = (tt, tells site head env h)

pub nodes_are_at_node_sites : NodesAreAtNodeSites
nodes_are_at_node_sites at_site functions root m e h =
    (e, meanings_hold (node_sites at_site m) functions tt h root [], tt)
