-- The nodes of a composed forest have the shape of the statement at their site.
use Rattle.std.proofs.Common.{ℕ, List, [], ◌∷◌, ◌≡◌, inl, inr, map, Bool, true, false, ◌||◌, Some, None, refl, ap, sym, ◌∙◌, subst}
use Rattle.std.specs.List.{list_any}
use Rattle.std.specs.Str.{bytes_eq}
use Rattle.rt_values.specs.Maps.{Map}
use Rattle.rt_groups.specs.GroupForest.{GroupForest, End, Read, Group, GroupKind, Attribute}
use Rattle.rt_groups.specs.GroupForest as trail
use Rattle.lang_ast.specs.Terms.{Named, Head, Node, For, Let, Stmt, Call, If, Block, Stmts, Func}
use Rattle.lang_ast.specs.Programs.{Program, functions_statements}
use Rattle.lang_ast.proofs.Statements.{each_follows}
use Rattle.lang_ast.specs.Evaluation.{Bindings, eval_named}
use Rattle.lang_checks.specs.Numbers.{IsNumberedProgram}
use Rattle.lang_checks.specs.ProgramFaults.{program_faults}
use Rattle.compose_model.specs.Composing.{Meaning, attribute, forest}
use Rattle.recompose_laws.specs.Numbering.{without_numbers}
use Rattle.recompose_laws.specs.Distinct.{NodesAt, SiteTells, FunctionsTell}
use Rattle.recompose_laws.proofs.ForestProperties.{head_group, Allows, StatementFacts, AnyReads, IsForestProperty, AllHold, meanings_hold}
use Rattle.recompose_laws.proofs.Sites.{nodes_are_at_node_sites}
use Rattle.node_tree.specs.Calls.{has_attribute}
use Rattle.node_tree.specs.Premises.{HaveDistinctNames, names_of}
use Rattle.node_laws.specs.FollowingTrees.{WasComposed}
use Rattle.node_laws.proofs.StatementSites.{Shape, Told, texts, AreApart, IsTold, FunctionsAreTold, look_up, functions_are_told, none_at_root}

-- Whether the statement at a site makes a node.
abbrev pub tells_node : Told → Bool
tells_node None = false
tells_node (Some None) = false
tells_node (Some (Some shape)) = true

abbrev pub at_node : (ℕ → Told) → ℕ → Bool
at_node look site = tells_node (look site)

site_tells : (look : ℕ → Told) (s : Stmt) → IsTold look s → SiteTells (at_node look) s
site_tells look (Call at site name function arguments) h = sym (ap tells_node h)
site_tells look (If at site condition then_branch else_branch) h = tt
site_tells look (Block at site (Node kind attributes) body) h = λ made. sym (ap tells_node h.0)
site_tells look (Block at site _ body) h = λ made. sym (ap tells_node h)

functions_tell : (look : ℕ → Told) (fs : List Func) → FunctionsAreTold look fs → FunctionsTell (at_node look) fs
functions_tell look fs h =
    each_follows (IsTold look) (SiteTells (at_node look)) (functions_statements fs) (site_tells look) h

-- The shape of a node.
abbrev pub shape_of : List ℕ → List Attribute → Shape
shape_of kind attributes = record { kind = kind; names = names_of attributes }

-- A node has the shape of the statement at its site, and its attributes have distinct names.
abbrev pub HasShape : (ℕ → Told) → ℕ → GroupKind → Type 0
HasShape look site (trail.Node kind attributes) =
    (look site ≡ Some (Some (shape_of kind attributes))) × HaveDistinctNames attributes
HasShape look site _ = Unit {0}

abbrev pub HaveShapes : (ℕ → Told) → GroupForest → Type 0
HaveShapes look End = Unit {0}
HaveShapes look (Read x rest) = HaveShapes look rest
HaveShapes look (Group site n what inside rest) =
    HasShape look site what × HaveShapes look inside × HaveShapes look rest

-- The attributes of a node that a statement makes.

names_made : (m : Map) (ns : List Named) (env : Bindings)
    → names_of (map attribute (eval_named m ns env).value) ≡ texts ns
names_made m [] env = refl
names_made m (n ∷ ns) env = ap (λ l. n.name.text ∷ l) (names_made m ns env)

any_name : (name : List ℕ) (attributes : List Attribute)
    → has_attribute name attributes ≡ list_any (λ m. bytes_eq m name) (names_of attributes)
any_name name [] = refl
any_name name (a ∷ rest) = ap (λ b. bytes_eq a.name name || b) (any_name name rest)

distinct_names : (attributes : List Attribute) → AreApart (names_of attributes) → HaveDistinctNames attributes
distinct_names [] h = tt
distinct_names (a ∷ rest) h = (any_name a.name rest ∙ h.0, distinct_names rest h.1)

made_shape : (look : ℕ → Told) (site : ℕ) (kind : List ℕ) (ns : List Named) (attributes : List Attribute)
    → names_of attributes ≡ texts ns → look site ≡ Some (Some (record { kind = kind; names = texts ns }))
    → AreApart (texts ns)
    → (look site ≡ Some (Some (shape_of kind attributes))) × HaveDistinctNames attributes
made_shape look site kind ns attributes same told apart = (
  told ∙ ap (λ (l : List (List ℕ)). Some (Some (record { kind = kind; names = l }))) (sym same),
  distinct_names attributes (subst (λ (l : List (List ℕ)). AreApart l) (sym same) apart),
)

-- The property that nodes have shapes, for statements whose shapes `look` gives.
shaped_forests : (look : ℕ → Told) (m : Map) (fs : List Meaning) → AllHold (HaveShapes look) fs
    → IsForestProperty m fs AnyReads (HaveShapes look) (IsTold look)
shaped_forests look m fs calls = record {
  none = tt;
  read = λ x xs r. (tt, λ t h. h);
  facts = facts;
}
  where
    shaped : (at site : ℕ) (head : Head) (body : Stmts) (env : Bindings) → IsTold look (Block at site head body)
        → Allows (HaveShapes look) site (head_group m head env)
    shaped at site (Node kind attributes) body env h = λ t u f g. (
      made_shape look site kind.text attributes (map attribute (eval_named m attributes env).value)
          (names_made m attributes env) h.0 h.1,
      f,
      g,
    )
    shaped at site (For name list) body env h = tt
    shaped at site (Let name e) body env h = tt
    shaped at site _ body env h = λ t u f g. (tt, f, g)

    facts : (s : Stmt) (env : Bindings) → IsTold look s → StatementFacts m fs AnyReads (HaveShapes look) s env
    facts (Call at site name function arguments) env h = (tt, λ u g. (tt, calls function _, g))
    facts (If at site condition then_branch else_branch) env h = tt
    facts (Block at site head body) env h = (tt, shaped at site head body env h)

forest_shaped : (look : ℕ → Told) (functions : List Func) (root : ℕ) (m : Map) → FunctionsAreTold look functions
    → HaveShapes look (forest functions root m)
forest_shaped look functions root m h =
    (tt, meanings_hold (shaped_forests look m) functions tt h root [], tt)

-- Node numbers change neither shapes nor sites.
shaped_anyway : (look : ℕ → Told) (t : GroupForest) → HaveShapes look (without_numbers t) → HaveShapes look t
shaped_anyway look End h = tt
shaped_anyway look (Read x rest) h = shaped_anyway look rest h
shaped_anyway look (Group site n what inside rest) h =
    (h.0, shaped_anyway look inside h.1, shaped_anyway look rest h.2)

at_anyway : (at_site : ℕ → Bool) (t : GroupForest) → NodesAt at_site (without_numbers t) → NodesAt at_site t
at_anyway at_site End h = tt
at_anyway at_site (Read x rest) h = at_anyway at_site rest h
at_anyway at_site (Group site n what inside rest) h = (h.0, at_anyway at_site inside h.1, at_anyway at_site rest h.2)

-- A composed forest has its nodes at the sites of its node statements, each with the shape of the statement.
pub record IsShaped (look : ℕ → Told) (t : GroupForest) : Type 0 where
  pub sites : NodesAt (at_node look) t
  pub shapes : HaveShapes look t

root_is_no_node : (p : Program) → IsNumberedProgram p → false ≡ at_node (look_up p.functions) 0
root_is_no_node p h = sym (ap tells_node (none_at_root p h))

pub composed_at_sites : (p : Program) (root : ℕ) (m : Map) → IsNumberedProgram p → program_faults p ≡ []
    → NodesAt (at_node (look_up p.functions)) (forest p.functions root m)
composed_at_sites p root m h e =
    nodes_are_at_node_sites (at_node (look_up p.functions)) p.functions root m (root_is_no_node p h)
    (functions_tell (look_up p.functions) p.functions (functions_are_told p h e))

pub composed_is_shaped : (p : Program) (root : ℕ) (m : Map) (t : GroupForest) → IsNumberedProgram p
    → program_faults p ≡ [] → without_numbers t ≡ forest p.functions root m → IsShaped (look_up p.functions) t
composed_is_shaped p root m t h e same =
    let told = functions_are_told p h e in
    record {
      sites = at_anyway (at_node (look_up p.functions)) t
          (subst (λ (u : GroupForest). NodesAt (at_node (look_up p.functions)) u) (sym same)
          (composed_at_sites p root m h e));
      shapes = shaped_anyway (look_up p.functions) t
          (subst (λ (u : GroupForest). HaveShapes (look_up p.functions) u) (sym same)
          (forest_shaped (look_up p.functions) p.functions root m told));
    }

pub kept_is_shaped : (p : Program) (root : ℕ) (t : GroupForest) → IsNumberedProgram p → program_faults p ≡ []
    → WasComposed p.functions root t → IsShaped (look_up p.functions) t
kept_is_shaped p root t h e (inl none) =
    subst (λ (u : GroupForest). IsShaped (look_up p.functions) u) (sym none) (record { sites = tt; shapes = tt })
kept_is_shaped p root t h e (inr made) = composed_is_shaped p root made.0 t h e made.1
