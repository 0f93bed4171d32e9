-- The sites at which a checked program has node statements are those of its nodes.
use Rattle.std.proofs.Common.{◌≡◌, ℕ, Bool, Option, None, Some, refl, ◌∙◌}
use Rattle.rt_groups.specs.GroupForest.{GroupForest, End, Read, Group}
use Rattle.lang_ast.specs.Terms.{Node, Stmt, Block}
use Rattle.lang_ast.specs.Programs.{functions_statements, statement_at}
use Rattle.compose_model.specs.Composing.{forest}
use Rattle.recompose_laws.specs.Distinct.{NodesAt}
use Rattle.node_laws.proofs.StatementSites.{statement_shape, look_up}
use Rattle.node_laws.proofs.ToldForests.{tells_node, at_node, composed_at_sites}
use Rattle.node_laws.specs.NodeSites.{makes_node, is_node_site, NodesAreAtSitesOfPrograms}

shape_of_node : (o : Option Stmt) → tells_node (statement_shape o) ≡ makes_node o
shape_of_node None = refl
shape_of_node (Some (Block at site (Node kind attributes) body)) = refl
shape_of_node (Some _) = refl

at_same_sites : (f g : ℕ → Bool) (t : GroupForest) → ((x : ℕ) → f x ≡ g x) → NodesAt f t → NodesAt g t
at_same_sites f g End same h = tt
at_same_sites f g (Read x rest) same h = at_same_sites f g rest same h
at_same_sites f g (Group site n what inside rest) same h =
    (h.0 ∙ same site, at_same_sites f g inside same h.1, at_same_sites f g rest same h.2)

pub nodes_are_at_sites_of_programs : NodesAreAtSitesOfPrograms
nodes_are_at_sites_of_programs p root m h e =
    at_same_sites (at_node (look_up p.functions)) (is_node_site p.functions) (forest p.functions root m)
    (λ x. shape_of_node (statement_at x (functions_statements p.functions))) (composed_at_sites p root m h e)
