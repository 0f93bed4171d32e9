-- A node that keeps its number keeps its shape.
use Rattle.std.proofs.Common.{ℕ, ◌==◌, ◌≡◌, List, [], refl, ap, ◌∙◌, sym, subst, Bool, true, false, if◌then◌else◌, Option, Some, None}
use Rattle.std.proofs.lemmas.Bool.{eqb-true}
use Rattle.rt_groups.specs.GroupForest.{GroupForest, End, Read, Group, GroupKind, Call, Node, Attribute, is_node}
use Rattle.rt_groups.specs.Nodes.{Nodes, Branch, joined_nodes, group_nodes, nodes}
use Rattle.rt_groups.specs.Nodes as tree
use Rattle.rt_groups.specs.Frames.{numbered_forest}
use Rattle.compose_model.specs.Composing.{forest}
use Rattle.recompose_laws.proofs.Apart.{numbers_stay_distinct}
use Rattle.recompose_laws.proofs.Plain.{kept_trail_is_the_forest}
use Rattle.node_tree.specs.NodeTrees.{TreeNode, tree_node, node_list}
use Rattle.node_tree.specs.Placing.{numbered_node, children_since}
use Rattle.node_tree.specs.Premises.{HaveDistinctNames, names_of, KeepsShape, KeepShapes}
use Rattle.node_laws.specs.FollowingTrees.{NextTreeCanFollow}
use Rattle.node_laws.proofs.StatementSites.{Shape, Told, look_up}
use Rattle.node_laws.proofs.ToldForests.{at_node, shape_of, HasShape, HaveShapes, composed_at_sites, composed_is_shaped, kept_is_shaped}
use Rattle.node_laws.proofs.KeptSites.{IsOnlyAt, KeepSites, frame_keeps_sites}
use Rattle.node_laws.proofs.ForestTrees.{kept_tree_is_distinct}

-- A fact of the number, the kind and the attributes of a node.
abbrev Fact : Type 1
Fact = ℕ → List ℕ → List Attribute → Type 0

-- Each node of a tree has the fact.
abbrev Everywhere : Fact → Nodes → Type 0
Everywhere fact tree.None = Unit {0}
Everywhere fact (Branch n kind attributes children rest) =
    fact n kind attributes × Everywhere fact children × Everywhere fact rest

joined_everywhere : (fact : Fact) (s t : Nodes) → Everywhere fact s → Everywhere fact t
    → Everywhere fact (joined_nodes s t)
joined_everywhere fact tree.None t f g = g
joined_everywhere fact (Branch n kind attributes children rest) t f g = (f.0, f.1, joined_everywhere fact rest t f.2 g)

-- A node with this number has this kind and these attribute names.
abbrev Alike : ℕ → List ℕ → List Attribute → Fact
Alike n kind attributes m old_kind old = m ≡ n → (old_kind ≡ kind) × (names_of old ≡ names_of attributes)

-- A new node is like the old nodes with its number, and its attributes have distinct names.
abbrev Keeps : Nodes → Fact
Keeps old n kind attributes = Everywhere (Alike n kind attributes) old × HaveDistinctNames attributes

same_shapes : (kind kind' : List ℕ) (as_ as_' : List Attribute) (told : Told) → told ≡ Some (Some (shape_of kind as_))
    → told ≡ Some (Some (shape_of kind' as_')) → (kind ≡ kind') × (names_of as_ ≡ names_of as_')
same_shapes kind kind' as_ as_' told e f =
    let same : shape_of kind as_ ≡ shape_of kind' as_' =
    let whole : Some (Some (shape_of kind as_)) ≡ Some (Some (shape_of kind' as_')) = sym e ∙ f in cc in
    (ap (λ (s : Shape). s.kind) same, ap (λ (s : Shape). s.names) same)

module _ (look : ℕ → Told) where
  -- The old nodes with the number of a new node at a site are like the new node.
  group_alike : (n site : ℕ) (kind : List ℕ) (attributes : List Attribute) (s m : ℕ) (what : GroupKind) (inside : Nodes)
      → look site ≡ Some (Some (shape_of kind attributes)) → (is_node what ≡ true → m ≡ n → s ≡ site)
      → HasShape look s what → Everywhere (Alike n kind attributes) inside
      → Everywhere (Alike n kind attributes) (group_nodes what m inside)
  group_alike n site kind attributes s m (Call f vs) inside told here shape deep = deep
  group_alike n site kind attributes s m (Node old_kind old) inside told here shape deep = (
    λ same. same_shapes old_kind kind old attributes (look site) (sym (ap look (here refl same)) ∙ shape.0) told,
    deep,
    tt,
  )
  group_alike n site kind attributes s m _ inside told here shape deep = deep

  old_alike : (n site : ℕ) (kind : List ℕ) (attributes : List Attribute) (t : GroupForest)
      → look site ≡ Some (Some (shape_of kind attributes)) → IsOnlyAt n site t → HaveShapes look t
      → Everywhere (Alike n kind attributes) (nodes t)
  old_alike n site kind attributes End told only shapes = tt
  old_alike n site kind attributes (Read x rest) told only shapes =
      old_alike n site kind attributes rest told only shapes
  old_alike n site kind attributes (Group s m what inside rest) told only shapes =
      joined_everywhere (Alike n kind attributes) (group_nodes what m (nodes inside)) (nodes rest)
      (group_alike n site kind attributes s m what (nodes inside) told only.0 shapes.0
      (old_alike n site kind attributes inside told only.1 shapes.1))
      (old_alike n site kind attributes rest told only.2 shapes.2)

  group_keeps : (old : GroupForest) (s m : ℕ) (what : GroupKind) (inside : Nodes) → HaveShapes look old
      → (is_node what ≡ true → IsOnlyAt m s old) → HasShape look s what → Everywhere (Keeps (nodes old)) inside
      → Everywhere (Keeps (nodes old)) (group_nodes what m inside)
  group_keeps old s m (Call f vs) inside g here shape deep = deep
  group_keeps old s m (Node kind attributes) inside g here shape deep =
      ((old_alike m s kind attributes old shape.0 (here refl) g, shape.1), deep, tt)
  group_keeps old s m _ inside g here shape deep = deep

  new_keeps : (old t : GroupForest) → HaveShapes look old → KeepSites old t → HaveShapes look t
      → Everywhere (Keeps (nodes old)) (nodes t)
  new_keeps old End g sites shapes = tt
  new_keeps old (Read x rest) g sites shapes = new_keeps old rest g sites shapes
  new_keeps old (Group s m what inside rest) g sites shapes =
      joined_everywhere (Keeps (nodes old)) (group_nodes what m (nodes inside)) (nodes rest)
      (group_keeps old s m what (nodes inside) g sites.0 shapes.0 (new_keeps old inside g sites.1 shapes.1))
      (new_keeps old rest g sites.2 shapes.2)

-- From the whole old tree to the nodes of each level.

abbrev children_of : Option TreeNode → Nodes
children_of None = tree.None
children_of (Some t) = t.children

children_are : (o : Option TreeNode) → node_list (children_of o) ≡ children_since o
children_are None = refl
children_are (Some t) = refl

inside_everywhere : (fact : Fact) (q : ℕ) (old : Nodes) → Everywhere fact old
    → Everywhere fact (children_of (numbered_node q (node_list old)))
inside_everywhere fact q tree.None h = tt
inside_everywhere fact q (Branch n kind attributes children rest) h = by (n == q) (inside_everywhere fact q rest h.2)
  where
    by : (b : Bool) → Everywhere fact (children_of (numbered_node q (node_list rest)))
        → Everywhere fact (children_of (if b then Some (tree_node n kind attributes children)
        else numbered_node q (node_list rest)))
    by true later = h.1
    by false later = later

keeps_inside : (q : ℕ) (old new : Nodes) → Everywhere (Keeps old) new
    → Everywhere (Keeps (children_of (numbered_node q (node_list old)))) new
keeps_inside q old tree.None h = tt
keeps_inside q old (Branch n kind attributes children rest) h = (
  (inside_everywhere (Alike n kind attributes) q old h.0.0, h.0.1),
  keeps_inside q old children h.1,
  keeps_inside q old rest h.2,
)

found_shape : (n : ℕ) (kind : List ℕ) (attributes : List Attribute) (old : Nodes)
    → Everywhere (Alike n kind attributes) old → KeepsShape (numbered_node n (node_list old)) kind attributes
found_shape n kind attributes tree.None h = tt
found_shape n kind attributes (Branch m old_kind as_ children rest) h =
    by (m == n) refl (found_shape n kind attributes rest h.2)
  where
    by : (b : Bool) → (m == n) ≡ b → KeepsShape (numbered_node n (node_list rest)) kind attributes
        → KeepsShape (if b then Some (tree_node m old_kind as_ children) else numbered_node n (node_list rest)) kind
        attributes
    by true e later = h.0 (eqb-true m n e)
    by false e later = later

keep_shapes : (old new : Nodes) → Everywhere (Keeps old) new → KeepShapes (node_list old) new
keep_shapes old tree.None h = tt
keep_shapes old (Branch n kind attributes children rest) h = (
  found_shape n kind attributes old h.0.0,
  h.0.1,
  subst (λ (l : List TreeNode). KeepShapes l children) (children_are (numbered_node n (node_list old)))
      (keep_shapes (children_of (numbered_node n (node_list old))) children (keeps_inside n old children h.1)),
  keep_shapes old rest h.2,
)

pub next_tree_can_follow : NextTreeCanFollow
next_tree_can_follow p root old next m numbered fine was distinct =
    let new : GroupForest = forest p.functions root m in
    let look : ℕ → Told = look_up p.functions in
    let trail : GroupForest = (numbered_forest old [] [] next new).0 in
    let before = kept_is_shaped p root old numbered fine was in
    let plain = composed_at_sites p root m numbered fine in
    let after = composed_is_shaped p root m trail numbered fine
    (kept_trail_is_the_forest old next p.functions root m) in
    let stays = (numbers_stay_distinct (at_node look) old new next before.sites plain distinct).0 in
    let sites = frame_keeps_sites (at_node look) old new next before.sites plain distinct in (
      record {
        old_numbers = kept_tree_is_distinct old next distinct;
        new_numbers = kept_tree_is_distinct trail (numbered_forest old [] [] next new).1 stays;
        shapes = keep_shapes (nodes old) (nodes trail) (new_keeps look old trail before.shapes sites after.shapes);
      },
      stays,
    )
