-- Internal: the nodes of a node tree as they are stored, and the tree that they represent.
use Rattle.std.specs.Prelude.{◌≡◌, ℕ, ◌+◌, List, [], ◌∷◌, map, Option, Some, refl}
use Rattle.std.specs.Prelude.{None as Absent}
use Rattle.std.proofs.Common.{◌∙◌, ap, ◌≤◌, arith}
use denote.Param.Weighed.{most}
use Rattle.std.specs.Coded.{Coded, code_by, coded×, coded_ℕ, coded_list, coded_option}
use Rattle.rt_groups.specs.Nodes.{Nodes, None, Branch}
use Rattle.rt_groups.specs.declared.groups.Attribute.{Attribute as AttributeData}
use Rattle.node_tree.specs.NodeTrees.{TreeNode, tree_node, OpenNode}
use Rattle.node_tree.specs.Calls.{attribute_of}

-- Stored nodes in order. A node keeps its children, and its siblings before it and after it while it is open.
pub data KeptNodes : Type 0 where
  NoNode : KeptNodes
  Kept : (number : ℕ) → (kind : List ℕ) → (attributes : List AttributeData) →
      (children before after rest : KeptNodes) → KeptNodes

-- A stored node.
pub record KeptValue : Type 0 where
  pub number : ℕ
  pub kind : List ℕ
  pub attributes : List AttributeData
  pub children : KeptNodes
  pub before : KeptNodes
  pub after : KeptNodes

abbrev pub kept_value : ℕ → List ℕ → List AttributeData → KeptNodes → KeptNodes → KeptNodes → KeptValue
kept_value number kind attributes children before after =
    record {
      number = number;
      kind = kind;
      attributes = attributes;
      children = children;
      before = before;
      after = after;
    }

abbrev pub kept_of : List KeptValue → KeptNodes
kept_of [] = NoNode
kept_of (k ∷ ks) = Kept k.number k.kind k.attributes k.children k.before k.after (kept_of ks)

abbrev pub kept_list : KeptNodes → List KeptValue
kept_list NoNode = []
kept_list (Kept number kind attributes children before after rest) =
    kept_value number kind attributes children before after ∷ kept_list rest

-- The number of stored nodes, with those inside.
abbrev pub weight : KeptNodes → ℕ
weight NoNode = 0
weight (Kept number kind attributes children before after rest) =
    1 + (weight children + (weight before + weight after)) + weight rest

-- The number of stored nodes of a list, with those inside.
abbrev pub list_weight : List KeptValue → ℕ
list_weight ks = weight (kept_of ks)

abbrev pub inner_weight : KeptValue → ℕ
inner_weight k = weight k.children + (weight k.before + weight k.after)

-- The nodes that stored nodes represent.
abbrev pub nodes_kept : KeptNodes → Nodes
nodes_kept NoNode = None
nodes_kept (Kept number kind attributes children before after rest) =
    Branch number kind (map attribute_of attributes) (nodes_kept children) (nodes_kept rest)

-- The node that a stored node represents.
abbrev pub node_kept : KeptValue → TreeNode
node_kept k = tree_node k.number k.kind (map attribute_of k.attributes) (nodes_kept k.children)

-- The open node that a stored node represents.
abbrev pub open_kept : KeptValue → OpenNode
open_kept k = record {
  before = map node_kept (kept_list k.before);
  number = k.number;
  kind = k.kind;
  attributes = map attribute_of k.attributes;
  after = map node_kept (kept_list k.after);
}

-- A stored node as a token, after the tokens of what is inside it.
abbrev pub Token : Type 0
Token = Option (ℕ × (List ℕ × List AttributeData))

abbrev pub tokens : KeptNodes → List Token → List Token
tokens NoNode more = Absent ∷ more
tokens (Kept number kind attributes children before after rest) more =
    tokens children (tokens before (tokens after (tokens rest (Some (number, (kind, attributes)) ∷ more))))

-- The nodes that are read from tokens, the last first.
abbrev pub put_node : ℕ → List ℕ → List AttributeData → List KeptNodes → List KeptNodes
put_node number kind attributes [] = []
put_node number kind attributes (rest ∷ []) = []
put_node number kind attributes (rest ∷ (after ∷ [])) = []
put_node number kind attributes (rest ∷ (after ∷ (before ∷ []))) = []
put_node number kind attributes (rest ∷ (after ∷ (before ∷ (children ∷ more)))) =
    Kept number kind attributes children before after rest ∷ more

abbrev pub nodes_read : List Token → List KeptNodes → List KeptNodes
nodes_read [] read = read
nodes_read (Absent ∷ ts) read = nodes_read ts (NoNode ∷ read)
nodes_read (Some t ∷ ts) read = nodes_read ts (put_node t.0 t.1.0 t.1.1 read)

abbrev pub first_read : List KeptNodes → KeptNodes
first_read [] = NoNode
first_read (n ∷ ns) = n

-- Reading the tokens of nodes gives the nodes.
abbrev pub tokens_are_read : (n : KeptNodes) (more : List Token) (read : List KeptNodes) →
    nodes_read (tokens n more) read ≡ nodes_read more (n ∷ read)
tokens_are_read NoNode more read = refl
tokens_are_read (Kept number kind attributes children before after rest) more read =
    let last = Some (number, (kind, attributes)) ∷ more in
    tokens_are_read children (tokens before (tokens after (tokens rest last))) read
    ∙ tokens_are_read before (tokens after (tokens rest last)) (children ∷ read)
    ∙ tokens_are_read after (tokens rest last) (before ∷ (children ∷ read))
    ∙ tokens_are_read rest last (after ∷ (before ∷ (children ∷ read)))

-- Stored nodes are coded as tokens.
abbrev pub kept_code : Coded AttributeData → Coded KeptNodes
kept_code attribute =
    code_by
    (List Token)
    (coded_list (coded_option (coded× coded_ℕ (coded× (coded_list coded_ℕ) (coded_list attribute)))))
    (λ n. tokens n [])
    (λ ts. first_read (nodes_read ts []))
    (λ n. ap first_read (tokens_are_read n [] []))

abbrev pub kept_value_code : Coded AttributeData → Coded KeptValue
kept_value_code attribute =
    code_by
    (ℕ × (List ℕ × (List AttributeData × (KeptNodes × (KeptNodes × KeptNodes)))))
    (coded× coded_ℕ (coded× (coded_list coded_ℕ) (coded× (coded_list attribute)
    (coded× (kept_code attribute) (coded× (kept_code attribute) (kept_code attribute))))))
    (λ k. (k.number, (k.kind, (k.attributes, (k.children, (k.before, k.after))))))
    (λ p. kept_value p.0 p.1.0 p.1.1.0 p.1.1.1.0 p.1.1.1.1.0 p.1.1.1.1.1)
    (λ _. refl)

-- No stored node has more inside it than all stored nodes of its list have together.
pub most_weight : (ks : List KeptValue) → most (λ k. inner_weight k + 1) ks ≤ weight (kept_of ks)
most_weight [] = omega arith
most_weight (k ∷ ks) = omega (arith, most_weight ks)
