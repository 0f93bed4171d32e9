-- The JSON of groups is the JSON of the node tree.
use Rattle.std.proofs.Common.{◌≡◌, ℕ, ◌+◌, List, [], ◌∷◌, ◌++◌, map, Bool, true, false, codes, inl, inr, refl, sym, ap, ◌∙◌, append_assoc, append-nil, nat_le, leb-false, le-leb, leb-true, arith}
use Rattle.std.specs.Fmt.{decimal}
use Rattle.std.proofs.lemmas.Bool.Decides.{leb_tells}
use Rattle.json.specs.Print.{escape_byte, quoted}
use Rattle.rt_groups.specs.GroupForest.{GroupForest, End, Read, Attribute}
use Rattle.rt_groups.specs.GroupForest as trail
use Rattle.rt_groups.specs.PreorderGroups.{preorder, flat_attribute, flat_kind}
use Rattle.rt_groups.specs.Nodes.{Nodes, Branch, joined_nodes, group_nodes, nodes}
use Rattle.rt_groups.specs.Nodes as tree
use Rattle.rt_groups.specs.declared.groups.Group.{Group}
use Rattle.rt_groups.specs.declared.groups.GroupKind.{GroupKind}
use Rattle.serde_json.specs.Data.{Items, object}
use Rattle.serde_json.specs.Written.{comma_if, compact_text, items_text}
use Rattle.script_lang.specs.GroupLines.{plain_attribute}
use Rattle.script_lang.specs.TreeJson.{attributes_data, node_data, nodes_data}
use Rattle.script_lang.specs.GroupJson.{OpenNode, open_node, json_state, node_start, node_end, ends_from, state_at, json_of, json_after, groups_json, initial_json, GroupsTellTheJson}
use Rattle.script_lang.proofs.Trees.{plain_attribute-flat_attribute}

-- The text of nodes in order, without the bracket after them.
inner : Bool → Nodes → List ℕ
inner later tree.None = []
inner later (Branch n kind as_ children rest) =
    comma_if later ++ (node_start as_ ++ (inner false children ++ (node_end n kind ++ inner true rest)))

-- An object's text after its children.
abbrev rest_of : List ℕ → List ℕ → List ℕ
rest_of kind number = codes ",\"kind\":" ++ (kind ++ (codes ",\"number\":" ++ (number ++ 125 ∷ [])))

-- A node after its children, without their bracket.
abbrev tail : ℕ → List ℕ → List ℕ
tail n kind = rest_of (quoted kind) (decimal n)

-- The members of an object that come after its children.
abbrev last_members : List ℕ → List ℕ → List ℕ
last_members kind number = 44 ∷ (quoted (codes "kind") ++ 58 ∷ (kind ++ 44 ∷ (quoted (codes "number") ++ 58 ∷ (number ++ 125 ∷ []))))

last_parts : (kind number : List ℕ) → last_members kind number ≡ rest_of kind number
unfolding escape_byte
last_parts kind number = refl

-- The parts of an object's text.
parts : (attributes children last : List ℕ) →
    123 ∷ (quoted (codes "attributes") ++ 58 ∷ (attributes ++ 44 ∷ (quoted (codes "children") ++ 58 ∷ 91 ∷ (children ++ last))))
    ≡ (codes "{\"attributes\":" ++ (attributes ++ codes ",\"children\":[")) ++ (children ++ last)
unfolding escape_byte
parts attributes children last = sym (ap (λ l. codes "{\"attributes\":" ++ l) (append_assoc attributes (codes ",\"children\":[") (children ++ last)))

object_text : (n : ℕ) (kind : List ℕ) (as_ : List Attribute) (children : Items) →
    compact_text (object (node_data n kind (attributes_data as_) children))
    ≡ node_start as_ ++ (items_text false children ++ tail n kind)
object_text n kind as_ children =
    parts (compact_text (object (attributes_data as_))) (items_text false children)
    (last_members (quoted kind) (decimal n))
    ∙ ap (λ l. node_start as_ ++ (items_text false children ++ l)) (last_parts (quoted kind) (decimal n))

items_text-inner : (later : Bool) (t : Nodes) → items_text later (nodes_data t) ≡ inner later t ++ 93 ∷ []
unfolding inner
items_text-inner later tree.None = refl
items_text-inner later (Branch n kind as_ children rest) =
    let c = comma_if later in
    let s = node_start as_ in
    let i = inner false children in
    let e = node_end n kind in
    let r = inner true rest in
    ap (λ l. c ++ (l ++ items_text true (nodes_data rest))) (object_text n kind as_ (nodes_data children))
    ∙ ap (λ l. c ++ ((s ++ (l ++ tail n kind)) ++ items_text true (nodes_data rest))) (items_text-inner false children)
    ∙ ap (λ l. c ++ ((s ++ l) ++ items_text true (nodes_data rest))) (append_assoc i (93 ∷ []) (tail n kind))
    ∙ ap (λ l. c ++ ((s ++ (i ++ e)) ++ l)) (items_text-inner true rest)
    ∙ ap (λ l. c ++ l) (append_assoc s (i ++ e) (r ++ 93 ∷ []))
    ∙ ap (λ l. c ++ (s ++ l)) (append_assoc i e (r ++ 93 ∷ []))
    ∙ ap (λ l. c ++ (s ++ (i ++ l))) (sym (append_assoc e r (93 ∷ [])))
    ∙ ap (λ l. c ++ (s ++ l)) (sym (append_assoc i (e ++ r) (93 ∷ [])))
    ∙ ap (λ l. c ++ l) (sym (append_assoc s (i ++ (e ++ r)) (93 ∷ [])))
    ∙ sym (append_assoc c (s ++ (i ++ (e ++ r))) (93 ∷ []))

-- Whether a list has a node after these nodes.
abbrev after : Bool → Nodes → Bool
after later tree.None = later
after later (Branch n kind as_ children rest) = true

after_true : (t : Nodes) → after true t ≡ true
after_true tree.None = refl
after_true (Branch n kind as_ children rest) = refl

after-joined_nodes : (later : Bool) (t u : Nodes) → after later (joined_nodes t u) ≡ after (after later t) u
after-joined_nodes later tree.None u = refl
after-joined_nodes later (Branch n kind as_ children rest) u = sym (after_true u)

inner-joined_nodes : (later : Bool) (t u : Nodes)
    → inner later (joined_nodes t u) ≡ inner later t ++ inner (after later t) u
unfolding inner
inner-joined_nodes later tree.None u = refl
inner-joined_nodes later (Branch n kind as_ children rest) u =
    let c = comma_if later in
    let s = node_start as_ in
    let i = inner false children in
    let e = node_end n kind in
    let r = inner true rest in
    ap (λ l. c ++ (s ++ (i ++ (e ++ l)))) (inner-joined_nodes true rest u)
    ∙ ap (λ b. c ++ (s ++ (i ++ (e ++ (r ++ inner b u))))) (after_true rest)
    ∙ ap (λ l. c ++ (s ++ (i ++ l))) (sym (append_assoc e r (inner true u)))
    ∙ ap (λ l. c ++ (s ++ l)) (sym (append_assoc i (e ++ r) (inner true u)))
    ∙ ap (λ l. c ++ l) (sym (append_assoc s (i ++ (e ++ r)) (inner true u)))
    ∙ sym (append_assoc c (s ++ (i ++ (e ++ r))) (inner true u))

-- The ends of open nodes, innermost first.
abbrev all_ends : List OpenNode → List ℕ
all_ends [] = []
all_ends (o ∷ os) = node_end o.number o.kind ++ all_ends os

-- Whether a list has a node after these nodes are closed.
abbrev closed : Bool → List OpenNode → Bool
closed later [] = later
closed later (o ∷ os) = true

-- All have this depth or a greater one.
abbrev AreDeep : ℕ → List OpenNode → Type 0
AreDeep d [] = Unit {0}
AreDeep d (o ∷ os) = (nat_le d o.depth ≡ true) × AreDeep d os

-- The innermost one has a lesser depth.
abbrev IsShallow : ℕ → List OpenNode → Type 0
IsShallow d [] = Unit {0}
IsShallow d (o ∷ os) = nat_le d o.depth ≡ false

weaker : (d : ℕ) (os : List OpenNode) → AreDeep (d + 1) os → AreDeep d os
weaker d [] h = tt
weaker d (o ∷ os) h =
    (le-leb d o.depth (let more = leb-true (d + 1) o.depth h.0 in omega (arith, more)), weaker d os h.1)

not_deep : (d n : ℕ) → nat_le d n ≡ false → nat_le (d + 1) n ≡ false
not_deep d n h = elim (leb_tells (d + 1)
    n) [ inl deep ↦ absurd (let less = leb-false d n h in omega (arith, less, deep.1)) | inr less ↦ less.0 ]

shallower : (d : ℕ) (os : List OpenNode) → IsShallow d os → IsShallow (d + 1) os
shallower d [] h = tt
shallower d (o ∷ os) h = not_deep d o.depth h

below_next : (d : ℕ) → nat_le (d + 1) d ≡ false
below_next d = elim (leb_tells (d + 1) d) [ inl deep ↦ absurd (omega (arith, deep.1)) | inr less ↦ less.0 ]

at_least_itself : (d : ℕ) → nat_le d d ≡ true
at_least_itself d = le-leb d d (omega arith)

ends : (d : ℕ) (more base : List OpenNode) → AreDeep d more → IsShallow d base
    → ends_from d (more ++ base) ≡ all_ends more
ends d [] [] deep shallow = refl
ends d [] (o ∷ os) deep shallow = rw shallow refl
ends d (o ∷ more) base deep shallow =
    rw deep.0 (ap (λ l. node_end o.number o.kind ++ l) (ends d more base deep.1 shallow))

state_true : (d : ℕ) (more base : List OpenNode) → AreDeep d more → IsShallow d base
    → state_at d (more ++ base) true ≡ json_state base true
state_true d [] [] deep shallow = refl
state_true d [] (o ∷ os) deep shallow = rw shallow refl
state_true d (o ∷ more) base deep shallow = rw deep.0 (state_true d more base deep.1 shallow)

state : (d : ℕ) (more base : List OpenNode) (later : Bool) → AreDeep d more → IsShallow d base
    → state_at d (more ++ base) later ≡ json_state base (closed later more)
state d [] [] later deep shallow = refl
state d [] (o ∷ os) later deep shallow = rw shallow refl
state d (o ∷ more) base later deep shallow = rw deep.0 (state_true d more base deep.1 shallow)

deep_more : (d : ℕ) (more : List OpenNode) (o : OpenNode) → AreDeep d more → nat_le d o.depth ≡ true
    → AreDeep d (more ++ o ∷ [])
deep_more d [] o h last = (last, tt)
deep_more d (x ∷ xs) o h last = (h.0, deep_more d xs o h.1 last)

closed_more : (later : Bool) (more : List OpenNode) (o : OpenNode) → closed later (more ++ o ∷ []) ≡ true
closed_more later [] o = refl
closed_more later (x ∷ xs) o = refl

ends_more : (more : List OpenNode) (o : OpenNode) (k : List ℕ)
    → all_ends (more ++ o ∷ []) ++ k ≡ all_ends more ++ (node_end o.number o.kind ++ k)
ends_more [] o k = append_assoc (node_end o.number o.kind) [] k
ends_more (x ∷ xs) o k =
    append_assoc (node_end x.number x.kind) (all_ends (xs ++ o ∷ [])) k
    ∙ ap (λ l. node_end x.number x.kind ++ l) (ends_more xs o k)
    ∙ sym (append_assoc (node_end x.number x.kind) (all_ends xs) (node_end o.number o.kind ++ k))

-- What follows a forest writes this, after the ends of the nodes that are left open.
abbrev Follows : List OpenNode → ℕ → List Group → (Bool → List ℕ) → Type 0
Follows base d behind k =
    (more : List OpenNode) (later : Bool) → AreDeep d more
    → groups_json (json_state (more ++ base) later) behind ≡ all_ends more ++ k (closed later more)

-- The nodes of a forest, then what follows them.
abbrev forest_then : (Bool → List ℕ) → Nodes → Bool → List ℕ
forest_then k t later = inner later t ++ k (after later t)

-- A group that is not a node, then what follows it.
plain : (k : Bool → List ℕ) (inside rest : Nodes) (later : Bool)
    → forest_then (forest_then k rest) inside later ≡ forest_then k (joined_nodes inside rest) later
plain k inside rest later =
    sym (append_assoc (inner later inside) (inner (after later inside) rest) (k (after (after later inside) rest)))
    ∙ ap (λ l. l ++ k (after (after later inside) rest)) (sym (inner-joined_nodes later inside rest))
    ∙ ap (λ b. inner later (joined_nodes inside rest) ++ k b) (sym (after-joined_nodes later inside rest))

-- A node, then what follows it.
node : (k : Bool → List ℕ) (n : ℕ) (kind : List ℕ) (as_ : List Attribute) (inside rest : Nodes) (later : Bool) →
    (comma_if later ++ node_start as_) ++ (inner false inside ++ (node_end n kind ++ forest_then k rest true))
    ≡ forest_then k (Branch n kind as_ inside rest) later
unfolding inner
node k n kind as_ inside rest later =
    let c = comma_if later in
    let s = node_start as_ in
    let i = inner false inside in
    let e = node_end n kind in
    let r = inner true rest in
    ap (λ b. (c ++ s) ++ (i ++ (e ++ (r ++ k b)))) (after_true rest)
    ∙ append_assoc c s (i ++ (e ++ (r ++ k true)))
    ∙ ap (λ l. c ++ (s ++ (i ++ l))) (sym (append_assoc e r (k true)))
    ∙ ap (λ l. c ++ (s ++ l)) (sym (append_assoc i (e ++ r) (k true)))
    ∙ ap (λ l. c ++ l) (sym (append_assoc s (i ++ (e ++ r)) (k true)))
    ∙ sym (append_assoc c (s ++ (i ++ (e ++ r))) (k true))

-- A forest inside the open nodes `base`. Deeper nodes that were open before are closed first.
abbrev IsTold : GroupForest → Type 0
IsTold t =
    (base extra : List OpenNode) (later : Bool) (d : ℕ) (behind : List Group) (k : Bool → List ℕ) → IsShallow d base
    → AreDeep d extra → Follows base d behind k →
    groups_json (json_state (extra ++ base) later) (preorder d t ++ behind)
    ≡ all_ends extra ++ forest_then k (nodes t) (closed later extra)

-- The first group closes the deeper nodes.
step : (d n : ℕ) (what : GroupKind) (extra base : List OpenNode) (later : Bool) (gs : List Group) → AreDeep d extra
    → IsShallow d base →
    (ends_from d (extra ++ base) ++ json_of (state_at d (extra ++ base) later).later what)
    ++ groups_json (json_after d n what (state_at d (extra ++ base) later)) gs
    ≡ all_ends extra ++ (json_of (closed later extra) what
    ++ groups_json (json_after d n what (json_state base (closed later extra))) gs)
step d n what extra base later gs deep shallow =
    ap (λ l. (l ++ json_of (state_at d (extra ++ base) later).later what)
    ++ groups_json (json_after d n what (state_at d (extra ++ base) later)) gs) (ends d extra base deep shallow)
    ∙ ap (λ s. (all_ends extra ++ json_of s.later what) ++ groups_json (json_after d n what s) gs)
    (state d extra base later deep shallow)
    ∙ append_assoc (all_ends extra) (json_of (closed later extra) what)
    (groups_json (json_after d n what (json_state base (closed later extra))) gs)

plain_case : (inside rest : GroupForest) → IsTold inside → IsTold rest
    → (base : List OpenNode) (later : Bool) (d : ℕ) (behind : List Group) (k : Bool → List ℕ) → IsShallow d base
    → Follows base d behind k →
    groups_json (json_state base later) ((preorder (d + 1) inside ++ preorder d rest) ++ behind)
    ≡ forest_then k (joined_nodes (nodes inside) (nodes rest)) later
plain_case inside rest within after_it base later d behind k shallow h =
    ap (groups_json (json_state base later)) (append_assoc (preorder (d + 1) inside) (preorder d rest) behind)
    ∙ within base [] later (d + 1) (preorder d rest ++ behind) (forest_then k (nodes rest)) (shallower d base shallow)
    tt (λ more l deep. after_it base more l d behind k shallow (weaker d more deep) h)
    ∙ plain k (nodes inside) (nodes rest) later

node_case : (inside rest : GroupForest) → IsTold inside → IsTold rest
    → (base : List OpenNode) (n : ℕ) (kind : List ℕ) (d : ℕ) (behind : List Group) (k : Bool → List ℕ)
    → IsShallow d base → Follows base d behind k →
    groups_json (json_state (open_node d n kind ∷ base) false) ((preorder (d + 1) inside ++ preorder d rest) ++ behind)
    ≡ inner false (nodes inside) ++ (node_end n kind ++ forest_then k (nodes rest) true)
node_case inside rest within after_it base n kind d behind k shallow h =
    let o = open_node d n kind in
    let later_groups = preorder d rest ++ behind in
    ap (groups_json (json_state (o ∷ base) false)) (append_assoc (preorder (d + 1) inside) (preorder d rest) behind)
    ∙ within (o ∷ base) [] false (d + 1) later_groups (λ b. node_end n kind ++ forest_then k (nodes rest) true)
    (below_next d) tt
    (λ more l deep.
    ap (λ os. groups_json (json_state os l) later_groups) (sym (append_assoc more (o ∷ []) base))
    ∙ after_it base (more ++ o ∷ []) l d behind k shallow (deep_more d more o (weaker d more deep) (at_least_itself d))
    h
    ∙ ap (λ b. all_ends (more ++ o ∷ []) ++ forest_then k (nodes rest) b) (closed_more l more o)
    ∙ ends_more more o (forest_then k (nodes rest) true))

told : (t : GroupForest) → IsTold t
unfolding inner
told End base extra later d behind k shallow deep h = h extra later deep
told (Read x rest) base extra later d behind k shallow deep h = told rest base extra later d behind k shallow deep h
told (trail.Group site n (trail.Call f vs) inside rest) base extra later d behind k shallow deep h =
    step d n (flat_kind (trail.Call f vs)) extra base later _ deep shallow
    ∙ ap (λ l. all_ends extra ++ l)
    (plain_case inside rest (told inside) (told rest) base (closed later extra) d behind k shallow h)
told (trail.Group site n (trail.Key v) inside rest) base extra later d behind k shallow deep h =
    step d n (flat_kind (trail.Key v)) extra base later _ deep shallow
    ∙ ap (λ l. all_ends extra ++ l)
    (plain_case inside rest (told inside) (told rest) base (closed later extra) d behind k shallow h)
told (trail.Group site n (trail.Cell ks v) inside rest) base extra later d behind k shallow deep h =
    step d n (flat_kind (trail.Cell ks v)) extra base later _ deep shallow
    ∙ ap (λ l. all_ends extra ++ l)
    (plain_case inside rest (told inside) (told rest) base (closed later extra) d behind k shallow h)
told (trail.Group site n (trail.Node kind as_) inside rest) base extra later d behind k shallow deep h =
    let c = comma_if (closed later extra) in
    step d n (flat_kind (trail.Node kind as_)) extra base later _ deep shallow
    ∙ ap (λ l. all_ends extra ++ ((c ++ node_start (map plain_attribute (map flat_attribute as_))) ++ l))
    (node_case inside rest (told inside) (told rest) base n kind d behind k shallow h)
    ∙ ap (λ l. all_ends extra ++ ((c ++ node_start l)
    ++ (inner false (nodes inside) ++ (node_end n kind ++ forest_then k (nodes rest) true))))
    (plain_attribute-flat_attribute as_)
    ∙ ap (λ l. all_ends extra ++ l) (node k n kind as_ (nodes inside) (nodes rest) (closed later extra))

all_deep : (os : List OpenNode) → AreDeep 0 os
all_deep [] = tt
all_deep (o ∷ os) = (le-leb 0 o.depth (omega arith), all_deep os)

last : Follows [] 0 [] (λ b. [])
last more later deep = ends 0 more [] deep tt ∙ sym (append-nil (all_ends more))

pub groups_tell_the_json : GroupsTellTheJson
groups_tell_the_json t =
    ap (λ l. 91 ∷ l ++ 93 ∷ [])
    (ap (groups_json initial_json) (sym (append-nil (preorder 0 t))) ∙ told t [] [] false 0 [] (λ b. []) tt tt last
    ∙ append-nil (inner false (nodes t)))
    ∙ ap (λ l. 91 ∷ l) (sym (items_text-inner false (nodes t)))
