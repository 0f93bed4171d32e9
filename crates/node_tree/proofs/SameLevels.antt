-- Levels whose siblings have the same numbers in order.
use Rattle.std.proofs.Common.{◌≡◌, ℕ, zero, suc, ◌+◌, ◌<◌, ◌==◌, Bool, true, false, List, [], ◌∷◌, ◌++◌, length, cond, Option, Some, if◌then◌else◌, refl, ap, sym, ◌∙◌, subst, arith, append_assoc, eq-eqb, append-nil}
use Rattle.std.proofs.lemmas.Bool.{ne_eqb, true≢false, or_right as right_true, or_left as left_true, or_parts as parts_false}
use Rattle.rt_values.specs.Values.{same_value}
use Rattle.rt_values.proofs.Equal.{told_equal}
use Rattle.rt_groups.specs.GroupForest.{Attribute}
use Rattle.rt_groups.specs.Nodes.{Nodes, Branch}
use Rattle.rt_groups.specs.Nodes as nodes
use Rattle.node_tree.specs.declared.ops.Op.{Op}
use Rattle.node_tree.specs.declared.ops.Op.TheVariants as op
use Rattle.node_tree.specs.NodeTrees.{TreeNode, tree_node, node_list}
use Rattle.node_tree.specs.Placing.{joined_calls, lists_number, numbered_node, node_index, nodes_without, removals, staying_nodes, move_to, arrangements, child_calls, set_calls, sets_since, children_since, calls_inside, completion, inner_calls, ops_between, ops, new_node}
use Rattle.node_tree.specs.Premises.{AllDistinct, ChildrenAreDistinct, UnchangedTreeNeedsNoCalls}
use Rattle.node_tree.specs.FlatNodes.{FlatNode, flat_node, flat_nodes}
use Rattle.node_tree.specs.SiblingLists.{flat_before, nodes_from, first_node, BeginAlike, HaveSameNumbers}
use Rattle.node_tree.proofs.PlacedLevels.{distinct_from as from_distinct}

-- No node is removed, inserted or moved.

-- Each node of the second list has a number of the first.
abbrev AllIn : List TreeNode → List TreeNode → Type 0
AllIn whole [] = Unit {0}
AllIn whole (n ∷ ns) = (lists_number n.number whole ≡ true) × AllIn whole ns

widened : (x : TreeNode) (whole ns : List TreeNode) → AllIn whole ns → AllIn (x ∷ whole) ns
widened x whole [] h = tt
widened x whole (n ∷ ns) h = (right_true (x.number == n.number) (lists_number n.number whole) h.0, widened x whole ns h.1)

old_in_new : (o n : Nodes) → HaveSameNumbers o n → AllIn (node_list n) (node_list o)
old_in_new nodes.None nodes.None h = tt
old_in_new nodes.None (Branch m k a c rest) h = absurd h
old_in_new (Branch m k a c rest) nodes.None h = absurd h
old_in_new (Branch m k a c rest) (Branch m' k' a' c' rest') h = (
  left_true (m' == m) (lists_number m (node_list rest')) (eq-eqb m' m (sym h.0)),
  widened (tree_node m' k' a' c') (node_list rest') (node_list rest) (old_in_new rest rest' h.1),
)

new_in_old : (o n : Nodes) → HaveSameNumbers o n → AllIn (node_list o) (node_list n)
new_in_old nodes.None nodes.None h = tt
new_in_old nodes.None (Branch m k a c rest) h = absurd h
new_in_old (Branch m k a c rest) nodes.None h = absurd h
new_in_old (Branch m k a c rest) (Branch m' k' a' c' rest') h = (
  left_true (m == m') (lists_number m' (node_list rest)) (eq-eqb m m' h.0),
  widened (tree_node m k a c) (node_list rest) (node_list rest') (new_in_old rest rest' h.1),
)

no_removals : (index : ℕ) (new old : List TreeNode) → AllIn new old → removals index new old ≡ []
no_removals index new [] h = refl
no_removals index new (o ∷ old) h =
    ap (λ (b : Bool). removals (index + 1) new old ++ (if b then [] else op.Remove index 1 ∷ [])) h.0
    ∙ ap (λ (l : List Op). l ++ []) (no_removals (index + 1) new old h.1)

all_stay : (new old : List TreeNode) → AllIn new old → staying_nodes new old ≡ old
all_stay new [] h = refl
all_stay new (o ∷ old) h =
    ap (λ (b : Bool). cond b (o ∷ staying_nodes new old) (staying_nodes new old)) h.0
    ∙ ap (λ l. o ∷ l) (all_stay new old h.1)

no_arrangements : (index : ℕ) (whole : List TreeNode) (o n : Nodes) → HaveSameNumbers o n → AllIn whole (node_list n)
    → arrangements index whole (node_list o) (node_list n) ≡ []
no_arrangements index whole nodes.None nodes.None h f = refl
no_arrangements index whole nodes.None (Branch m k a c rest) h f = absurd h
no_arrangements index whole (Branch m k a c rest) nodes.None h f = absurd h
no_arrangements index whole (Branch m k a c rest) (Branch m' k' a' c' rest') h f =
    let x : TreeNode = tree_node m k a c in
    let same : (m == m') ≡ true = eq-eqb m m' h.0 in
    ap (λ (b : Bool). if b then move_to index (node_index m' (x ∷ node_list rest)) ++ arrangements (index + 1) whole
    (nodes_without m' (x ∷ node_list rest)) (node_list rest')
    else op.InsertTopDown index (new_node (tree_node m' k' a' c')) ∷ arrangements (index + 1) whole (x ∷ node_list rest)
    (node_list rest')) f.0
    ∙ ap (λ (b : Bool). move_to index (if b then 0 else 1 + node_index m' (node_list rest)) ++ arrangements
    (index + 1) whole (if b then node_list rest else x ∷ nodes_without m' (node_list rest)) (node_list rest')) same
    ∙ no_arrangements (index + 1) whole rest rest' h.1 f.1

pub no_child_calls : (o n : Nodes) → HaveSameNumbers o n → child_calls (node_list o) (node_list n) ≡ []
no_child_calls o n h =
    ap (λ (l : List Op). joined_calls l) (
    ap (λ (l : List Op). l ++ arrangements 0 (node_list o) (staying_nodes (node_list n) (node_list o)) (node_list n))
    (no_removals 0 (node_list n) (node_list o) (old_in_new o n h))
    ∙ ap (λ (l : List TreeNode). arrangements 0 (node_list o) l (node_list n))
    (all_stay (node_list n) (node_list o) (old_in_new o n h))
    ∙ no_arrangements 0 (node_list o) o n h (new_in_old o n h))

-- The nodes of a level are found by their numbers.

-- Each node is found by its number in the list.
abbrev FoundIn : List TreeNode → Nodes → Type 0
FoundIn whole nodes.None = Unit {0}
FoundIn whole (Branch m k a c rest) = (numbered_node m whole ≡ Some (tree_node m k a c)) × FoundIn whole rest

found_later : (x : TreeNode) (whole : List TreeNode) (n : Nodes) → lists_number x.number (node_list n) ≡ false
    → FoundIn whole n → FoundIn (x ∷ whole) n
found_later x whole nodes.None h f = tt
found_later x whole (Branch m k a c rest) h f =
    let apart = parts_false (m == x.number) (lists_number x.number (node_list rest)) h in
    let other : (x.number == m) ≡ false =
    ne_eqb x.number m (λ e. true≢false (sym (eq-eqb m x.number (sym e)) ∙ apart.0)) in (
      ap (λ (b : Bool). if b then Some x else numbered_node m whole) other ∙ f.0,
      found_later x whole rest apart.1 f.1,
    )

pub all_found : (n : Nodes) → AllDistinct n → FoundIn (node_list n) n
all_found nodes.None d = tt
all_found (Branch m k a c rest) d = (
  ap (λ (b : Bool). if b then Some (tree_node m k a c) else numbered_node m (node_list rest)) (eq-eqb m m refl),
  found_later (tree_node m k a c) (node_list rest) rest d.0 (all_found rest d.2),
)

-- A tree has no calls to itself.

same_numbers : (n : Nodes) → HaveSameNumbers n n
same_numbers nodes.None = tt
same_numbers (Branch m k a c rest) = (refl, same_numbers rest)

no_sets : (attributes : List Attribute) → set_calls attributes attributes ≡ []
no_sets [] = refl
no_sets (a ∷ rest) =
    let same : same_value a.value a.value ≡ true =
    (told_equal a.value a.value (same_value a.value a.value) refl).1 refl in
    ap (λ (b : Bool). (if b then [] else op.Set a.name a.value ∷ []) ++ set_calls rest rest) same ∙ no_sets rest

no_inner_calls : (index : ℕ) (whole : List TreeNode) (n : Nodes) → FoundIn whole n → AllDistinct n
    → inner_calls index whole n ≡ []
no_inner_calls index whole nodes.None f d = refl
no_inner_calls index whole (Branch m k a c rest) f d =
    let inside : set_calls a a ++ (child_calls (node_list c) (node_list c) ++ inner_calls 0 (node_list c) c) ≡ [] =
    ap (λ (l : List Op). l ++ (child_calls (node_list c) (node_list c) ++ inner_calls 0 (node_list c) c)) (no_sets a)
    ∙ ap (λ (l : List Op). l ++ inner_calls 0 (node_list c) c) (no_child_calls c c (same_numbers c))
    ∙ no_inner_calls 0 (node_list c) c (all_found c d.1) d.1 in
    ap (λ (t : Option TreeNode). calls_inside index
    (sets_since t a ++ (child_calls (children_since t) (node_list c) ++ inner_calls 0 (children_since t) c))
    ++ (completion t index (tree_node m k a c) ++ inner_calls (index + 1) whole rest)) f.0
    ∙ ap (λ (l : List Op). calls_inside index l ++ inner_calls (index + 1) whole rest) inside
    ∙ no_inner_calls (index + 1) whole rest f.1 d.2

pub unchanged_tree_needs_no_calls : UnchangedTreeNeedsNoCalls
unchanged_tree_needs_no_calls n d =
    ap (λ (l : List Op). l ++ inner_calls 0 (node_list n) n) (no_child_calls n n (same_numbers n))
    ∙ no_inner_calls 0 (node_list n) n (all_found n d) d

-- A list without nodes.
pub no_nodes : (n : Nodes) (xs : List FlatNode) → xs ≡ flat_nodes n → length xs ≡ 0 → n ≡ nodes.None
no_nodes nodes.None xs e h = refl
no_nodes (Branch m k a c rest) xs e h =
    absurd (let f : length xs ≡ suc (length (flat_nodes c ++ flat_nodes rest)) = ap (λ (l : List FlatNode). length l)
    e in omega (arith, f, h))

-- The walk that compares the numbers of two levels.

-- The remaining nodes of two levels whose first siblings have equal numbers.
pub record LevelsLeft (o n : Nodes) (before after : List FlatNode) : Type 0 where
  pub old : Nodes
  pub new : Nodes
  pub before_is : before ≡ flat_nodes old
  pub after_is : after ≡ flat_nodes new
  pub so_far : HaveSameNumbers old new → HaveSameNumbers o n

same_from_first : (o n : Nodes) → BeginAlike o n → HaveSameNumbers (nodes_from 1 o) (nodes_from 1 n)
    → HaveSameNumbers o n
same_from_first nodes.None n b h = absurd b
same_from_first (Branch m k a c rest) nodes.None b h = absurd b
same_from_first (Branch m k a c rest) (Branch m' k' a' c' rest') b h = (b, h)

pub levels_begin : (o n : Nodes) (before after : List FlatNode) → before ≡ flat_nodes o → after ≡ flat_nodes n
    → LevelsLeft o n before after
levels_begin o n before after e f = record { old = o; new = n; before_is = e; after_is = f; so_far = λ h. h }

pub levels_go_on : (o n : Nodes) (before after before' after' : List FlatNode)
    → ((s t : Nodes) → before ≡ flat_nodes s → after ≡ flat_nodes t → BeginAlike s t)
    → ((t : Nodes) → before ≡ flat_nodes t → before' ≡ flat_nodes (nodes_from 1 t))
    → ((t : Nodes) → after ≡ flat_nodes t → after' ≡ flat_nodes (nodes_from 1 t)) → LevelsLeft o n before after
    → LevelsLeft o n before' after'
levels_go_on o n before after before' after' alike first second left = record {
  old = nodes_from 1 left.old;
  new = nodes_from 1 left.new;
  before_is = first left.old left.before_is;
  after_is = second left.new left.after_is;
  so_far = λ r. left.so_far (same_from_first left.old left.new
      (alike left.old left.new left.before_is left.after_is) r);
}

pub levels_end : (o n : Nodes) (before after : List FlatNode) → LevelsLeft o n before after → length before ≡ 0
    → length after ≡ 0 → HaveSameNumbers o n
levels_end o n before after left e f =
    left.so_far (subst (λ (t : Nodes). HaveSameNumbers t left.new) (sym (no_nodes left.old before left.before_is e))
    (subst (λ (t : Nodes). HaveSameNumbers nodes.None t) (sym (no_nodes left.new after left.after_is f)) tt))

-- The walk along a level whose siblings have the same numbers.

from_same : (i : ℕ) (o n : Nodes) → HaveSameNumbers o n → HaveSameNumbers (nodes_from i o) (nodes_from i n)
from_same zero o n h = h
from_same (suc i) nodes.None nodes.None h = tt
from_same (suc i) nodes.None (Branch m k a c rest) h = absurd h
from_same (suc i) (Branch m k a c rest) nodes.None h = absurd h
from_same (suc i) (Branch m k a c rest) (Branch m' k' a' c' rest') h = from_same i rest rest' h.1

from_found : (i : ℕ) (whole : List TreeNode) (n : Nodes) → FoundIn whole n → FoundIn whole (nodes_from i n)
from_found zero whole n f = f
from_found (suc i) whole nodes.None f = tt
from_found (suc i) whole (Branch m k a c rest) f = from_found i whole rest f.1

one_further : (i : ℕ) (n : Nodes) → nodes_from 1 (nodes_from i n) ≡ nodes_from (i + 1) n
one_further i n = one i n ∙ ap (λ (j : ℕ). nodes_from j n) (let e : suc i ≡ i + 1 = omega arith in e)
  where
    one : (i : ℕ) (n : Nodes) → nodes_from 1 (nodes_from i n) ≡ nodes_from (suc i) n
    one zero n = refl
    one (suc i) nodes.None = refl
    one (suc i) (Branch m k a c rest) = one i rest

-- The position of a walk along a level.
pub record IsAlong (o n : Nodes) (before after : List FlatNode) (index : ℕ) (now whole : List Op) : Type 0 where
  pub before_is : before ≡ flat_nodes (nodes_from index o)
  pub after_is : after ≡ flat_nodes (nodes_from index n)
  pub calls : now ++ inner_calls index (node_list o) (nodes_from index n) ≡ whole

pub along_begins : (o n : Nodes) (before after : List FlatNode) (now : List Op) → before ≡ flat_nodes o
    → after ≡ flat_nodes n → HaveSameNumbers o n → IsAlong o n before after 0 now (now ++ ops_between (node_list o) n)
along_begins o n before after now e f h = record {
  before_is = e;
  after_is = f;
  calls = sym (ap (λ (l : List Op). now ++ (l ++ inner_calls 0 (node_list o) n)) (no_child_calls o n h));
}

pub along_ends : (o n : Nodes) (before after : List FlatNode) (index : ℕ) (now whole : List Op)
    → IsAlong o n before after index now whole → length after ≡ 0 → now ≡ whole
along_ends o n before after index now whole a e =
    sym (append-nil now) ∙ ap (λ (r : Nodes). now ++ inner_calls index (node_list o) r)
    (sym (no_nodes (nodes_from index n) after a.after_is e)) ∙ a.calls

-- The requirements and results of the calls inside a node.
abbrev Inner : ℕ → List FlatNode → List FlatNode → List Op → List Op → Type 0
Inner index old new was now =
    (before : Option TreeNode) (node : FlatNode) (children : Nodes) → old ≡ flat_before before
    → new ≡ node ∷ flat_nodes children → ChildrenAreDistinct before → AllDistinct children
    → now ≡ was ++ (calls_inside index
    (sets_since before node.attributes ++ ops_between (children_since before) children)
    ++ completion before index (tree_node node.number node.kind node.attributes children))

inside_first : (whole : List TreeNode) (old new : Nodes) (index : ℕ) (was now : List Op)
    (first second after : List FlatNode) → after ≡ flat_nodes new → 0 < length after → HaveSameNumbers old new
    → FoundIn whole old → AllDistinct old → AllDistinct new
    → first ≡ flat_before (first_node old) → second ≡ flat_before (first_node new) → Inner index first second was now
    → now ++ inner_calls (index + 1) whole (nodes_from 1 new) ≡ was ++ inner_calls index whole new
inside_first whole old nodes.None index was now first second after e some h f d g is_first is_second inner =
    absurd (let l : length after ≡ 0 = ap (λ (x : List FlatNode). length x) e in omega (arith, l, some))
inside_first whole nodes.None (Branch m' k' a' c' rest') index was now first second after e some h f d g is_first is_second inner = absurd h
inside_first whole (Branch m k a c rest) (Branch m' k' a' c' rest') index was now first second after e some h f d g is_first is_second inner =
    let found : numbered_node m' whole ≡ Some (tree_node m k a c) =
    ap (λ (j : ℕ). numbered_node j whole) (sym h.0) ∙ f.0 in
    let one = inner (Some (tree_node m k a c)) (flat_node (length (flat_nodes c')) m' k' a') c' is_first
    is_second d.1 g.1 in
    let more : List Op = inner_calls (index + 1) whole rest' in
    ap (λ (l : List Op). l ++ more) one
    ∙ ap (λ (l : List Op). (was ++ l) ++ more)
    (append-nil (calls_inside index (set_calls a a' ++ ops_between (node_list c) c')))
    ∙ append_assoc was (calls_inside index (set_calls a a' ++ ops_between (node_list c) c')) more
    ∙ ap (λ (t : Option TreeNode). was
    ++ (calls_inside index (sets_since t a' ++ ops_between (children_since t) c')
    ++ (completion t index (tree_node m' k' a' c') ++ more))) (sym found)

pub along_goes_on : (o n : Nodes) (before after before' after' first second : List FlatNode) (index : ℕ)
    (was now whole : List Op) → HaveSameNumbers o n → AllDistinct o → AllDistinct n → 0 < length after
    → ((t : Nodes) → before ≡ flat_nodes t → first ≡ flat_before (first_node t))
    → ((t : Nodes) → after ≡ flat_nodes t → second ≡ flat_before (first_node t))
    → ((t : Nodes) → before ≡ flat_nodes t → before' ≡ flat_nodes (nodes_from 1 t))
    → ((t : Nodes) → after ≡ flat_nodes t → after' ≡ flat_nodes (nodes_from 1 t))
    → Inner index first second was now → IsAlong o n before after index was whole
    → IsAlong o n before' after' (index + 1) now whole
along_goes_on o n before after before' after' first second index was now whole h d g some is_first is_second is_before is_after inner a =
    let old : Nodes = nodes_from index o in
    let new : Nodes = nodes_from index n in
    record {
      before_is = is_before old a.before_is ∙ ap (λ (t : Nodes). flat_nodes t) (one_further index o);
      after_is = is_after new a.after_is ∙ ap (λ (t : Nodes). flat_nodes t) (one_further index n);
      calls = ap (λ (t : Nodes). now ++ inner_calls (index + 1) (node_list o) t) (sym (one_further index n))
          ∙ inside_first (node_list o) old new index was now first second after a.after_is some (from_same index o n h)
          (from_found index (node_list o) o (all_found o d)) (from_distinct index o d) (from_distinct index n g)
          (is_first old a.before_is) (is_second new a.after_is) inner
          ∙ a.calls;
    }

-- The calls that remove everything and make a tree.
pub anew_calls : (none pushed now : List Op) (n : Nodes) → none ≡ [] → pushed ≡ none ++ op.Clear ∷ []
    → now ≡ pushed ++ ops_between [] n → now ≡ op.Clear ∷ ops nodes.None n
anew_calls none pushed now n e f g =
    g ∙ ap (λ (l : List Op). l ++ ops_between [] n) (f ∙ ap (λ (l : List Op). l ++ op.Clear ∷ []) e)

pub is_some : (n : ℕ) → (n == 0) ≡ false → 0 < n
is_some zero e = absurd (true≢false e)
is_some (suc n) e = omega arith
