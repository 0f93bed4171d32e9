-- A copy of a node is the node as it is inserted.
use Rattle.std.proofs.Common.{◌≡◌, ℕ, zero, suc, ◌≤◌, ◌<◌, List, [], ◌∷◌, map, length, get_or, Some, None, refl, ap, sym, ◌∙◌, arith}
use Rattle.std.specs.Prelude.{slice_get}
use Rattle.rt_groups.specs.PreorderGroups.{flat_attribute}
use Rattle.rt_groups.specs.declared.groups.Attribute.{Attribute as AttributeData}
use Rattle.node_tree.specs.Calls.{attribute_of}
use Rattle.node_tree.specs.FlatNodes.{FlatNode, flat_node}
use Rattle.node_tree.specs.SiblingLists.{flat_new}

data_back : (as_ : List AttributeData) → map flat_attribute (map attribute_of as_) ≡ as_
data_back [] = refl
data_back (a ∷ as_) = ap (λ l. a ∷ l) (data_back as_)

pub copied_node : (n : FlatNode) (inner number : ℕ) (kind copied : List ℕ) (attributes all : List AttributeData)
    → flat_node inner number kind (map attribute_of attributes) ≡ n → copied ≡ kind → all ≡ attributes
    → record { number = number; kind = copied; attributes = all } ≡ flat_new n
copied_node n inner number kind copied attributes all view e f =
    ap (λ (k : List ℕ). record { number = number; kind = k; attributes = all }) e
    ∙ ap (λ (l : List AttributeData). record { number = number; kind = kind; attributes = l })
    (f ∙ sym (data_back attributes))
    ∙ ap (λ (m : FlatNode). flat_new m) view

-- A look-up by index returns `None` after the end of the list.
pub got_none : {X : Type 0} (xs : List X) (i : ℕ) → length xs ≤ i → slice_get xs i ≡ None
got_none [] i h = refl
got_none (x ∷ xs) zero h = absurd (omega arith)
got_none (x ∷ xs) (suc i) h = got_none xs i (omega arith)

pub got_some : {X : Type 0} (xs : List X) (i : ℕ) (x : X) → i < length xs → x ≡ get_or xs i x → slice_get xs i ≡ Some x
got_some [] i x h e = absurd (omega arith)
got_some (y ∷ xs) zero x h e = ap (λ z. Some z) (sym e)
got_some (y ∷ xs) (suc i) x h e = got_some xs i x (omega arith) e
