-- Setting the first attribute with a name, when the attributes before it are known to have other names.
use Rattle.std.proofs.Common.{◌≡◌, ℕ, ◌+◌, ◌<◌, ◌≤◌, suc, add-one, Bool, true, false, List, [], ◌∷◌, ◌++◌, length, take, drop, set, get_or, ap, sym, ◌∙◌, append_assoc, if◌then◌else◌}
use Rattle.std.specs.Str.{bytes_eq}
use Rattle.std.proofs.lemmas.List.{append-nil, get_or_default, take_more, drop_more, set_split, drop_all, take_all}
use Rattle.rt_values.specs.declared.value.Value.{Value}
use Rattle.rt_groups.specs.declared.groups.Attribute.{Attribute as AttributeData}
use Rattle.node_tree.specs.StoredTree.{data_after_set}

abbrev with_value : AttributeData → Value → AttributeData
with_value a v = record { name = a.name; value = v }

pub name_passed : (name : List ℕ) (v : Value) (as_ : List AttributeData) (i : ℕ) (a : AttributeData) → i < length as_
    → a ≡ get_or as_ i a → bytes_eq a.name name ≡ false
    → data_after_set name v as_ ≡ take i as_ ++ data_after_set name v (drop i as_)
    → data_after_set name v as_ ≡ take (i + 1) as_ ++ data_after_set name v (drop (i + 1) as_)
name_passed name v as_ i a below read other so =
    let rest : drop i as_ ≡ a ∷ drop (i + 1) as_ =
    drop_more as_ i a below ∙ ap (λ (x : AttributeData). x ∷ drop (i + 1) as_) (sym read) in
    let front : take (i + 1) as_ ≡ take i as_ ++ a ∷ [] =
    take_more as_ i a below ∙ ap (λ (x : AttributeData). take i as_ ++ x ∷ []) (sym read) in
    so ∙ ap (λ l. take i as_ ++ data_after_set name v l) rest
    ∙ ap (λ (b : Bool). take i as_
    ++ (if b then with_value a v ∷ drop (i + 1) as_ else a ∷ data_after_set name v (drop (i + 1) as_))) other
    ∙ sym (append_assoc (take i as_) (a ∷ []) (data_after_set name v (drop (i + 1) as_)))
    ∙ ap (λ l. l ++ data_after_set name v (drop (i + 1) as_)) (sym front)

pub name_found : (name : List ℕ) (v : Value) (as_ : List AttributeData) (i : ℕ) (a b : AttributeData) → i < length as_
    → a ≡ get_or as_ i a → bytes_eq a.name name ≡ true
    → data_after_set name v as_ ≡ take i as_ ++ data_after_set name v (drop i as_) → b ≡ get_or as_ i b
    → data_after_set name v as_ ≡ set as_ i (with_value b v)
name_found name v as_ i a b below read is so other =
    let rest : drop i as_ ≡ a ∷ drop (i + 1) as_ =
    drop_more as_ i a below ∙ ap (λ (x : AttributeData). x ∷ drop (i + 1) as_) (sym read) in
    let same : a ≡ b = read ∙ get_or_default as_ i a b below ∙ sym other in
    so ∙ ap (λ l. take i as_ ++ data_after_set name v l) rest
    ∙ ap (λ (c : Bool). take i as_
    ++ (if c then with_value a v ∷ drop (i + 1) as_ else a ∷ data_after_set name v (drop (i + 1) as_))) is
    ∙ ap (λ (x : AttributeData). take i as_ ++ (with_value x v ∷ drop (i + 1) as_)) same
    ∙ ap (λ l. take i as_ ++ (with_value b v ∷ l))
    (let e : drop (i + 1) as_ ≡ drop (suc i) as_ = ap (λ n. drop n as_) (add-one i) in e)
    ∙ sym (set_split as_ i (with_value b v) below)

pub no_name : (name : List ℕ) (v : Value) (as_ : List AttributeData) (i : ℕ) → length as_ ≤ i
    → data_after_set name v as_ ≡ take i as_ ++ data_after_set name v (drop i as_) → data_after_set name v as_ ≡ as_
no_name name v as_ i past so =
    so ∙ ap (λ l. take i as_ ++ data_after_set name v l) (drop_all i as_ past) ∙ append-nil (take i as_)
    ∙ take_all i as_ past
