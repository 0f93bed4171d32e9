-- The first stored node of a list, opened or closed.
use Rattle.std.proofs.Common.{◌≡◌, ℕ, List, [], ◌∷◌, set, get_or, ap, sym, ◌∙◌}
use Rattle.rt_groups.specs.declared.groups.Attribute.{Attribute as AttributeData}
use Rattle.node_tree.specs.KeptNodes.{KeptNodes, KeptValue, kept_of, kept_list}
use Rattle.node_tree.specs.StoredTree.{opened_value, closed_value}
use Rattle.node_tree.proofs.StoredNodes.{kept_back}

abbrev value : ℕ → List ℕ → List AttributeData → KeptNodes → KeptNodes → KeptNodes → KeptValue
value number kind attributes children before after =
    record {
      number = number;
      kind = kind;
      attributes = attributes;
      children = children;
      before = before;
      after = after;
    }

first_is : (ks more : List KeptValue) (x k : KeptValue) → x ≡ get_or ks 0 x → ks ≡ k ∷ more → x ≡ k
first_is ks more x k read whole = read ∙ ap (λ (l : List KeptValue). get_or l 0 x) whole

pub opened_first : (ks more left before after cs bs as_ : List KeptValue) (x k : KeptValue) (number : ℕ) (kind : List ℕ)
    (attributes : List AttributeData)
    → x ≡ get_or ks 0 x → ks ≡ k ∷ more → value number kind attributes (kept_of cs) (kept_of bs) (kept_of as_) ≡ x
    → left ≡ []
    → (set ks 0 (value number kind attributes (kept_of left) (kept_of before) (kept_of after))
    ≡ opened_value before k after ∷ more) × (cs ≡ kept_list k.children)
opened_first ks more left before after cs bs as_ x k number kind attributes read whole view none =
    let same : value number kind attributes (kept_of cs) (kept_of bs) (kept_of as_) ≡ k =
    view ∙ first_is ks more x k read whole in (
      ap (λ (l : List KeptValue). set l 0
          (value number kind attributes (kept_of left) (kept_of before) (kept_of after))) whole
          ∙ ap (λ (l : List KeptValue). value number kind attributes (kept_of l) (kept_of before)
          (kept_of after) ∷ more) none
          ∙ ap (λ (v : KeptValue). opened_value before v after ∷ more) same,
      sym (kept_back cs) ∙ ap (λ (v : KeptValue). kept_list v.children) same,
    )

pub closed_first : (ks more children left right cs bs as_ : List KeptValue) (x k : KeptValue) (number : ℕ)
    (kind : List ℕ) (attributes : List AttributeData)
    → x ≡ get_or ks 0 x → ks ≡ k ∷ more → value number kind attributes (kept_of cs) (kept_of bs) (kept_of as_) ≡ x
    → left ≡ [] → right ≡ []
    → (set ks 0 (value number kind attributes (kept_of children) (kept_of left) (kept_of right))
    ≡ closed_value children k ∷ more) × (bs ≡ kept_list k.before) × (as_ ≡ kept_list k.after)
closed_first ks more children left right cs bs as_ x k number kind attributes read whole view none nothing =
    let same : value number kind attributes (kept_of cs) (kept_of bs) (kept_of as_) ≡ k =
    view ∙ first_is ks more x k read whole in (
      ap (λ (l : List KeptValue). set l 0
          (value number kind attributes (kept_of children) (kept_of left) (kept_of right))) whole
          ∙ ap (λ (l : List KeptValue). value number kind attributes (kept_of children) (kept_of l)
          (kept_of right) ∷ more) none
          ∙ ap (λ (l : List KeptValue). value number kind attributes (kept_of children) (kept_of []) (kept_of l) ∷ more)
          nothing
          ∙ ap (λ (v : KeptValue). closed_value children v ∷ more) same,
      sym (kept_back bs) ∙ ap (λ (v : KeptValue). kept_list v.before) same,
      sym (kept_back as_) ∙ ap (λ (v : KeptValue). kept_list v.after) same,
    )
