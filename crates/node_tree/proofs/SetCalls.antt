-- The `set` calls give the current node the new attributes.
use Rattle.std.proofs.Common.{◌≡◌, ℕ, Bool, true, false, ◌||◌, List, [], ◌∷◌, ◌++◌, refl, ap, sym, ◌∙◌, append_assoc, if◌then◌else◌}
use Rattle.std.specs.Str.{bytes_eq}
use Rattle.std.proofs.lemmas.Bool.{true≢false, or_parts, or_from as or_none}
use Rattle.std.proofs.lemmas.Slice.Eq.{bytes_eq-Decides}
use Rattle.rt_values.specs.declared.value.Value.{Value}
use Rattle.rt_values.specs.Values.{same_value}
use Rattle.rt_values.proofs.Equal.{same_value_decides}
use Rattle.rt_groups.specs.GroupForest.{Attribute}
use Rattle.node_tree.specs.declared.ops.Op.TheVariants as op
use Rattle.node_tree.specs.NodeTrees.{TreeNode, OpenNode}
use Rattle.node_tree.specs.Calls.{attributes_after_set, has_attribute}
use Rattle.node_tree.specs.Placing.{set_calls}
use Rattle.node_tree.specs.Premises.{HaveDistinctNames, names_of}
use Rattle.node_tree.proofs.Turning.{Turns, tree, opened, none_turns, one_turns, then_turns, turns_from, turns_to}

same_name : (xs : List ℕ) → bytes_eq xs xs ≡ true
same_name xs = (bytes_eq-Decides xs xs).1 refl

other_way : (xs ys : List ℕ) → bytes_eq xs ys ≡ false → bytes_eq ys xs ≡ false
other_way xs ys lacks = by (bytes_eq ys xs) refl
  where
    by : (b : Bool) → bytes_eq ys xs ≡ b → b ≡ false
    by true is = absurd (true≢false (sym ((bytes_eq-Decides xs ys).1 (sym ((bytes_eq-Decides ys xs).0 is))) ∙ lacks))
    by false is = refl

joined_names : (name : List ℕ) (as_ bs : List Attribute) → has_attribute name as_ ≡ false
    → has_attribute name bs ≡ false → has_attribute name (as_ ++ bs) ≡ false
joined_names name [] bs lacks none = none
joined_names name (a ∷ as_) bs lacks none =
    let p = or_parts (bytes_eq a.name name) (has_attribute name as_) lacks in
    or_none (bytes_eq a.name name) (has_attribute name (as_ ++ bs)) p.0 (joined_names name as_ bs p.1 none)

in_the_middle : (name : List ℕ) (done more : List Attribute) (a : Attribute) → bytes_eq a.name name ≡ true
    → has_attribute name (done ++ (a ∷ more)) ≡ true
in_the_middle name [] more a is = ap (λ (b : Bool). b || has_attribute name more) is
in_the_middle name (d ∷ done) more a is = by (bytes_eq d.name name) (in_the_middle name done more a is)
  where
    by : (b : Bool) → has_attribute name (done ++ (a ∷ more)) ≡ true
        → (b || has_attribute name (done ++ (a ∷ more))) ≡ true
    by true e = refl
    by false e = e

-- The attributes of `done` have none of the names of the other list.
Apart : List Attribute → List Attribute → Type 0
Apart done [] = Unit {0}
Apart done (n ∷ new) = (has_attribute n.name done ≡ false) × Apart done new

apart_more : (done new : List Attribute) (n : Attribute) → Apart done new → has_attribute n.name new ≡ false
    → Apart (done ++ n ∷ []) new
unfolding Apart
apart_more done [] n apart lacks = tt
apart_more done (m ∷ new) n apart lacks =
    let p = or_parts (bytes_eq m.name n.name) (has_attribute n.name new) lacks in (
      joined_names m.name done (n ∷ []) apart.0
          (or_none (bytes_eq n.name m.name) false (other_way m.name n.name p.0) refl),
      apart_more done new n apart.1 p.1,
    )

set_one : (done more : List Attribute) (o n : Attribute) → o.name ≡ n.name → has_attribute n.name done ≡ false
    → attributes_after_set n.name n.value (done ++ (o ∷ more)) ≡ done ++ (n ∷ more)
set_one [] more o n e none =
    let is : bytes_eq o.name n.name ≡ true = ap (λ (x : List ℕ). bytes_eq x n.name) e ∙ same_name n.name in
    ap (λ (b : Bool). if b then record { name = o.name; value = n.value } ∷ more
    else o ∷ attributes_after_set n.name n.value more) is
    ∙ ap (λ (x : List ℕ). record { name = x; value = n.value } ∷ more) e
set_one (d ∷ done) more o n e none =
    let p = or_parts (bytes_eq d.name n.name) (has_attribute n.name done) none in
    ap (λ (b : Bool). if b then record { name = d.name; value = n.value } ∷ (done ++ (o ∷ more))
    else d ∷ attributes_after_set n.name n.value (done ++ (o ∷ more))) p.0
    ∙ ap (λ l. d ∷ l) (set_one done more o n e p.1)

sets_turn : (old new done : List Attribute) (children before after : List TreeNode) (number : ℕ) (kind : List ℕ)
    (os : List OpenNode)
    → names_of old ≡ names_of new → HaveDistinctNames new → Apart done new
    → Turns (tree children (opened before number kind (done ++ old) after os)) (set_calls old new)
    (tree children (opened before number kind (done ++ new) after os))
unfolding Apart
sets_turn [] [] done children before after number kind os e d apart = none_turns _ _ refl
sets_turn [] (n ∷ new) done children before after number kind os e d apart = absurd cc
sets_turn (o ∷ old) [] done children before after number kind os e d apart = absurd cc
sets_turn (o ∷ old) (n ∷ new) done children before after number kind os e d apart =
    then_turns _ _ _ _ _ (by (same_value o.value n.value) refl)
    (turns_from _ _ _ _ (as_one (sym (append_assoc done (n ∷ []) old)))
    (turns_to _ _ _ _ (as_one (append_assoc done (n ∷ []) new))
    (sets_turn old new (done ++ n ∷ []) children before after number kind os later d.1
    (apart_more done new n apart.1 d.0))))
  where
    first : o.name ≡ n.name
    first = cc

    later : names_of old ≡ names_of new
    later = cc

    as_one : {xs ys : List Attribute} → xs ≡ ys
        → tree children (opened before number kind xs after os) ≡ tree children (opened before number kind ys after os)
    as_one same = ap (λ (l : List Attribute). tree children (opened before number kind l after os)) same

    by : (b : Bool) → same_value o.value n.value ≡ b
        → Turns (tree children (opened before number kind (done ++ (o ∷ old)) after os))
        (if b then [] else op.Set n.name n.value ∷ [])
        (tree children (opened before number kind (done ++ (n ∷ old)) after os))
    by true is =
        let value : o.value ≡ n.value = (same_value_decides o.value n.value).0 is in
        let same : o ≡ n = ap (λ (x : List ℕ). record { name = x; value = o.value }) first
        ∙ ap (λ (v : Value). record { name = n.name; value = v }) value in
        none_turns _ _ (as_one (ap (λ (a : Attribute). done ++ (a ∷ old)) same))
    by false is = one_turns (op.Set n.name n.value) _ _
        (in_the_middle n.name done old o (ap (λ (x : List ℕ). bytes_eq x n.name) first ∙ same_name n.name))
        (as_one (set_one done old o n first apart.0))

none_done : (new : List Attribute) → Apart [] new
unfolding Apart
none_done [] = tt
none_done (n ∷ new) = (refl, none_done new)

pub set_calls_turn : (old new : List Attribute) (children before after : List TreeNode) (number : ℕ) (kind : List ℕ)
    (os : List OpenNode)
    → names_of old ≡ names_of new → HaveDistinctNames new
    → Turns (tree children (opened before number kind old after os)) (set_calls old new)
    (tree children (opened before number kind new after os))
set_calls_turn old new children before after number kind os e d =
    sets_turn old new [] children before after number kind os e d (none_done new)
