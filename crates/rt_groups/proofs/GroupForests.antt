-- Laws of group forests, in sequence and in preorder.
use Rattle.std.proofs.Common.{◌≡◌, ℕ, ◌+◌, arith, length, length-append, List, [], ◌∷◌, ◌++◌, refl, ap, sym, ◌∙◌, append_assoc}
use Rattle.rt_groups.specs.GroupForest.{GroupForest, End, Read, Group, joined_forest, reads_then, asks, how_many}
use Rattle.rt_groups.specs.PreorderGroups.{preorder}

pub asks-joined_forest : (s t : GroupForest) → asks (joined_forest s t) ≡ asks s ++ asks t
asks-joined_forest End t = refl
asks-joined_forest (Read x rest) t = ap (λ l. x ∷ l) (asks-joined_forest rest t)
asks-joined_forest (Group site n what inside rest) t = ap (λ l. asks inside ++ l) (asks-joined_forest rest t)
    ∙ sym (append_assoc (asks inside) (asks rest) (asks t))

pub asks-reads_then : (xs : List ℕ) (t : GroupForest) → asks (reads_then xs t) ≡ xs ++ asks t
asks-reads_then [] t = refl
asks-reads_then (x ∷ xs) t = ap (λ l. x ∷ l) (asks-reads_then xs t)

-- The list has as many groups as the forest.
pub how_many-preorder : (d : ℕ) (t : GroupForest) → length (preorder d t) ≡ how_many t
how_many-preorder d End = refl
how_many-preorder d (Read x rest) = how_many-preorder d rest
how_many-preorder d (Group site n what inside rest) =
    let a = how_many-preorder (d + 1) inside in let b = how_many-preorder d rest in
    omega (arith, a, b, length-append (preorder (d + 1) inside) (preorder d rest))
