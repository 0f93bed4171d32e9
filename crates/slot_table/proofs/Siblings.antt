-- Groups of a forest in preorder, by their depths.
use Rattle.std.proofs.Common.{◌≡◌, ◌≤◌, ℕ, ◌+◌, nat_le, Bool, true, false, List, [], ◌∷◌, ◌++◌, if◌then◌else◌, refl, ap, sym, ◌∙◌, arith, append_assoc}
use Rattle.std.proofs.lemmas.Bool.{le-leb, leb-true}
use Rattle.rt_groups.specs.declared.groups.Group.{Group as Kept}
use Rattle.rt_groups.specs.GroupForest.{GroupForest, End, Read, Group}
use Rattle.rt_groups.specs.PreorderGroups.{preorder, flat_group, flat_kind, flat_reads}
use Rattle.slot_table.specs.ReaderStates.{after_deep, begins_at}
use Rattle.slot_table.specs.Siblings.{SkippingLeavesTheSiblings}

pub past_flat : (d k : ℕ) (t : GroupForest) (more : List Kept) → d ≤ k
    → after_deep d (preorder k t ++ more) ≡ after_deep d more
past_flat d k End more le = refl
past_flat d k (Read x rest) more le = past_flat d k rest more le
past_flat d k (Group site n what inside rest) more le =
    ap (λ b. if b then after_deep d ((preorder (k + 1) inside ++ preorder k rest) ++ more)
    else flat_group k site n (flat_kind what) (flat_reads what inside)
    ∷ ((preorder (k + 1) inside ++ preorder k rest) ++ more)) (le-leb d k le)
    ∙ ap (λ l. after_deep d l) (append_assoc (preorder (k + 1) inside) (preorder k rest) more)
    ∙ past_flat d (k + 1) inside (preorder k rest ++ more) (omega (arith, le)) ∙ past_flat d k rest more le

pub past_none : (d : ℕ) (gs : List Kept) → begins_at d gs ≡ false → after_deep d gs ≡ gs
past_none d [] e = refl
past_none d (g ∷ gs) e = ap (λ b. if b then after_deep d gs else g ∷ gs) e

not_true : (b : Bool) → (b ≡ true → false ≡ true) → b ≡ false
not_true true f = sym (f refl)
not_true false f = refl

pub ends : (d : ℕ) (t : GroupForest) (more : List Kept) → begins_at (d + 1) more ≡ false
    → begins_at (d + 1) (preorder d t ++ more) ≡ false
ends d End more e = e
ends d (Read x rest) more e = ends d rest more e
ends d (Group site n what inside rest) more e =
    not_true (nat_le (d + 1) d) (λ t. let le = leb-true (d + 1) d t in absurd (omega (arith, le)))

pub skipping_leaves_the_siblings : SkippingLeavesTheSiblings
skipping_leaves_the_siblings d inside rest more e = past_flat (d + 1) (d + 1) inside (preorder d rest ++ more)
    (omega arith) ∙ past_none (d + 1) (preorder d rest ++ more) (ends d rest more e)
