-- Old groups, one after another.
use Rattle.std.proofs.Common.{◌≡◌, ◌<◌, ◌≤◌, ℕ, ◌+◌, nat_le, Bool, true, false, List, [], ◌∷◌, ◌++◌, drop, if◌then◌else◌, refl, ap, ◌∙◌, arith, append_assoc}
use Rattle.std.proofs.lemmas.Bool.{le-leb, leb-true}
use Rattle.rt_groups.specs.declared.groups.Group.{Group as TableGroup}
use Rattle.rt_groups.specs.GroupForest.{GroupForest, End, Read, Group}
use Rattle.rt_groups.specs.PreorderGroups.{flat_kind, flat_reads, flat_group, preorder}
use Rattle.slot_table.specs.ReaderStates.{after_deep}
use Rattle.slot_table.specs.InnerCounts.{leading_deep}
use Rattle.composer.specs.OldGroups.{Ends}
use Rattle.composer.proofs.OldMatches.{ends_deeper}

pub past_end : (d : ℕ) (more : List TableGroup) → Ends d more → after_deep d more ≡ more
past_end d [] e = refl
past_end d (g ∷ gs) e = by (nat_le d g.depth) refl
  where
    by : (b : Bool) → nat_le d g.depth ≡ b → (if b then after_deep d gs else g ∷ gs) ≡ g ∷ gs
    by false f = refl
    by true f = absurd (let le = leb-true d g.depth f in omega (arith, le, e))

pub past_preorder : (d e : ℕ) (t : GroupForest) (more : List TableGroup) → d ≤ e
    → after_deep d (preorder e t ++ more) ≡ after_deep d more
past_preorder d e End more le = refl
past_preorder d e (Read x rest) more le = past_preorder d e rest more le
past_preorder d e (Group site n what inside rest) more le =
    ap (λ b. if b then after_deep d ((preorder (e + 1) inside ++ preorder e rest) ++ more)
    else flat_group e site n (flat_kind what)
    (flat_reads what inside) ∷ ((preorder (e + 1) inside ++ preorder e rest) ++ more)) (le-leb d e le)
    ∙ ap (λ l. after_deep d l) (append_assoc (preorder (e + 1) inside) (preorder e rest) more)
    ∙ past_preorder d (e + 1) inside (preorder e rest ++ more) (omega (arith, le))
    ∙ past_preorder d e rest more le

-- The groups after a group and those inside it are its later siblings and what follows them.
pub past_inside : (d : ℕ) (inside rest : GroupForest) (more : List TableGroup) → Ends d more
    → after_deep (d + 1) ((preorder (d + 1) inside ++ preorder d rest) ++ more) ≡ preorder d rest ++ more
past_inside d inside rest more e =
    ap (λ l. after_deep (d + 1) l) (append_assoc (preorder (d + 1) inside) (preorder d rest) more)
    ∙ past_preorder (d + 1) (d + 1) inside (preorder d rest ++ more) (omega arith)
    ∙ past_end (d + 1) (preorder d rest ++ more) (ends_deeper d rest more e)

-- The groups from an index on end where no group is as deep.
pub ends_at : (groups : List TableGroup) (d i : ℕ)
    → ((g : TableGroup) (rest : List TableGroup) → drop i groups ≡ g ∷ rest → g.depth < d) → Ends d (drop i groups)
ends_at groups d i shallow = by (drop i groups) refl
  where
    by : (gs : List TableGroup) → drop i groups ≡ gs → Ends d gs
    by [] e = tt
    by (g ∷ gs) e = shallow g gs e

-- The groups that are deep enough, and those after them.
pub split_deep : (d : ℕ) (gs : List TableGroup) → gs ≡ leading_deep d gs ++ after_deep d gs
split_deep d [] = refl
split_deep d (g ∷ gs) = by (nat_le d g.depth) (split_deep d gs)
  where
    by : (b : Bool) → gs ≡ leading_deep d gs ++ after_deep d gs
        → g ∷ gs ≡ (if b then g ∷ leading_deep d gs else []) ++ (if b then after_deep d gs else g ∷ gs)
    by true e = ap (λ l. g ∷ l) e
    by false e = refl
