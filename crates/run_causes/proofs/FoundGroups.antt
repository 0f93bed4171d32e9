-- The group of a table at the index that a path finds is the group that the path finds.
use Rattle.std.proofs.Common.{◌≡◌, ℕ, zero, suc, ◌+◌, Bool, true, false, List, [], ◌∷◌, ◌++◌, drop, Option, Some, None, if◌then◌else◌, refl, ap, sym, subst, ◌∙◌, arith, append_assoc, append-nil}
use Rattle.std.proofs.lemmas.List.{drop-drop, drop_at}
use Rattle.rt_groups.specs.declared.groups.Group.{Group as TableGroup}
use Rattle.rt_groups.specs.GroupForest.{GroupForest, End, Read, Group, how_many}
use Rattle.rt_groups.specs.PreorderGroups.{preorder, flat_group, flat_kind, flat_reads}
use Rattle.rt_groups.specs.Paths.{Path, GroupKey, sibling, same_sibling, Found, nth, matching_sibling, inside_of, at_path}
use Rattle.slot_table.specs.TableGroups.{group_at}
use Rattle.path_laws.specs.GroupPaths.{indexed_forest, number_found, index_at}
use Rattle.run_causes.proofs.OldForests.{preorder_count, index_after}
use Rattle.run_causes.proofs.SiblingSteps.{next_of}

-- A group that was found in a forest with indexes as numbers, and the same group of the table and of the forest.
record IsSame (groups : List TableGroup) (g f : Found) : Type 0 where
  depth : ℕ
  site : ℕ
  more : List TableGroup
  is : drop g.number groups ≡ flat_group depth site f.number (flat_kind f.what) (flat_reads f.what f.inside)
      ∷ (preorder (depth + 1) f.inside ++ more)
  inside : g.inside ≡ (indexed_forest (g.number + 1) f.inside).0

abbrev AreSame : List TableGroup → Option Found → Option Found → Type 0
AreSame groups None None = Unit {0}
AreSame groups None (Some f) = ⊥
AreSame groups (Some g) None = ⊥
AreSame groups (Some g) (Some f) = IsSame groups g f

same_siblings : (groups more : List TableGroup) (s : GroupKey) (n k d : ℕ) (t : GroupForest)
    → drop k groups ≡ preorder d t ++ more
    → AreSame groups (matching_sibling s n (indexed_forest k t).0) (matching_sibling s n t)
same_siblings groups more s n k d End e = tt
same_siblings groups more s n k d (Read x rest) e = same_siblings groups more s n k d rest e
same_siblings groups more s n k d (Group site number what inside rest) e =
    by (same_sibling (sibling site what) s) n
    (λ m. same_siblings groups more s m (indexed_forest (k + 1) inside).1 d rest later_is)
  where
    within : List TableGroup
    within = preorder (d + 1) inside

    within_is : drop (k + 1) groups ≡ within ++ (preorder d rest ++ more)
    within_is =
        let one : k + 1 ≡ suc k = omega arith in
        ap (λ m. drop m groups) one
        ∙ (next_of groups ((within ++ preorder d rest) ++ more)
        (flat_group d site number (flat_kind what) (flat_reads what inside)) k e).1
        ∙ append_assoc within (preorder d rest) more

    later_is : drop (indexed_forest (k + 1) inside).1 groups ≡ preorder d rest ++ more
    later_is =
        ap (λ m. drop m groups) (index_after (k + 1) inside)
        ∙ sym (drop-drop (how_many inside) (k + 1) groups) ∙ ap (λ l. drop (how_many inside) l) within_is
        ∙ drop_at within (preorder d rest ++ more) (how_many inside) (preorder_count (d + 1) inside)

    by : (b : Bool) (n : ℕ)
        → ((m : ℕ) → AreSame groups (matching_sibling s m (indexed_forest (indexed_forest (k + 1) inside).1 rest).0)
        (matching_sibling s m rest))
        → AreSame groups (if b then nth n (record { number = k; what = what; inside = (indexed_forest (k + 1) inside).0 })
        (λ m. matching_sibling s m (indexed_forest (indexed_forest (k + 1) inside).1 rest).0)
        else matching_sibling s n (indexed_forest (indexed_forest (k + 1) inside).1 rest).0)
        (if b then nth n (record { number = number; what = what; inside = inside }) (λ m. matching_sibling s m rest)
        else matching_sibling s n rest)
    by true zero later = record {
      depth = d;
      site = site;
      more = preorder d rest ++ more;
      is = e
          ∙ ap (λ l. flat_group d site number (flat_kind what) (flat_reads what inside) ∷ l)
          (append_assoc within (preorder d rest) more);
      inside = refl;
    }
    by true (suc m) later = later m
    by false m later = later m

-- What is inside both groups that were found.
record HasSameInside (groups : List TableGroup) (g f : Option Found) : Type 0 where
  from : ℕ
  depth : ℕ
  more : List TableGroup
  is : drop from groups ≡ preorder depth (inside_of f) ++ more
  inside : inside_of g ≡ (indexed_forest from (inside_of f)).0

same_inside : (groups : List TableGroup) (g f : Option Found) → AreSame groups g f → HasSameInside groups g f
same_inside groups None None h = record { from = 0; depth = 0; more = groups; is = refl; inside = refl }
same_inside groups None (Some f) h = absurd h
same_inside groups (Some g) None h = absurd h
same_inside groups (Some g) (Some f) h =
    let one : g.number + 1 ≡ suc g.number = omega arith in
    record {
      from = g.number + 1;
      depth = h.depth + 1;
      more = h.more;
      is = ap (λ m. drop m groups) one
          ∙ (next_of groups (preorder (h.depth + 1) f.inside ++ h.more)
          (flat_group h.depth h.site f.number (flat_kind f.what) (flat_reads f.what f.inside)) g.number h.is).1;
      inside = h.inside;
    }

same_lookups : (groups more : List TableGroup) (p : Path) (k d : ℕ) (t : GroupForest)
    → drop k groups ≡ preorder d t ++ more → AreSame groups (at_path p (indexed_forest k t).0) (at_path p t)
same_lookups groups more [] k d t e = tt
same_lookups groups more (s ∷ []) k d t e = same_siblings groups more s.of s.occurrence k d t e
same_lookups groups more (s ∷ (r ∷ p)) k d t e =
    let f : Option Found = matching_sibling s.of s.occurrence t in
    let h = same_inside groups _ f (same_siblings groups more s.of s.occurrence k d t e) in
    subst (λ u. AreSame groups (at_path (r ∷ p) u) (at_path (r ∷ p) (inside_of f))) (sym h.inside)
    (same_lookups groups h.more (r ∷ p) h.from h.depth (inside_of f) h.is)

-- The group of the table at an index, and the group that was found in the forest.
pub record IsTableGroup (groups : List TableGroup) (i : ℕ) (f : Found) : Type 0 where
  pub what : (group_at groups i).what ≡ flat_kind f.what
  pub reads : (group_at groups i).reads ≡ flat_reads f.what f.inside

abbrev pub AreTableGroups : List TableGroup → Option ℕ → Option Found → Type 0
AreTableGroups groups None None = Unit {0}
AreTableGroups groups None (Some f) = ⊥
AreTableGroups groups (Some i) None = ⊥
AreTableGroups groups (Some i) (Some f) = IsTableGroup groups i f

table_groups : (groups : List TableGroup) (g f : Option Found) → AreSame groups g f
    → AreTableGroups groups (number_found g) f
table_groups groups None None h = tt
table_groups groups None (Some f) h = h
table_groups groups (Some g) None h = h
table_groups groups (Some g) (Some f) h =
    let here = next_of groups (preorder (h.depth + 1) f.inside ++ h.more)
    (flat_group h.depth h.site f.number (flat_kind f.what) (flat_reads f.what f.inside)) g.number h.is in
    record { what = ap (λ x. x.what) here.0; reads = ap (λ x. x.reads) here.0 }

pub found_in_table : (old : GroupForest) (p : Path)
    → AreTableGroups (preorder 0 old) (index_at old p) (at_path p old)
found_in_table old p =
    table_groups (preorder 0 old) (at_path p (indexed_forest 0 old).0) (at_path p old)
    (same_lookups (preorder 0 old) [] p 0 0 old (sym (append-nil (preorder 0 old))))
