-- Matching level by level gives each new group the old group that its path finds.
use Rattle.std.proofs.Common.{◌≡◌, ◌≤◌, ◌<◌, ℕ, zero, suc, ◌+◌, ◌-◌, Bool, true, false, List, [], ◌∷◌, ◌++◌, length, length-append, length-take-le, length-set, drop, take, Option, if◌then◌else◌, refl, ap, sym, subst, ◌∙◌, arith, append_assoc, append-nil}
use Rattle.std.specs.Prelude.{slice_get, slice_set, slice_index_or}
use Rattle.std.proofs.lemmas.List.{drop_all, drop-drop, get_or-take, get_or-set_same, get_or_append_left, get_or_push, take-take, take-append-le, take-set-le}
use Rattle.rt_groups.specs.declared.groups.Group.{Group as TableGroup}
use Rattle.rt_groups.specs.GroupForest.{GroupForest, End, Read, Group}
use Rattle.rt_groups.specs.PreorderGroups.{preorder, flat_group, flat_kind, flat_reads}
use Rattle.rt_groups.specs.Paths.{GroupKey, sibling, same_sibling, occurrence, Found, matching_sibling, inside_of}
use Rattle.path_laws.specs.GroupPaths.{indexed_forest, matched_numbers, old_indexes}
use Rattle.path_laws.proofs.SiblingMatches.{matching_finds_the_old_path}
use Rattle.slot_table.specs.TableGroups.{group_at}
use Rattle.run_causes.specs.OldMatches.{table_key, key_indexes, Level, level_of, inner_level, level_without, levels_around, innermost_level, found_in, levels_after, olds_from, levels_from, level_at}
use Rattle.run_causes.proofs.SiblingSteps.{split_at}
use Rattle.run_causes.proofs.OldForests.{key_kept, IsMatched, matched, found_number, IsPlaced, found_inside}

-- The levels after a new group at depth d was opened: those below d stay.
record IsOpened (d : ℕ) (ls after : List Level) (level inner : Level) : Type 0 where
  long : length after ≡ d + 2
  level_is : level_at after d ≡ level
  inner_is : level_at after (d + 1) ≡ inner
  below : take d after ≡ take d ls

innermost_is : (ls : List Level) (d : ℕ) → d < length ls → innermost_level (levels_around ls d) ≡ level_at ls d
innermost_is ls d lt =
    let long = length-take-le (d + 1) ls (omega (arith, lt)) in
    let last : length (take (d + 1) ls) - 1 ≡ d = omega (arith, long) in
    ap (λ n. slice_index_or (take (d + 1) ls) n (λ (s : GroupKey). [])) last
    ∙ get_or-take (d + 1) ls d (λ s. []) (omega arith)

opened : (ls : List Level) (d : ℕ) (level inner : Level) → d < length ls
    → IsOpened d ls (slice_set (levels_around ls d) (length (levels_around ls d) - 1) level ++ inner ∷ []) level inner
opened ls d level inner lt =
    let around : List Level = take (d + 1) ls in
    let long = length-take-le (d + 1) ls (omega (arith, lt)) in
    let last : length around - 1 ≡ d = omega (arith, long) in
    let front : List Level = slice_set around (length around - 1) level in
    let count : length front ≡ d + 1 = length-set around (length around - 1) level ∙ long in
    let joined = length-append front (inner ∷ []) in
    record {
      long = omega (arith, joined, count);
      level_is = get_or_append_left front (inner ∷ []) (λ s. []) d (omega (arith, count))
          ∙ ap (λ n. slice_index_or (slice_set around n level) d (λ (s : GroupKey). [])) last
          ∙ get_or-set_same around d level (λ s. []) (omega (arith, long));
      inner_is = get_or_push front inner (λ s. []) (d + 1) count;
      below = take-append-le d front (inner ∷ []) (omega (arith, count))
          ∙ ap (λ n. take d (slice_set around n level)) last
          ∙ take-set-le d around d level (omega arith) ∙ take-take d (d + 1) ls (omega arith);
    }

-- Groups one after another.
olds_join : (old : GroupForest) (ls : List Level) (gs hs : List TableGroup)
    → olds_from old ls (gs ++ hs) ≡ olds_from old ls gs ++ olds_from old (levels_from old ls gs) hs
olds_join old ls [] hs = refl
olds_join old ls (g ∷ gs) hs = ap (λ l. found_in ls g ∷ l) (olds_join old (levels_after old ls g) gs hs)

levels_join : (old : GroupForest) (ls : List Level) (gs hs : List TableGroup)
    → levels_from old ls (gs ++ hs) ≡ levels_from old (levels_from old ls gs) hs
levels_join old ls [] hs = refl
levels_join old ls (g ∷ gs) hs = levels_join old (levels_after old ls g) gs hs

-- The groups of a forest at a depth leave the levels below.
record KeepsBelow (d : ℕ) (ls after : List Level) : Type 0 where
  below : take d after ≡ take d ls
  long : d < length after

-- The levels after the groups inside a new group.
inside_below : (d : ℕ) (ls opened after : List Level) (level inner : Level) → IsOpened d ls opened level inner
    → KeepsBelow (d + 1) opened after → KeepsBelow d ls after
inside_below d ls opened after level inner o k =
    let long = k.long in
    record {
      below = sym (take-take d (d + 1) after (omega arith)) ∙ ap (λ l. take d l) k.below
          ∙ take-take d (d + 1) opened (omega arith) ∙ o.below;
      long = omega (arith, long);
    }

then_below : (d : ℕ) (ls middle after : List Level) → KeepsBelow d ls middle → KeepsBelow d middle after
    → KeepsBelow d ls after
then_below d ls middle after a b = record { below = b.below ∙ a.below; long = b.long }

keeps_below : (old : GroupForest) (d : ℕ) (t : GroupForest) (ls : List Level) → d < length ls
    → KeepsBelow d ls (levels_from old ls (preorder d t))
keeps_below old d End ls lt = record { below = refl; long = lt }
keeps_below old d (Read x rest) ls lt = keeps_below old d rest ls lt
keeps_below old d (Group site number what inside rest) ls lt =
    let g : TableGroup = flat_group d site number (flat_kind what) (flat_reads what inside) in
    let next : List Level = levels_after old ls g in
    let is = opened ls d (level_without (table_key g) (innermost_level (levels_around ls d)))
    (inner_level old (found_in ls g)) lt in
    let long = is.long in
    let within : List Level = levels_from old next (preorder (d + 1) inside) in
    let kept = inside_below d ls next within _ _ is
    (keeps_below old (d + 1) inside next (omega (arith, long))) in
    subst (λ l. KeepsBelow d ls l) (sym (levels_join old next (preorder (d + 1) inside) (preorder d rest)))
    (then_below d ls within (levels_from old within (preorder d rest)) kept
    (keeps_below old d rest within kept.long))

-- After the new siblings `seen`, the level has the unmatched siblings of the forest t.
abbrev Fits : Level → ℕ → GroupForest → List GroupKey → Type 0
Fits level k t seen = (s : GroupKey) → level s ≡ drop (occurrence s seen) (key_indexes s k t)

first_dropped : (n : ℕ) (xs : List ℕ) → slice_get (drop n xs) 0 ≡ slice_get xs n
first_dropped zero [] = refl
first_dropped zero (x ∷ xs) = refl
first_dropped (suc n) [] = refl
first_dropped (suc n) (x ∷ xs) = first_dropped n xs

fits_next : (level : Level) (k : ℕ) (t : GroupForest) (seen : List GroupKey) (x : GroupKey) → Fits level k t seen
    → Fits (level_without x level) k t (x ∷ seen)
fits_next level k t seen x fits s = by (same_sibling x s)
  where
    by : (b : Bool) → (if b then drop 1 (level s) else level s)
        ≡ drop ((if b then 1 else 0) + occurrence s seen) (key_indexes s k t)
    by true = let sum : occurrence s seen + 1 ≡ 1 + occurrence s seen = omega arith in
        ap (λ l. drop 1 l) (fits s) ∙ drop-drop 1 (occurrence s seen) (key_indexes s k t)
        ∙ ap (λ n. drop n (key_indexes s k t)) sum
    by false = let sum : occurrence s seen ≡ 0 + occurrence s seen = omega arith in
        fits s ∙ ap (λ n. drop n (key_indexes s k t)) sum

-- The old groups of the new groups in preorder are those of matching among siblings.
pub olds_are_matched : (old : GroupForest) (d : ℕ) (t : GroupForest) (ls : List Level) (k : ℕ) (o : GroupForest)
    (seen : List GroupKey) → d < length ls → IsPlaced old k o → Fits (level_at ls d) k o seen
    → olds_from old ls (preorder d t) ≡ matched_numbers (indexed_forest k o).0 seen t
olds_are_matched old d End ls k o seen lt placed fits = refl
olds_are_matched old d (Read x rest) ls k o seen lt placed fits =
    olds_are_matched old d rest ls k o seen lt placed fits
olds_are_matched old d (Group site number what inside rest) ls k o seen lt placed fits =
    let g : TableGroup = flat_group d site number (flat_kind what) (flat_reads what inside) in
    let x : GroupKey = sibling site what in
    let key : table_key g ≡ x = key_kept d site number what (flat_reads what inside) in
    let r : Option ℕ = found_in ls g in
    let f : Option Found = matching_sibling x (occurrence x seen) (indexed_forest k o).0 in
    let r_is : r ≡ slice_get (key_indexes x k o) (occurrence x seen) =
    ap (λ l. slice_get (l (table_key g)) 0) (innermost_is ls d lt)
    ∙ ap (λ s. slice_get (level_at ls d s) 0) key ∙ ap (λ l. slice_get l 0) (fits x)
    ∙ first_dropped (occurrence x seen) (key_indexes x k o) in
    let both = subst (λ i. IsMatched k o i f) (sym r_is) (matched x k (occurrence x seen) o) in
    let within = found_inside old k o r f placed both in
    let next : List Level = levels_after old ls g in
    let is = opened ls d (level_without (table_key g) (innermost_level (levels_around ls d))) (inner_level old r) lt in
    let long = is.long in
    let after : List Level = levels_from old next (preorder (d + 1) inside) in
    let kept = keeps_below old (d + 1) inside next (omega (arith, long)) in
    let kept_long = kept.long in
    let level_is : level_at after d ≡ level_without x (level_at ls d) =
    sym (get_or-take (d + 1) after d (λ s. []) (omega arith)) ∙ ap (λ l. level_at l d) kept.below
    ∙ get_or-take (d + 1) next d (λ s. []) (omega arith) ∙ is.level_is
    ∙ ap (λ l. level_without (table_key g) l) (innermost_is ls d lt)
    ∙ ap (λ s. level_without s (level_at ls d)) key in
    let first : olds_from old next (preorder (d + 1) inside) ≡ matched_numbers (inside_of f) [] inside =
    olds_are_matched old (d + 1) inside next within.from within.forest [] (omega (arith, long)) within.placed
    (subst (λ (l : Level). Fits l within.from within.forest []) (sym (is.inner_is ∙ within.level)) (λ s. refl))
    ∙ ap (λ t. matched_numbers t [] inside) (sym within.inside) in
    let later : olds_from old after (preorder d rest) ≡ matched_numbers (indexed_forest k o).0 (x ∷ seen) rest =
    olds_are_matched old d rest after k o (x ∷ seen) (omega (arith, kept_long)) placed
    (subst (λ (l : Level). Fits l k o (x ∷ seen)) (sym level_is) (fits_next (level_at ls d) k o seen x fits)) in
    ap (λ l. r ∷ l) (olds_join old next (preorder (d + 1) inside) (preorder d rest))
    ∙ ap (λ l. r ∷ (l ++ olds_from old after (preorder d rest))) first
    ∙ ap (λ l. r ∷ (matched_numbers (inside_of f) [] inside ++ l)) later
    ∙ ap (λ i. i ∷ (matched_numbers (inside_of f) [] inside
    ++ matched_numbers (indexed_forest k o).0 (x ∷ seen) rest)) (sym (found_number k o r f both))

-- One more old group was found.
pub one_more : (before : GroupForest) (ls after : List Level) (olds now whole : List (Option ℕ)) (found : Option ℕ)
    (groups : List TableGroup) (i : ℕ) → i < length groups → now ≡ olds ++ found ∷ []
    → found ≡ found_in ls (group_at groups i) → after ≡ levels_after before ls (group_at groups i)
    → olds ++ olds_from before ls (drop i groups) ≡ whole
    → now ++ olds_from before after (drop (i + 1) groups) ≡ whole
one_more before ls after olds now whole found groups i lt pushed is opened so_far =
    let g : TableGroup = group_at groups i in
    let rest : List TableGroup = drop (i + 1) groups in
    let one : suc i ≡ i + 1 = omega arith in
    ap (λ l. l ++ olds_from before after rest) pushed
    ∙ append_assoc olds (found ∷ []) (olds_from before after rest)
    ∙ ap (λ f. olds ++ (f ∷ olds_from before after rest)) is
    ∙ ap (λ l. olds ++ (found_in ls g ∷ olds_from before l rest)) opened
    ∙ sym (ap (λ l. olds ++ olds_from before ls l) (split_at groups i lt ∙ ap (λ n. g ∷ drop n groups) one)) ∙ so_far

-- All old groups were found.
pub all_found : (before after : GroupForest) (groups : List TableGroup) (i : ℕ) (ls : List Level)
    (olds : List (Option ℕ)) → groups ≡ preorder 0 after → length groups ≤ i
    → olds ++ olds_from before ls (drop i groups) ≡ olds_from before (level_of 0 before ∷ []) groups
    → olds ≡ old_indexes before after
all_found before after groups i ls olds is done so_far =
    sym (append-nil olds) ∙ sym (ap (λ l. olds ++ olds_from before ls l) (drop_all i groups done)) ∙ so_far
    ∙ ap (λ l. olds_from before (level_of 0 before ∷ []) l) is
    ∙ olds_are_matched before 0 after (level_of 0 before ∷ []) 0 before [] (omega arith) (λ j le lt. refl) (λ s. refl)
    ∙ sym (matching_finds_the_old_path before after)
