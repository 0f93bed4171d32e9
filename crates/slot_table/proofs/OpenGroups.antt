-- The open groups of a reader, by their indexes.
use Rattle.std.proofs.Common.{◌≡◌, true, true≢false, ◌<◌, ℕ, suc, ◌+◌, ◌-◌, List, [], ◌∷◌, ◌++◌, length, length-append, take, drop, get_or, Some, refl, ap, sym, subst, ◌∙◌, arith}
use Rattle.std.proofs.lemmas.List.{drop-drop, take_more, take_all}
use Rattle.rt_groups.specs.declared.groups.Group.{Group}
use Rattle.rt_groups.proofs.ReplacedItems.{got_seam}
use Rattle.slot_table.specs.ReaderStates.{ReaderState, OpenGroup, after_deep, innermost_group, inner_depth, begins_at, has_more}
use Rattle.slot_table.specs.InnerCounts.{with_opened, open_groups_at, AreIndexes}
use Rattle.slot_table.proofs.InnerCounts.{first_at, first_of_rest}

opened_last : (gs : List Group) (os : List OpenGroup) (front : List ℕ) (i : ℕ)
    → open_groups_at gs os (front ++ i ∷ []) ≡ with_opened (drop i gs) (open_groups_at gs os front)
opened_last gs os [] i = refl
opened_last gs os (j ∷ front) i = opened_last gs (with_opened (drop j gs) os) front i

opens_are : (gs rest : List Group) (g : Group) (front opens : List ℕ) (i : ℕ) → opens ≡ front ++ i ∷ []
    → drop i gs ≡ g ∷ rest → open_groups_at gs [] opens ≡ record { group = g; after = after_deep (g.depth + 1) rest }
    ∷ open_groups_at gs [] front
opens_are gs rest g front opens i e is = ap (λ l. open_groups_at gs [] l) e ∙ opened_last gs [] front i
    ∙ ap (λ l. with_opened l (open_groups_at gs [] front)) is

abbrev place_at : List Group → ℕ → List ℕ → ReaderState
place_at gs at opens = record { left = drop at gs; open_groups = open_groups_at gs [] opens }

-- The state of a reader after it opens a group.
pub opened_is : (gs rest : List Group) (g : Group) (at : ℕ) (opens new : List ℕ) (p : ReaderState)
    → place_at gs at opens ≡ p → new ≡ opens ++ at ∷ [] → p.left ≡ g ∷ rest
    → place_at gs (at + 1) new ≡ record {
      left = rest;
      open_groups = record { group = g; after = after_deep (g.depth + 1) rest } ∷ p.open_groups;
    }
opened_is gs rest g at opens new p here more is =
    let stands : drop at gs ≡ g ∷ rest = ap (λ q. q.left) here ∙ is in
    let left : drop (at + 1) gs ≡ rest = sym (drop-drop 1 at gs) ∙ ap (λ l. drop 1 l) stands in
    let open_groups = opens_are gs rest g opens new at more stands
    ∙ ap (λ (q : ReaderState). record { group = g; after = after_deep (g.depth + 1) rest } ∷ q.open_groups) here in
    ap (λ l. record { left = l; open_groups = open_groups_at gs [] new }) left
    ∙ ap (λ l. record { left = rest; open_groups = l }) open_groups

-- The index of an open group is that of a group.
inside_last : (gs : List Group) (opens front : List ℕ) (i : ℕ) → AreIndexes gs opens → opens ≡ front ++ i ∷ []
    → i < length gs
inside_last gs opens front i inside e =
    let long = ap (λ l. length l) e ∙ length-append front (i ∷ []) in
    subst (λ n. n < length gs) (got_seam opens front [] i 0 (length front) refl e)
    (inside (length front) 0 (omega (arith, long)))

abbrev after_first : List OpenGroup → List Group
after_first [] = []
after_first (o ∷ os) = o.after

-- The state of a reader after it closes a group.
pub closed_is : (gs : List Group) (at i next : ℕ) (opens front : List ℕ) (p : ReaderState) (o : OpenGroup)
    (os : List OpenGroup) → AreIndexes gs opens → place_at gs at opens ≡ p → opens ≡ front ++ i ∷ []
    → ((g : Group) (rest : List Group) → drop i gs ≡ g ∷ rest → drop next gs ≡ after_deep (g.depth + 1) rest)
    → p.open_groups ≡ o ∷ os → place_at gs next front ≡ record { left = o.after; open_groups = os }
closed_is gs at i next opens front p o os inside here e told is =
    let one = first_of_rest gs i (inside_last gs opens front i inside e) in
    let after = told one.first (drop (suc i) gs) one.is in
    let both = sym (opens_are gs (drop (suc i) gs) one.first front opens i e one.is)
    ∙ ap (λ q. q.open_groups) here ∙ is in
    let left : drop next gs ≡ o.after = after ∙ ap after_first both in
    let open_groups : open_groups_at gs [] front ≡ os = ap (λ l. drop 1 l) both in
    ap (λ l. record { left = l; open_groups = open_groups_at gs [] front }) left
    ∙ ap (λ l. record { left = o.after; open_groups = l }) open_groups

-- The innermost open group is at the last index.
pub innermost_is : (gs : List Group) (g : Group) (opens : List ℕ) (i d : ℕ) → 0 < length opens
    → i ≡ get_or opens (length opens - 1) d → i < length gs → g ≡ get_or gs i g
    → Some g ≡ innermost_group (open_groups_at gs [] opens)
innermost_is gs g opens i d some e inside is =
    let last : ℕ = length opens - 1 in
    let whole : last + 1 ≡ length opens = omega (arith, some) in
    let split : opens ≡ take last opens ++ i ∷ [] =
    sym (take_all (last + 1) opens (omega (arith, whole))) ∙ take_more opens last d (omega (arith, some))
    ∙ ap (λ n. take last opens ++ n ∷ []) (sym e) in
    sym (ap innermost_group (opens_are gs (drop (suc i) gs) g (take last opens) opens i split
    (first_at gs (drop (suc i) gs) g i inside is)))

-- After an open group is added there is one more, and after it is closed one less.
pub one_more_open : (p q : ReaderState) → has_more p ≡ true
    → ((g : Group) (rest : List Group) → p.left ≡ g ∷ rest
    → q ≡ record {
      left = rest;
      open_groups = record { group = g; after = after_deep (g.depth + 1) rest }
          ∷ p.open_groups;
    }) → length q.open_groups ≡ length p.open_groups + 1
one_more_open p q more opened = by p.left refl more
  where
    by : (gs : List Group) → p.left ≡ gs → begins_at (inner_depth p.open_groups) gs ≡ true
        → length q.open_groups ≡ length p.open_groups + 1
    by [] e more = absurd (true≢false (sym more))
    by (g ∷ rest) e more = let is = ap (λ s. length s.open_groups) (opened g rest e) in omega (arith, is)

pub one_less_open : (p q : ReaderState) → 0 < length p.open_groups
    → ((o : OpenGroup) (os : List OpenGroup) → p.open_groups ≡ o ∷ os → q ≡ record { left = o.after; open_groups = os })
    → length q.open_groups + 1 ≡ length p.open_groups
one_less_open p q some closed = by p.open_groups refl some
  where
    by : (os : List OpenGroup) → p.open_groups ≡ os → 0 < length os → length q.open_groups + 1 ≡ length p.open_groups
    by [] e some = absurd (omega (arith, some))
    by (o ∷ os) e some = let is = ap (λ s. length s.open_groups) (closed o os e) in let long = ap (λ l. length l) e in
        omega (arith, is, long)
