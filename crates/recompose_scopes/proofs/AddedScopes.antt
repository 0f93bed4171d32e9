-- The scopes of the first groups of a table, while scopes are added.
use Rattle.std.proofs.Common.{◌≡◌, inl, inr, ◌<◌, ◌≤◌, ◌+◌, ◌==◌, ℕ, zero, suc, true, false, List, [], ◌∷◌, ◌++◌, length, length-drop, drop, get_or, Some, None, if◌then◌else◌, refl, ap, sym, ◌∙◌, subst, arith}
use Rattle.std.proofs.lemmas.Bool.{cases_lt, eqb-true}
use Rattle.std.proofs.lemmas.List.{get_or-drop, drop-drop}
use Rattle.rt_values.specs.Maps.{contains}
use Rattle.rt_groups.specs.declared.groups.Group.{Group}
use Rattle.read_links.specs.LinkLists.{links_with_all}
use Rattle.slot_table.specs.TableGroups.{group_at}
use Rattle.recompose_scopes.specs.Scopes.{ScopeLists, own_reads, reads_at, IsAnchored, IsLinked, HasScope, IsScopeOfReader, AreScopesOf}
use Rattle.recompose_scopes.specs.Building.{with_call}
use Rattle.recompose_scopes.proofs.Members.{is_none}
use Rattle.recompose_scopes.proofs.ScopeLinks.{kept_by_all, has_all, only_all}
use Rattle.recompose_scopes.proofs.ScopeAnchors.{anchor_inside, anchor_stays, added_anchor, old_or_added}

-- The scopes are those of the first k groups.
pub record AreScopesUpTo (k : ℕ) (reads : List (List ℕ)) (l : ScopeLists) : Type 0 where
  pub all : (i x : ℕ) → i < k → contains x (reads_at reads i) ≡ true → HasScope l i x
  pub only : (s x : ℕ) → IsLinked l s x → IsScopeOfReader reads l s x
  pub ordered : (s t i j : ℕ) → IsAnchored l s i → IsAnchored l t j → s < t → i < j
  pub low : (s i : ℕ) → IsAnchored l s i → i < k

pub no_scopes : (reads : List (List ℕ)) (l : ScopeLists) → l ≡ record { anchors = []; links = [] }
    → AreScopesUpTo 0 reads l
no_scopes reads l e = subst (λ m. AreScopesUpTo 0 reads m) (sym e) (record {
  all = λ i x less has. absurd (omega (arith, less));
  only = λ s x linked. absurd cc;
  ordered = λ s t i j first second less. absurd cc;
  low = λ s i first. absurd cc;
})

-- The next group has no reads.
add_none : (k : ℕ) (reads : List (List ℕ)) (l : ScopeLists) → [] ≡ reads_at reads k → AreScopesUpTo k reads l
    → AreScopesUpTo (k + 1) reads l
add_none k reads l is h = record {
  all = λ i x less has. elim (cases_lt i k) [
    | inl low ↦ h.all i x low has
    | inr high ↦ let same : i ≡ k = omega (arith, less, high) in
        let none = ap (contains x) (is ∙ ap (reads_at reads) (sym same)) ∙ has in absurd cc
  ];
  only = h.only;
  ordered = h.ordered;
  low = λ s i first. let less = h.low s i first in omega (arith, less);
}

with_new : ℕ → List ℕ → ScopeLists → ScopeLists
with_new k xs l = record {
  anchors = l.anchors ++ Some k ∷ [];
  links = links_with_all (length l.anchors) xs l.links;
}

-- The next group has the reads xs.
add_some : (k : ℕ) (reads : List (List ℕ)) (xs : List ℕ) (l : ScopeLists) → xs ≡ reads_at reads k
    → AreScopesUpTo k reads l → AreScopesUpTo (k + 1) reads (with_new k xs l)
unfolding with_new
add_some k reads xs l is h = record {
  all = λ i x less has. elim (cases_lt i k) [
    | inl low ↦ let old = h.all i x low has in record {
      scope = old.scope;
      anchored = anchor_stays l.anchors k old.scope i old.anchored;
      linked = kept_by_all old.scope (length l.anchors) x xs l.links old.linked;
    }
    | inr high ↦ let same : i ≡ k = omega (arith, less, high) in record {
      scope = length l.anchors;
      anchored = added_anchor l.anchors k ∙ ap Some (sym same);
      linked = has_all (length l.anchors) x xs l.links
          (ap (contains x) (is ∙ ap (reads_at reads) (sym same)) ∙ has);
    }
  ];
  only = λ s x linked. elim (only_all s (length l.anchors) x xs l.links linked) [
    | inl old ↦ let reader = h.only s x old in record {
      index = reader.index;
      anchored = anchor_stays l.anchors k s reader.index reader.anchored;
      read = reader.read;
    }
    | inr new ↦ record {
      index = k;
      anchored = ap (λ t. get_or (l.anchors ++ Some k ∷ []) t None) (sym new.0) ∙ added_anchor l.anchors k;
      read = ap (contains x) (sym is) ∙ new.1;
    }
  ];
  ordered = λ s t i j first second less. elim (old_or_added l.anchors k s i first) [
    | inl one ↦ elim (old_or_added l.anchors k t j second) [
      | inl two ↦ h.ordered s t i j one two less
      | inr new ↦
          let low = h.low s i one in
          let is_k = new.1 in
          omega (arith, low, is_k)
    ]
    | inr new ↦ elim (old_or_added l.anchors k t j second) [
      | inl two ↦
          let inside = anchor_inside l.anchors t j two in
          let at = new.0 in
          absurd (omega (arith, inside, at, less))
      | inr both ↦
          let at = new.0 in
          let end = both.0 in
          absurd (omega (arith, at, end, less))
    ]
  ];
  low = λ s i first. elim (old_or_added l.anchors k s i first) [
    | inl old ↦ let less = h.low s i old in omega (arith, less)
    | inr new ↦ let is_k = new.1 in omega (arith, is_k)
  ];
}

not_empty : (n : ℕ) → (suc n == 0) ≡ false
not_empty n = is_none (suc n == 0) (λ e. let is = eqb-true (suc n) 0 e in absurd (omega (arith, is)))

pub next_scopes : (k : ℕ) (reads : List (List ℕ)) (xs : List ℕ) (l : ScopeLists) → xs ≡ reads_at reads k
    → AreScopesUpTo k reads l → AreScopesUpTo (k + 1) reads (with_call k xs l)
unfolding with_new
next_scopes k reads [] l is h = add_none k reads l is h
next_scopes k reads (x ∷ xs) l is h =
    subst (λ b. AreScopesUpTo (k + 1) reads (if b then l else with_new k (x ∷ xs) l)) (sym (not_empty (length xs)))
    (add_some k reads (x ∷ xs) l is h)

read_inside : (reads : List (List ℕ)) (i x : ℕ) → contains x (reads_at reads i) ≡ true → i < length reads
read_inside [] i x e = absurd cc
read_inside (r ∷ reads) zero x e = omega arith
read_inside (r ∷ reads) (suc i) x e = let less = read_inside reads i x e in omega (arith, less)

-- The scopes of all groups.
pub all_scopes : (k : ℕ) (reads : List (List ℕ)) (l : ScopeLists) → length reads ≤ k → AreScopesUpTo k reads l
    → AreScopesOf reads l
all_scopes k reads l long h = record {
  all = λ i x has. let inside = read_inside reads i x has in h.all i x (omega (arith, inside, long)) has;
  only = h.only;
  ordered = h.ordered;
}

pub read_count : (gs : List Group) → length (own_reads gs) ≡ length gs
read_count [] = refl
read_count (g ∷ gs) = ap suc (read_count gs)

pub reads_of_group : (gs : List Group) (k : ℕ) → (group_at gs k).reads ≡ reads_at (own_reads gs) k
reads_of_group [] k = refl
reads_of_group (g ∷ gs) zero = refl
reads_of_group (g ∷ gs) (suc k) = reads_of_group gs k

-- The first of the reads that are left is that of group k.
pub next_reads : (k : ℕ) (reads left : List (List ℕ)) (xs : List ℕ) → drop k reads ≡ xs ∷ left
    → xs ≡ reads_at reads k
next_reads k reads left xs is =
    sym (ap (λ l. get_or l 0 []) is) ∙ get_or-drop k reads 0 [] ∙ ap (λ n. get_or reads n []) (omega arith)

-- The reads that are left after those of group k.
pub later_reads : (k : ℕ) (reads left : List (List ℕ)) (xs : List ℕ) → drop k reads ≡ xs ∷ left
    → drop (k + 1) reads ≡ left
later_reads k reads left xs is = sym (drop-drop 1 k reads) ∙ ap (drop 1) is

-- No reads are left after those of all groups.
pub no_reads_left : (k : ℕ) (reads : List (List ℕ)) → drop k reads ≡ [] → length reads ≤ k
no_reads_left k reads is =
    let rest = length-drop k reads in
    let none : length (drop k reads) ≡ 0 = ap length is in
    omega (arith, rest, none)
