-- A number that no node has any more is given to no other node.
use Rattle.std.proofs.Common.{ℕ, zero, suc, ◌<◌, ◌≤◌, ◌==◌, ◌≡◌, List, [], ◌∷◌, refl, ap, ◌∙◌, sym, subst, inl, inr, Bool, true, false, ◌&&◌, if◌then◌else◌, Option, Some, None, arith}
use Rattle.std.proofs.lemmas.Bool.Decides.{eqb_tells}
use Rattle.rt_groups.specs.GroupForest.{GroupForest, End, Read, Group, GroupKind, is_node}
use Rattle.rt_groups.specs.Paths.{GroupKey, sibling, same_sibling, occurrence, Found, nth, matching_sibling, inside_of}
use Rattle.rt_groups.specs.Frames.{number_for, given_number}
use Rattle.compose_model.specs.Composing.{forest}
use Rattle.recompose_laws.specs.Numbering.{numbered_by_siblings}
use Rattle.recompose_laws.specs.Distinct.{has_number, how_often, NodesAt}
use Rattle.recompose_laws.proofs.Numbers.{path_numbers_are_sibling_numbers}
use Rattle.node_laws.specs.FollowingTrees.{NumbersAreNotGivenAgain}
use Rattle.node_laws.proofs.StatementSites.{look_up}
use Rattle.node_laws.proofs.ToldForests.{at_node, composed_at_sites, kept_is_shaped}
use Rattle.node_laws.proofs.KeptSites.{IsFound, found_in, found_sites, number_rises, next_rises}

-- Neither a found group nor a node inside it has the number.
abbrev IsFree : ℕ → Option Found → Type 0
IsFree x None = Unit {0}
IsFree x (Some g) = (has_number x g.number g.what ≡ 0) × (how_often x g.inside ≡ 0)

found_free : (x : ℕ) (s : GroupKey) (k : ℕ) (u : GroupForest) → how_often x u ≡ 0 → IsFree x (matching_sibling s k u)
found_free x s k End h = tt
found_free x s k (Read y rest) h = found_free x s k rest h
found_free x s k (Group site n what inside rest) h =
    by (same_sibling (sibling site what) s) k (λ i. found_free x s i rest (omega (arith, h)))
  where
    here : Found
    here = record { number = n; what = what; inside = inside }

    by : (b : Bool) (i : ℕ) → ((i : ℕ) → IsFree x (matching_sibling s i rest))
        → IsFree x (if b then nth i here (λ j. matching_sibling s j rest) else matching_sibling s i rest)
    by true zero go = (omega (arith, h), omega (arith, h))
    by true (suc i) go = go i
    by false i go = go i

inside_free : (x : ℕ) (o : Option Found) → IsFree x o → how_often x (inside_of o) ≡ 0
inside_free x None h = refl
inside_free x (Some g) h = h.1

other : (n x : ℕ) → x < n → (n == x) ≡ false
other n x h = elim (eqb_tells n x) [ inl e ↦ let same = e.1 in absurd (omega (arith, h, same)) | inr e ↦ e.0 ]

abbrev one_if : Bool → ℕ
one_if b = if b then 1 else 0

module _ (at_site : ℕ → Bool) (x : ℕ) where
  -- A group does not get the number.
  number_free : (site : ℕ) (what : GroupKind) (s : GroupKey) (u : GroupForest) (o : Option Found) (next : ℕ) → x < next
      → s.site ≡ site → is_node what ≡ at_site site → IsFound at_site s u o → IsFree x o
      → has_number x (given_number what o next).0 what ≡ 0
  number_free site what s u None next low same at f free = by (is_node what)
    where
      by : (b : Bool) → one_if (b && ((if b then number_for None next else (0, next)).0 == x)) ≡ 0
      by true = ap one_if (other next x low)
      by false = refl
  number_free site what s u (Some g) next low same at f free =
      by (is_node what) (at ∙ ap at_site (sym same) ∙ sym f.is_node_at)
    where
      by : (b : Bool) → b ≡ is_node g.what
          → one_if (b && ((if b then number_for (Some g) next else (0, next)).0 == x)) ≡ 0
      by true e = ap (λ c. one_if (c && (g.number == x))) e ∙ free.0
      by false e = refl

  free_beside : (u : GroupForest) (seen : List GroupKey) (next : ℕ) (t : GroupForest) → x < next → NodesAt at_site u
      → NodesAt at_site t → how_often x u ≡ 0 → how_often x (numbered_by_siblings u seen next t).0 ≡ 0
  free_beside u seen next End low g h none = refl
  free_beside u seen next (Read y rest) low g h none = free_beside u seen next rest low g h none
  free_beside u seen next (Group site n what inside rest) low g h none =
      let s : GroupKey = sibling site what in
      let found : Option Found = matching_sibling s (occurrence s seen) u in
      let f = found_in at_site s (occurrence s seen) u g in
      let free = found_free x s (occurrence s seen) u none in
      let first = (given_number what found next).1 in
      let within = (numbered_by_siblings (inside_of found) [] first inside).1 in
      let own = number_rises what found next in
      let deep = next_rises (inside_of found) [] first inside in
      let here = number_free site what s u found next low refl h.0 f free in
      let inner = free_beside (inside_of found) [] first inside (omega (arith, low, own))
      (found_sites at_site s u found f) h.1 (inside_free x found free) in
      let later = free_beside u (s ∷ seen) within rest (omega (arith, low, own, deep)) g h.2 none in
      omega (arith, here, inner, later)

pub numbers_are_not_given_again : NumbersAreNotGivenAgain
numbers_are_not_given_again p root old next m numbered fine was =
    let new : GroupForest = forest p.functions root m in
    let same = sym (path_numbers_are_sibling_numbers old new next) in
    let before = kept_is_shaped p root old numbered fine was in
    let plain = composed_at_sites p root m numbered fine in (
      subst (λ (q : GroupForest × ℕ). next ≤ q.1) same (next_rises old [] next new),
      λ x low none. subst (λ (q : GroupForest × ℕ). how_often x q.0 ≡ 0) same
          (free_beside (at_node (look_up p.functions)) x old [] next new low before.sites plain none),
    )
