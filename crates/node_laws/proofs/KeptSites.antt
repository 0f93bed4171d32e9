-- A node that keeps its number keeps its site.
use Rattle.std.proofs.Common.{ℕ, zero, suc, ◌+◌, ◌≤◌, ◌==◌, ◌≡◌, List, [], ◌∷◌, refl, ap, ◌∙◌, sym, subst, Bool, true, false, ◌&&◌, if◌then◌else◌, Option, Some, None, arith, eq-eqb}
use Rattle.std.specs.Option.{option_eq}
use Rattle.std.proofs.lemmas.Bool.{and_parts, eqb-true}
use Rattle.rt_values.specs.Values.{same_value}
use Rattle.rt_groups.specs.GroupForest.{GroupForest, End, Read, Group, GroupKind, is_node}
use Rattle.rt_groups.specs.Paths.{GroupKey, sibling, same_sibling, occurrence, Found, nth, matching_sibling, inside_of}
use Rattle.rt_groups.specs.Frames.{number_for, given_number, numbered_forest}
use Rattle.recompose_laws.specs.Numbering.{numbered_by_siblings}
use Rattle.recompose_laws.specs.Distinct.{has_number, how_often, AreDistinct, NodesAt}
use Rattle.recompose_laws.proofs.Numbers.{path_numbers_are_sibling_numbers}

-- 1 if a group is a node with the number at another site, else 0.
abbrev pub strays : ℕ → ℕ → ℕ → ℕ → GroupKind → ℕ
strays x s site n what = if site == s then 0 else has_number x n what

-- The count of nodes with the number at other sites.
abbrev pub elsewhere : ℕ → ℕ → GroupForest → ℕ
elsewhere x s End = 0
elsewhere x s (Read y rest) = elsewhere x s rest
elsewhere x s (Group site n what inside rest) = strays x s site n what + (elsewhere x s inside + elsewhere x s rest)

stray_or_not : (b : Bool) (h : ℕ) → (if b then 0 else h) ≤ h
stray_or_not true h = omega arith
stray_or_not false h = omega arith

elsewhere_is_some : (x s : ℕ) (t : GroupForest) → elsewhere x s t ≤ how_often x t
elsewhere_is_some x s End = omega arith
elsewhere_is_some x s (Read y rest) = elsewhere_is_some x s rest
elsewhere_is_some x s (Group site n what inside rest) =
    let here = stray_or_not (site == s) (has_number x n what) in
    let deep = elsewhere_is_some x s inside in
    let later = elsewhere_is_some x s rest in
    omega (arith, here, deep, later)

-- Each node with the number is at the site.
abbrev pub IsOnlyAt : ℕ → ℕ → GroupForest → Type 0
IsOnlyAt x s End = Unit {0}
IsOnlyAt x s (Read y rest) = IsOnlyAt x s rest
IsOnlyAt x s (Group site n what inside rest) =
    (is_node what ≡ true → n ≡ x → site ≡ s) × IsOnlyAt x s inside × IsOnlyAt x s rest

stray_counts : (x s site n : ℕ) (what : GroupKind) → strays x s site n what ≡ 0 → is_node what ≡ true → n ≡ x → site ≡ s
stray_counts x s site n what none node same = by (site == s) refl none
  where
    one : has_number x n what ≡ 1
    one = ap {B = ℕ} (λ b. if b && (n == x) then 1 else 0) node ∙ ap {B = ℕ} (λ b. if b then 1 else 0) (eq-eqb n x same)

    by : (b : Bool) → (site == s) ≡ b → (if b then 0 else has_number x n what) ≡ 0 → site ≡ s
    by true e none = eqb-true site s e
    by false e none = absurd (omega (arith, one, none))

only_at : (x s : ℕ) (t : GroupForest) → elsewhere x s t ≡ 0 → IsOnlyAt x s t
only_at x s End e = tt
only_at x s (Read y rest) e = only_at x s rest e
only_at x s (Group site n what inside rest) e = (
  stray_counts x s site n what (omega (arith, e)),
  only_at x s inside (omega (arith, e)),
  only_at x s rest (omega (arith, e)),
)

-- A part of a forest: outside of it no fewer nodes have the number than have it at other sites.
abbrev pub IsPart : GroupForest → GroupForest → Type 0
IsPart u w = (x s : ℕ) → how_often x u + elsewhere x s w ≤ how_often x w + elsewhere x s u

inside_part : (w u : GroupForest) (site n : ℕ) (what : GroupKind) (inside rest : GroupForest)
    → u ≡ Group site n what inside rest → IsPart u w → IsPart inside w
inside_part w u site n what inside rest e part x s =
    let whole = subst (λ (t : GroupForest). IsPart t w) e part x s in
    let here = stray_or_not (site == s) (has_number x n what) in
    let later = elsewhere_is_some x s rest in
    omega (arith, whole, here, later)

-- What a look-up among the groups of a part finds.
pub record FoundGroup (at_site : ℕ → Bool) (s : GroupKey) (u : GroupForest) (g : Found) : Type 0 where
  pub is_node_at : is_node g.what ≡ at_site s.site
  pub sites : NodesAt at_site g.inside
  pub one : (x : ℕ) → has_number x g.number g.what + elsewhere x s.site u ≤ how_often x u
  pub part : (w : GroupForest) → IsPart u w → IsPart g.inside w

abbrev pub IsFound : (ℕ → Bool) → GroupKey → GroupForest → Option Found → Type 0
IsFound at_site s u None = Unit {0}
IsFound at_site s u (Some g) = FoundGroup at_site s u g

later_found : (at_site : ℕ → Bool) (s : GroupKey) (site n : ℕ) (what : GroupKind) (inside rest : GroupForest)
    (o : Option Found) → IsFound at_site s rest o → IsFound at_site s (Group site n what inside rest) o
later_found at_site s site n what inside rest None h = tt
later_found at_site s site n what inside rest (Some g) h = record {
  is_node_at = h.is_node_at;
  sites = h.sites;
  one = λ x.
      let later = h.one x in
      let here = stray_or_not (site == s.site) (has_number x n what) in
      let deep = elsewhere_is_some x s.site inside in
      omega (arith, later, here, deep);
  part = λ w part. h.part w (λ x q.
      let whole = part x q in
      let here = stray_or_not (site == q) (has_number x n what) in
      let deep = elsewhere_is_some x q inside in
      omega (arith, whole, here, deep));
}

found_here : (at_site : ℕ → Bool) (s : GroupKey) (site n : ℕ) (what : GroupKind) (inside rest : GroupForest)
    → same_sibling (sibling site what) s ≡ true → NodesAt at_site (Group site n what inside rest)
    → FoundGroup at_site s (Group site n what inside rest) (record { number = n; what = what; inside = inside })
found_here at_site s site n what inside rest e h =
    let at : (site == s.site) ≡ true =
    (and_parts (site == s.site) (option_eq same_value (sibling site what).key s.key) e).0 in
    record {
      is_node_at = h.0 ∙ ap at_site (eqb-true site s.site at);
      sites = h.1;
      one = λ x.
          let none : strays x s.site site n what ≡ 0 = ap {B = ℕ} (λ b. if b then 0 else has_number x n what) at in
          let deep = elsewhere_is_some x s.site inside in
          let later = elsewhere_is_some x s.site rest in
          omega (arith, none, deep, later);
      part = λ w part. inside_part w (Group site n what inside rest) site n what inside rest refl part;
    }

pub found_in : (at_site : ℕ → Bool) (s : GroupKey) (k : ℕ) (u : GroupForest) → NodesAt at_site u
    → IsFound at_site s u (matching_sibling s k u)
found_in at_site s k End h = tt
found_in at_site s k (Read y rest) h = by (matching_sibling s k rest) (found_in at_site s k rest h)
  where
    by : (o : Option Found) → IsFound at_site s rest o → IsFound at_site s (Read y rest) o
    by None f = tt
    by (Some g) f = record { is_node_at = f.is_node_at; sites = f.sites; one = f.one; part = f.part }
found_in at_site s k (Group site n what inside rest) h =
    by (same_sibling (sibling site what) s) refl k (λ i. found_in at_site s i rest h.2)
  where
    here : Found
    here = record { number = n; what = what; inside = inside }

    by : (b : Bool) → same_sibling (sibling site what) s ≡ b → (i : ℕ)
        → ((i : ℕ) → IsFound at_site s rest (matching_sibling s i rest))
        → IsFound at_site s (Group site n what inside rest)
        (if b then nth i here (λ j. matching_sibling s j rest) else matching_sibling s i rest)
    by true e zero go = found_here at_site s site n what inside rest e h
    by true e (suc i) go = later_found at_site s site n what inside rest (matching_sibling s i rest) (go i)
    by false e i go = later_found at_site s site n what inside rest (matching_sibling s i rest) (go i)

found_inside : (at_site : ℕ → Bool) (s : GroupKey) (u w : GroupForest) (o : Option Found) → IsFound at_site s u o
    → IsPart u w → IsPart (inside_of o) w
found_inside at_site s u w None f part = λ x q. let some = elsewhere_is_some x q w in omega (arith, some)
found_inside at_site s u w (Some g) f part = f.part w part

pub found_sites : (at_site : ℕ → Bool) (s : GroupKey) (u : GroupForest) (o : Option Found) → IsFound at_site s u o
    → NodesAt at_site (inside_of o)
found_sites at_site s u None f = tt
found_sites at_site s u (Some g) f = f.sites

-- Unused numbers rise.

pub number_rises : (what : GroupKind) (o : Option Found) (next : ℕ) → next ≤ (given_number what o next).1
number_rises what o next = by (is_node what) o
  where
    by : (b : Bool) (o : Option Found) → next ≤ (if b then number_for o next else (0, next)).1
    by true None = omega arith
    by true (Some g) = omega arith
    by false o = omega arith

pub next_rises : (old : GroupForest) (seen : List GroupKey) (next : ℕ) (t : GroupForest)
    → next ≤ (numbered_by_siblings old seen next t).1
next_rises old seen next End = omega arith
next_rises old seen next (Read y rest) = next_rises old seen next rest
next_rises old seen next (Group site n what inside rest) =
    let found = matching_sibling (sibling site what) (occurrence (sibling site what) seen) old in
    let first = (given_number what found next).1 in
    let within = (numbered_by_siblings (inside_of found) [] first inside).1 in
    let own = number_rises what found next in
    let deep = next_rises (inside_of found) [] first inside in
    let later = next_rises old (sibling site what ∷ seen) within rest in
    omega (arith, own, deep, later)

-- Each old node with the number of a new node is at the site of the new node.
abbrev pub KeepSites : GroupForest → GroupForest → Type 0
KeepSites w End = Unit {0}
KeepSites w (Read y rest) = KeepSites w rest
KeepSites w (Group site n what inside rest) =
    (is_node what ≡ true → IsOnlyAt n site w) × KeepSites w inside × KeepSites w rest

module _ (at_site : ℕ → Bool) (w : GroupForest) (k : ℕ) (distinct : AreDistinct w k) where
  -- The number that a node gets is unused, or that of the old node at its site.
  number_kept : (site : ℕ) (what : GroupKind) (s : GroupKey) (u : GroupForest) (o : Option Found) (next : ℕ)
      → s.site ≡ site → k ≤ next → is_node what ≡ at_site site → IsPart u w → IsFound at_site s u o
      → is_node what ≡ true → IsOnlyAt (given_number what o next).0 site w
  number_kept site what s u None next same low at part f node =
      let is : (given_number what None next).0 ≡ next =
      ap {B = ℕ} (λ b. (if b then number_for None next else (0, next)).0) node in
      let none = (distinct next).1 low in
      let few = elsewhere_is_some next site w in
      subst (λ (x : ℕ). IsOnlyAt x site w) (sym is) (only_at next site w (omega (arith, none, few)))
  number_kept site what s u (Some g) next same low at part f node =
      let x : ℕ = g.number in
      let is : (given_number what (Some g) next).0 ≡ x =
      ap {B = ℕ} (λ b. (if b then number_for (Some g) next else (0, next)).0) node in
      let old_node : is_node g.what ≡ true = f.is_node_at ∙ ap at_site same ∙ sym at ∙ node in
      let counts : has_number x g.number g.what ≡ 1 = ap {B = ℕ} (λ b. if b && (x == x) then 1 else 0) old_node
      ∙ ap {B = ℕ} (λ b. if b then 1 else 0) (eq-eqb x x refl) in
      let one = f.one x in
      let whole = part x s.site in
      let most = (distinct x).0 in
      subst (λ (y : ℕ). IsOnlyAt y site w) (sym is)
      (subst (λ (q : ℕ). IsOnlyAt x q w) same (only_at x s.site w (omega (arith, counts, one, whole, most))))

  sites_kept : (u : GroupForest) (seen : List GroupKey) (next : ℕ) (t : GroupForest) → k ≤ next → IsPart u w
      → NodesAt at_site u → NodesAt at_site t → KeepSites w (numbered_by_siblings u seen next t).0
  sites_kept u seen next End low part g h = tt
  sites_kept u seen next (Read y rest) low part g h = sites_kept u seen next rest low part g h
  sites_kept u seen next (Group site n what inside rest) low part g h =
      let s : GroupKey = sibling site what in
      let found : Option Found = matching_sibling s (occurrence s seen) u in
      let f = found_in at_site s (occurrence s seen) u g in
      let first = (given_number what found next).1 in
      let within = (numbered_by_siblings (inside_of found) [] first inside).1 in
      let own = number_rises what found next in
      let deep = next_rises (inside_of found) [] first inside in (
        number_kept site what s u found next refl low h.0 part f,
        sites_kept (inside_of found) [] first inside (omega (arith, low, own)) (found_inside at_site s u w found f part)
            (found_sites at_site s u found f) h.1,
        sites_kept u (s ∷ seen) within rest (omega (arith, low, own, deep)) part g h.2,
      )

-- In the numbered forest of a frame, kept nodes keep their sites.
pub frame_keeps_sites : (at_site : ℕ → Bool) (old new : GroupForest) (k : ℕ) → NodesAt at_site old → NodesAt at_site new
    → AreDistinct old k → KeepSites old (numbered_forest old [] [] k new).0
frame_keeps_sites at_site old new k g h distinct =
    subst (λ (p : GroupForest × ℕ). KeepSites old p.0) (sym (path_numbers_are_sibling_numbers old new k))
    (sites_kept at_site old k distinct old [] k new (omega arith) (λ x s. omega arith) g h)
