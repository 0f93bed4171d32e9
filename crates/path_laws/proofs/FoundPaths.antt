-- The group that a lookup finds at a path has this path.
use Rattle.std.proofs.Common.{◌≡◌, ℕ, zero, suc, ◌+◌, Bool, true, false, List, [], ◌∷◌, ◌++◌, map, length, Option, Some, None, if◌then◌else◌, refl, ap, sym, ◌∙◌, arith}
use Rattle.std.specs.Prelude.{slice_get}
use Rattle.std.specs.Option.{option_map, option_map_or}
use Rattle.std.proofs.lemmas.List.{length-map}
use Rattle.rt_groups.specs.GroupForest.{GroupForest, End, Read, Group}
use Rattle.rt_groups.specs.Paths.{Path, PathStep, GroupKey, sibling, same_sibling, step, occurrence, Found, nth, matching_sibling, inside_of, at_path}
use Rattle.path_laws.specs.GroupPaths.{paths, path_at, indexed_forest, number_found, index_at, new_index, EachFoundGroupHasThePath, NoTwoGroupsHaveOnePath, GroupsFollowTheirPaths}
use Rattle.path_laws.specs.SiblingEquality.{same_is}
use Rattle.path_laws.proofs.Indexes.{same_item, no_item, numbers, get-first, get-second, get-map, index_is, indexed_paths, path_count}
use Rattle.path_laws.proofs.SiblingMatches.{each_path_finds_its_group}

-- A path and a number are at one index of two lists.
record IsAt (p : Path) (m : ℕ) (ps : List Path) (ns : List ℕ) : Type 0 where
  at : ℕ
  path : slice_get ps at ≡ Some p
  number : slice_get ns at ≡ Some m

is_inside : (here : PathStep) (p : Path) (m k : ℕ) (ps later : List Path) (ns more : List ℕ) → IsAt p m ps ns
    → IsAt (here ∷ p) m ((here ∷ []) ∷ (map (λ q. here ∷ q) ps ++ later)) (k ∷ (ns ++ more))
is_inside here p m k ps later ns more is = record {
  at = suc is.at;
  path = get-first (map (λ q. here ∷ q) ps) later (here ∷ p) is.at (get-map (λ q. here ∷ q) ps is.at
      ∙ ap (λ o. option_map (λ q. here ∷ q) o) is.path);
  number = get-first ns more m is.at is.number;
}

is_later : (here : PathStep) (p : Path) (m k : ℕ) (ps later : List Path) (ns more : List ℕ) → length ps ≡ length ns
    → IsAt p m later more → IsAt p m ((here ∷ []) ∷ (map (λ q. here ∷ q) ps ++ later)) (k ∷ (ns ++ more))
is_later here p m k ps later ns more long is =
    let mapped : List Path = map (λ q. here ∷ q) ps in
    let same : length ns + is.at ≡ length mapped + is.at =
    ap (λ n. n + is.at) (sym long ∙ sym (length-map ps (λ q. here ∷ q))) in
    record {
      at = suc (length ns + is.at);
      path = ap (λ j. slice_get (mapped ++ later) j) same ∙ get-second mapped later is.at ∙ is.path;
      number = get-second ns more is.at ∙ is.number;
    }

-- The group at a path inside the group that was found.
abbrev lookup : Path → Option Found → Option Found
lookup [] f = f
lookup (s ∷ p) f = at_path (s ∷ p) (inside_of f)

first_step : (s : PathStep) (p : Path) (t : GroupForest)
    → at_path (s ∷ p) t ≡ lookup p (matching_sibling s.of s.occurrence t)
first_step s [] t = refl
first_step s (r ∷ p) t = refl

pub none_in_end : (p : Path) → at_path p End ≡ None
none_in_end [] = refl
none_in_end (s ∷ []) = refl
none_in_end (s ∷ (r ∷ p)) = none_in_end (r ∷ p)

none_in_none : (p : Path) → lookup p None ≡ None
none_in_none [] = refl
none_in_none (s ∷ p) = none_in_end (s ∷ p)

moved_on : (s : GroupKey) (n m : ℕ) (q : Path) (ps : List Path) (ns : List ℕ) (number : ℕ) → n ≡ m
    → IsAt (record { of = s; occurrence = n } ∷ q) number ps ns
    → IsAt (record { of = s; occurrence = m } ∷ q) number ps ns
moved_on s n m q ps ns number e is =
    record { at = is.at; path = is.path ∙ ap (λ j. Some (record { of = s; occurrence = j } ∷ q)) e; number = is.number }

found_path : (t : GroupForest) (s : GroupKey) (n : ℕ) (q : Path) (seen : List GroupKey) (f : Found)
    → lookup q (matching_sibling s n t) ≡ Some f
    → IsAt (record { of = s; occurrence = occurrence s seen + n } ∷ q) f.number (paths seen t) (numbers t)
found_path End s n q seen f e = absurd (no_item (sym (none_in_none q) ∙ e))
found_path (Read x rest) s n q seen f e = found_path rest s n q seen f e
found_path (Group site k what inside rest) s n q seen f e = by (same_sibling (sibling site what) s) refl n e
    (found_path rest s) (λ r p f e. from_none r p f (found_path inside r.of r.occurrence p [] f e))
  where
    here : PathStep
    here = step site what seen

    group : Found
    group = record { number = k; what = what; inside = inside }

    Goal : ℕ → Type 0
    Goal n = IsAt (record { of = s; occurrence = occurrence s seen + n } ∷ q) f.number
        (paths seen (Group site k what inside rest)) (numbers (Group site k what inside rest))

    later : (n m : ℕ) → occurrence s (sibling site what ∷ seen) + m ≡ occurrence s seen + n
        → IsAt (record { of = s; occurrence = occurrence s (sibling site what ∷ seen) + m } ∷ q) f.number
        (paths (sibling site what ∷ seen) rest) (numbers rest) → Goal n
    later n m e is =
        moved_on s (occurrence s (sibling site what ∷ seen) + m) (occurrence s seen + n) q
        (paths seen (Group site k what inside rest)) (numbers (Group site k what inside rest)) f.number e
        (is_later here (record { of = s; occurrence = occurrence s (sibling site what ∷ seen) + m } ∷ q) f.number k
        (paths [] inside) (paths (sibling site what ∷ seen) rest) (numbers inside) (numbers rest)
        (path_count [] inside) is)

    same_step : sibling site what ≡ s → here ≡ record { of = s; occurrence = occurrence s seen + 0 }
    same_step e = let sum : occurrence s seen ≡ occurrence s seen + 0 = omega arith in
        ap (λ r. record { of = r; occurrence = occurrence r seen }) e ∙ ap (λ j. record { of = s; occurrence = j }) sum

    first : (p : Path) → q ≡ p → sibling site what ≡ s → lookup p (Some group) ≡ Some f
        → ((r : PathStep) (p : Path) (f : Found) → lookup p (matching_sibling r.of r.occurrence inside) ≡ Some f
        → IsAt (r ∷ p) f.number (paths [] inside) (numbers inside)) → Goal 0
    first [] eq same e deeper = record {
      at = 0;
      path = ap (λ h. Some (h ∷ [])) (same_step same)
          ∙ ap (λ p. Some (record { of = s; occurrence = occurrence s seen + 0 } ∷ p)) (sym eq);
      number = ap (λ g. Some g.number) (same_item e);
    }
    first (r ∷ p) eq same e deeper =
        let is = is_inside here (r ∷ p) f.number k (paths [] inside) (paths (sibling site what ∷ seen) rest)
        (numbers inside) (numbers rest) (deeper r p f (sym (first_step r p inside) ∙ e)) in
        record {
          at = is.at;
          path = is.path ∙ ap (λ h. Some (h ∷ (r ∷ p))) (same_step same)
              ∙ ap (λ p. Some (record { of = s; occurrence = occurrence s seen + 0 } ∷ p)) (sym eq);
          number = is.number;
        }

    from_none : (r : PathStep) (p : Path) (f : Found)
        → IsAt (record { of = r.of; occurrence = 0 + r.occurrence } ∷ p) f.number (paths [] inside) (numbers inside)
        → IsAt (r ∷ p) f.number (paths [] inside) (numbers inside)
    from_none r p f is = let e : 0 + r.occurrence ≡ r.occurrence = omega arith in
        moved_on r.of (0 + r.occurrence) r.occurrence p (paths [] inside) (numbers inside) f.number e is

    by : (b : Bool) → b ≡ same_sibling (sibling site what) s → (n : ℕ)
        → lookup q (if b then nth n group (λ j. matching_sibling s j rest) else matching_sibling s n rest) ≡ Some f
        → ((m : ℕ) (p : Path) (seen : List GroupKey) (f : Found) → lookup p (matching_sibling s m rest) ≡ Some f
        → IsAt (record { of = s; occurrence = occurrence s seen + m } ∷ p) f.number (paths seen rest)
        (numbers rest))
        → ((r : PathStep) (p : Path) (f : Found) → lookup p (matching_sibling r.of r.occurrence inside) ≡ Some f
        → IsAt (r ∷ p) f.number (paths [] inside) (numbers inside)) → Goal n
    by true b zero e after deeper = first q refl (same_is (sibling site what) s (sym b)) e deeper
    by true b (suc n) e after deeper =
        let counts : occurrence s (sibling site what ∷ seen) ≡ 1 + occurrence s seen =
        ap (λ c. (if c then 1 else 0) + occurrence s seen) (sym b) in
        later (suc n) n (omega (arith, counts)) (after n q (sibling site what ∷ seen) f e)
    by false b n e after deeper =
        let counts : occurrence s (sibling site what ∷ seen) ≡ 0 + occurrence s seen =
        ap (λ c. (if c then 1 else 0) + occurrence s seen) (sym b) in
        later n n (omega (arith, counts)) (after n q (sibling site what ∷ seen) f e)

has_path : (t : GroupForest) (p : Path) (i : ℕ) (o : Option Found) → at_path p (indexed_forest 0 t).0 ≡ o
    → number_found o ≡ Some i → path_at t i ≡ Some p
has_path t p i None e found = absurd (no_item found)
has_path t [] i (Some f) e found = absurd (no_item e)
has_path t (s ∷ p) i (Some f) e found =
    let indexed : GroupForest = (indexed_forest 0 t).0 in
    let is = found_path indexed s.of s.occurrence p [] f (sym (first_step s p indexed) ∙ e) in
    let same : i ≡ is.at = sym (same_item found) ∙ index_is t is.at f.number is.number in
    ap (λ j. slice_get (paths [] t) j) same ∙ ap (λ l. slice_get l is.at) (sym (indexed_paths 0 [] t)) ∙ is.path
    ∙ ap (λ n. Some (record { of = s.of; occurrence = n } ∷ p))
    (let e : 0 + s.occurrence ≡ s.occurrence = omega arith in e)

pub each_found_group_has_the_path : EachFoundGroupHasThePath
each_found_group_has_the_path t i p found = has_path t p i (at_path p (indexed_forest 0 t).0) refl found

pub no_two_groups_have_one_path : NoTwoGroupsHaveOnePath
no_two_groups_have_one_path t i j p at other =
    same_item (sym (each_path_finds_its_group t i p at) ∙ each_path_finds_its_group t j p other)

follows : (new : GroupForest) (p : Path) (o : Option Path) → o ≡ Some p
    → option_map_or (index_at new) o None ≡ index_at new p
follows new p o e = ap (λ q. option_map_or (index_at new) q None) e

removed_without : (new : GroupForest) (p : Path) → ((j : ℕ) → path_at new j ≡ Some p → ⊥) → index_at new p ≡ None
removed_without new p none = by (index_at new p) refl
  where
    by : (r : Option ℕ) → index_at new p ≡ r → r ≡ None
    by None e = refl
    by (Some j) e = absurd (none j (each_found_group_has_the_path new j p e))

pub groups_follow_their_paths : GroupsFollowTheirPaths
groups_follow_their_paths old new i p at =
    let is : new_index old new i ≡ index_at new p = follows new p (path_at old i) at in
    record {
      kept = λ j. (
        λ e. each_found_group_has_the_path new j p (sym is ∙ e),
        λ e. is
            ∙ each_path_finds_its_group new j p e,
      );
      removed = (
        λ e j here. no_item (sym e ∙ is ∙ each_path_finds_its_group new j p here),
        λ none. is
            ∙ removed_without new p none,
      );
    }
