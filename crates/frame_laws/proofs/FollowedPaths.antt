-- The number of a node follows its path.
use Rattle.std.proofs.Common.{ℕ, zero, suc, ◌+◌, ◌≤◌, List, [], ◌∷◌, ◌≡◌, refl, ap, ◌∙◌, sym, subst, Bool, true, false, if◌then◌else◌, Option, Some, None, arith}
use Rattle.rt_groups.specs.GroupForest.{GroupForest, End, Read, Group, is_node}
use Rattle.rt_groups.specs.Paths.{Path, PathStep, GroupKey, sibling, same_sibling, occurrence, Found, nth, matching_sibling, inside_of, at_path}
use Rattle.rt_groups.specs.Frames.{number_for, given_number}
use Rattle.recompose_laws.specs.Numbering.{numbered_by_siblings}
use Rattle.recompose_laws.proofs.Numbers.{path_numbers_are_sibling_numbers}
use Rattle.node_laws.proofs.KeptSites.{number_rises, next_rises}
use Rattle.path_laws.specs.SiblingEquality.{same_is}
use Rattle.frame_laws.specs.FollowedPaths.{NumbersFollowPaths}
use Rattle.path_laws.proofs.FoundPaths.{none_in_end}

-- A new group that was matched with `old`: it has the number for `old` at some unused number from `next` on, and its
-- contents were numbered next to those of `old`.
record IsNumbered (old : Option Found) (next : ℕ) (g : Found) : Type 0 where
  unused : ℕ
  after : next ≤ unused
  number : g.number ≡ (given_number g.what old unused).0
  later : ℕ
  after_own : next ≤ later
  plain : GroupForest
  inside : g.inside ≡ (numbered_by_siblings (inside_of old) [] later plain).0

-- From a greater unused number on.
from_later : (old : Option Found) (next more : ℕ) (g : Found) → next ≤ more → IsNumbered old more g
    → IsNumbered old next g
from_later old next more g rises n = record {
  unused = n.unused;
  after = omega (arith, rises, n.after);
  number = n.number;
  later = n.later;
  after_own = omega (arith, rises, n.after_own);
  plain = n.plain;
  inside = n.inside;
}

-- Each sibling of a numbered forest was matched with an old sibling.
matched : (beside : GroupForest) (seen : List GroupKey) (next : ℕ) (t : GroupForest) (s : GroupKey) (n : ℕ) (g : Found)
    → matching_sibling s n (numbered_by_siblings beside seen next t).0 ≡ Some g
    → IsNumbered (matching_sibling s (occurrence s seen + n) beside) next g
matched beside seen next End s n g e = absurd cc
matched beside seen next (Read x rest) s n g e = matched beside seen next rest s n g e
matched beside seen next (Group site k what inside rest) s n g e =
    by (same_sibling (sibling site what) s) refl n e (λ m f. matched beside (sibling site what ∷ seen) within.1 rest s m g f)
  where
    found : Option Found
    found = matching_sibling (sibling site what) (occurrence (sibling site what) seen) beside

    own : ℕ × ℕ
    own = given_number what found next

    within : GroupForest × ℕ
    within = numbered_by_siblings (inside_of found) [] own.1 inside

    more : GroupForest
    more = (numbered_by_siblings beside (sibling site what ∷ seen) within.1 rest).0

    here : Found
    here = record { number = own.0; what = what; inside = within.0 }

    rises : next ≤ own.1
    rises = number_rises what found next

    rises_on : own.1 ≤ within.1
    rises_on = next_rises (inside_of found) [] own.1 inside

    is_here : IsNumbered found next here
    is_here = record {
      unused = next;
      after = omega arith;
      number = refl;
      later = own.1;
      after_own = rises;
      plain = inside;
      inside = refl;
    }

    moved : (a b : ℕ) → a ≡ b → IsNumbered (matching_sibling s a beside) within.1 g
        → IsNumbered (matching_sibling s b beside) next g
    moved a b e n = from_later (matching_sibling s b beside) next within.1 g (omega (arith, rises, rises_on))
        (subst (λ j. IsNumbered (matching_sibling s j beside) within.1 g) e n)

    by : (b : Bool) → b ≡ same_sibling (sibling site what) s → (n : ℕ)
        → (if b then nth n here (λ j. matching_sibling s j more) else matching_sibling s n more) ≡ Some g
        → ((m : ℕ) → matching_sibling s m more ≡ Some g
        → IsNumbered (matching_sibling s (occurrence s (sibling site what ∷ seen) + m) beside) within.1 g)
        → IsNumbered (matching_sibling s (occurrence s seen + n) beside) next g
    by true b zero e after =
        let is : here ≡ g = cc in
        let same : sibling site what ≡ s = same_is (sibling site what) s (sym b) in
        let none : occurrence s seen ≡ occurrence s seen + 0 = omega arith in
        subst (λ (f : Found). IsNumbered (matching_sibling s (occurrence s seen + 0) beside) next f) is
        (subst (λ o. IsNumbered o next here)
        (ap (λ r. matching_sibling r (occurrence r seen) beside) same ∙ ap (λ j. matching_sibling s j beside) none)
        is_here)
    by true b (suc n) e after =
        let counts : occurrence s (sibling site what ∷ seen) ≡ 1 + occurrence s seen =
        ap (λ c. (if c then 1 else 0) + occurrence s seen) (sym b) in
        moved (occurrence s (sibling site what ∷ seen) + n) (occurrence s seen + suc n) (omega (arith, counts)) (after n e)
    by false b n e after =
        let counts : occurrence s (sibling site what ∷ seen) ≡ 0 + occurrence s seen =
        ap (λ c. (if c then 1 else 0) + occurrence s seen) (sym b) in
        moved (occurrence s (sibling site what ∷ seen) + n) (occurrence s seen + n) (omega (arith, counts)) (after n e)

-- What the number of a node says of the old group.
abbrev Follows : Option Found → ℕ → Found → Type 0
Follows old next g = ((o : Found) → old ≡ Some o → g.number ≡ o.number) × (old ≡ None → next ≤ g.number)

follows_of : (node : Bool) (old : Option Found) (next unused : ℕ) (g : Found) → node ≡ true → next ≤ unused
    → g.number ≡ (if node then number_for old unused else (0, unused)).0 → Follows old next g
follows_of false old next unused g is after e = absurd cc
follows_of true None next unused g is after e = (λ o found. absurd cc, λ none. omega (arith, e, after))
follows_of true (Some f) next unused g is after e =
    (λ o found. let same : f ≡ o = cc in e ∙ ap (λ (h : Found). h.number) same, λ none. absurd cc)

at_step : (s : PathStep) (old : GroupForest) (next : ℕ) (new : GroupForest) (g : Found)
    → matching_sibling s.of s.occurrence (numbered_by_siblings old [] next new).0 ≡ Some g
    → IsNumbered (matching_sibling s.of s.occurrence old) next g
at_step s old next new g e =
    let z : 0 + s.occurrence ≡ s.occurrence = omega arith in
    subst (λ j. IsNumbered (matching_sibling s.of j old) next g) z (matched old [] next new s.of s.occurrence g e)

along : (p : Path) (old : GroupForest) (next : ℕ) (new : GroupForest) (g : Found)
    → at_path p (numbered_by_siblings old [] next new).0 ≡ Some g → is_node g.what ≡ true → Follows (at_path p old) next g
along [] old next new g e node = absurd cc
along (s ∷ []) old next new g e node =
    let n = at_step s old next new g e in
    follows_of (is_node g.what) (matching_sibling s.of s.occurrence old) next n.unused g node n.after n.number
along (s ∷ (r ∷ p)) old next new g e node =
    by (matching_sibling s.of s.occurrence (numbered_by_siblings old [] next new).0) refl e
    (λ before later plain f. along (r ∷ p) before later plain g f node)
  where
    by : (o : Option Found) → matching_sibling s.of s.occurrence (numbered_by_siblings old [] next new).0 ≡ o
        → at_path (r ∷ p) (inside_of o) ≡ Some g
        → ((before : GroupForest) (later : ℕ) (plain : GroupForest)
        → at_path (r ∷ p) (numbered_by_siblings before [] later plain).0 ≡ Some g → Follows (at_path (r ∷ p) before) later g)
        → Follows (at_path (r ∷ p) (inside_of (matching_sibling s.of s.occurrence old))) next g
    by None is f deeper = let none = none_in_end (r ∷ p) in absurd cc
    by (Some h) is f deeper =
        let n = at_step s old next new h is in
        let q = deeper (inside_of (matching_sibling s.of s.occurrence old)) n.later n.plain
        (ap (λ t. at_path (r ∷ p) t) (sym n.inside) ∙ f) in
        (q.0, λ none. omega (arith, q.1 none, n.after_own))

pub numbers_follow_paths : NumbersFollowPaths
numbers_follow_paths old new next p g e node =
    along p old next new g
    (ap (λ (r : GroupForest × ℕ). at_path p r.0) (sym (path_numbers_are_sibling_numbers old new next)) ∙ e) node
