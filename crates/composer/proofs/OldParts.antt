-- A part of the forest of the last frame: what follows for the groups inside, for the groups after it, and for the
-- group that a lookup finds.
use Rattle.std.proofs.Common.{ℕ, zero, suc, List, [], ◌∷◌, ◌++◌, ◌≡◌, refl, ap, ◌∙◌, sym, subst, append_assoc, append-nil, Bool, true, false, if◌then◌else◌, Option, Some, None, take, drop}
use Rattle.rt_values.specs.Maps.{Map}
use Rattle.rt_groups.specs.GroupForest.{GroupForest, End, Read, Group, GroupKind, asks}
use Rattle.rt_groups.specs.Paths.{GroupKey, sibling, same_sibling, Found, nth, matching_sibling, inside_of}
use Rattle.path_laws.specs.SiblingEquality.{same_is}
use Rattle.lang_ast.specs.Terms.{Func}
use Rattle.lang_ast.specs.Programs.{statements_in, functions_statements}
use Rattle.lang_ast.proofs.Statements.{each_apart, each_joined}
use Rattle.recompose_laws.specs.Refreshing.{SameReads}
use Rattle.recompose_laws.specs.Idle.{IsNumbered}
use Rattle.recompose_laws.specs.CalculatedCells.{Calculates, FunctionsCalculate}
use Rattle.recompose_laws.proofs.Refreshes.{same_inside, same_rest}
use Rattle.recompose_laws.proofs.MadeCalls.{found_made, inside_made}
use Rattle.recompose_laws.proofs.CalculatedCells.{found_calculated, inside_calculated}
use Rattle.composer.specs.BesideContracts.{LastComposition, IsSince, IsOldPart, IsFoundNumbered, IsOldFound}

pub part_inside : {l : LastComposition} {owed : List ℕ} {m : Map} (site n : ℕ) (what : GroupKind)
    (inside rest : GroupForest) → IsOldPart l owed m (Group site n what inside rest) → IsOldPart l owed m inside
part_inside {l} {owed} {m} site n what inside rest p =
    record {
      made = p.made.1;
      cells = p.cells.1;
      same = same_inside l.map m owed site n what inside rest p.same;
      numbered = p.numbered.1;
    }

pub part_rest : {l : LastComposition} {owed : List ℕ} {m : Map} (site n : ℕ) (what : GroupKind)
    (inside rest : GroupForest) → IsOldPart l owed m (Group site n what inside rest) → IsOldPart l owed m rest
part_rest {l} {owed} {m} site n what inside rest p =
    record {
      made = p.made.2;
      cells = p.cells.2;
      same = same_rest l.map m owed site n what inside rest p.same;
      numbered = p.numbered.2;
    }

pub part_after_read : {l : LastComposition} {owed : List ℕ} {m : Map} (x : ℕ) (rest : GroupForest)
    → IsOldPart l owed m (Read x rest) → IsOldPart l owed m rest
part_after_read x rest p = record { made = p.made; cells = p.cells; same = p.same.1; numbered = p.numbered }

pub part_end : (l : LastComposition) (owed : List ℕ) (m : Map) → IsOldPart l owed m End
part_end l owed m = record { made = tt; cells = tt; same = tt; numbered = tt }

-- What a lookup finds.

found_same : (m m' : Map) (owed : List ℕ) (s : GroupKey) (n : ℕ) (t : GroupForest) → SameReads owed (asks t) m m'
    → SameReads owed (asks (inside_of (matching_sibling s n t))) m m'
found_same m m' owed s n End h = tt
found_same m m' owed s n (Read x rest) h = found_same m m' owed s n rest h.1
found_same m m' owed s n (Group site number what inside rest) h =
    by (same_sibling (sibling site what) s) n
    (λ j. found_same m m' owed s j rest (same_rest m m' owed site number what inside rest h))
  where
    found : Found
    found = record { number = number; what = what; inside = inside }

    by : (b : Bool) (j : ℕ) → ((k : ℕ) → SameReads owed (asks (inside_of (matching_sibling s k rest))) m m') →
        SameReads owed (asks (inside_of (if b then nth j found (λ k. matching_sibling s k rest)
        else matching_sibling s j rest))) m m'
    by true zero later = same_inside m m' owed site number what inside rest h
    by true (suc j) later = later j
    by false j later = later j

found_numbered : (s : GroupKey) (n : ℕ) (t : GroupForest) → IsNumbered t → IsFoundNumbered (matching_sibling s n t)
found_numbered s n End h = tt
found_numbered s n (Read x rest) h = found_numbered s n rest h
found_numbered s n (Group site number what inside rest) h =
    by (same_sibling (sibling site what) s) n (λ j. found_numbered s j rest h.2)
  where
    found : Found
    found = record { number = number; what = what; inside = inside }

    by : (b : Bool) (j : ℕ) → ((k : ℕ) → IsFoundNumbered (matching_sibling s k rest))
        → IsFoundNumbered (if b then nth j found (λ k. matching_sibling s k rest) else matching_sibling s j rest)
    by true zero later = (h.0, h.1)
    by true (suc j) later = later j
    by false j later = later j

inside_numbered : (found : Option Found) → IsFoundNumbered found → IsNumbered (inside_of found)
inside_numbered None h = tt
inside_numbered (Some g) h = h.1

-- Equal siblings have equal sites.
same_site : (s : GroupKey) (site : ℕ) (what : GroupKind) → same_sibling (sibling site what) s ≡ true → site ≡ s.site
same_site s site what e = ap (λ (x : GroupKey). x.site) (same_is (sibling site what) s e)

-- The old sibling with this site and key after `n` others with both.
pub part_found : {l : LastComposition} {owed : List ℕ} {m : Map} {t : GroupForest} (s : GroupKey) (n : ℕ)
    → IsOldPart l owed m t → IsOldFound l owed m s.site (matching_sibling s n t)
part_found {l} {owed} {m} {t} s n p = record {
  made = found_made l.map l.functions s n t p.made;
  cells = found_calculated l.calculation s n t (same_site s) p.cells;
  same = found_same l.map m owed s n t p.same;
  numbered = found_numbered s n t p.numbered;
}

-- The groups inside what a lookup found.
pub part_inside_of : {l : LastComposition} {owed : List ℕ} {m : Map} {site : ℕ} {found : Option Found}
    → IsOldFound l owed m site found → IsOldPart l owed m (inside_of found)
part_inside_of {l} {owed} {m} {site} {found} p = record {
  made = inside_made l.map l.functions found p.made;
  cells = inside_calculated l.calculation site found p.cells;
  same = p.same;
  numbered = inside_numbered found p.numbered;
}

-- The groups inside the old sibling that a new group is matched with.
pub part_matched : {l : LastComposition} {owed : List ℕ} {m : Map} {t : GroupForest} (s : GroupKey) (n : ℕ)
    → IsOldPart l owed m t → IsOldPart l owed m (inside_of (matching_sibling s n t))
part_matched s n p = part_inside_of (part_found s n p)

-- The first `n` functions.

split_list : {X : Type 0} (n : ℕ) (xs : List X) → xs ≡ take n xs ++ drop n xs
split_list zero xs = refl
split_list (suc n) [] = refl
split_list (suc n) (x ∷ xs) = ap (λ l. x ∷ l) (split_list n xs)

pub since_front : {l : LastComposition} {fs : List Func} (n : ℕ) → IsSince l fs → IsSince l (take n fs)
since_front {fs = fs} n s = record {
  more = drop n fs ++ s.more;
  front = s.front ∙ ap (λ (g : List Func). g ++ s.more) (split_list n fs) ∙ append_assoc (take n fs) (drop n fs) s.more;
  calculates = s.calculates;
}

front_calculates : (c : LastComposition) (fs more : List Func) → FunctionsCalculate c.calculation (fs ++ more)
    → FunctionsCalculate c.calculation fs
front_calculates c [] more h = tt
front_calculates c (f ∷ fs) more h =
    let both = each_apart (Calculates c.calculation) (statements_in f.body) (functions_statements (fs ++ more)) h in
    each_joined (Calculates c.calculation) (statements_in f.body) (functions_statements fs) both.0
    (front_calculates c fs more both.1)

-- The calculations of the functions at hand follow from their sites.
pub since_calculates : {l : LastComposition} {fs : List Func} → IsSince l fs → FunctionsCalculate l.calculation fs
since_calculates {l} {fs} s =
    front_calculates l fs s.more (subst (λ (gs : List Func). FunctionsCalculate l.calculation gs) s.front s.calculates)

-- All functions of the program.
pub since_all : (l : LastComposition) → FunctionsCalculate l.calculation l.functions → IsSince l l.functions
since_all l h = record { more = []; front = sym (append-nil l.functions); calculates = h }
