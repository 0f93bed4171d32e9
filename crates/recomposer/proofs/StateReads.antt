-- The reads of kept groups are of the program's states.
use Rattle.std.proofs.Common.{ℕ, zero, suc, ◌<◌, List, [], ◌∷◌, ◌++◌, ◌≡◌, ap, ◌∙◌, sym, subst, length, All, Bool, true, false, if◌then◌else◌}
use Rattle.std.proofs.lemmas.List.Elements.{All-head, All-tail}
use Rattle.rt_values.specs.Maps.{Map}
use Rattle.rt_groups.specs.GroupForest.{GroupForest, End, Read, Group, Call, Node, Key, Cell, asks, own_part}
use Rattle.rt_groups.specs.Paths.{Path, GroupKey, Found, sibling, same_sibling, nth, matching_sibling, inside_of, at_path}
use Rattle.lang_ast.specs.declared.program.Program.{Program}
use Rattle.compose_model.specs.Composing.{forest}
use Rattle.recompose_laws.specs.Numbering.{without_numbers}
use Rattle.recompose_laws.proofs.Renewals.{asks-without_numbers}
use Rattle.composer.specs.FrameDrafts.{root_of}
use Rattle.lang_ast.specs.Programs.{program_view, functions_of}
use Rattle.lang_checks.specs.CheckedProgram.{IsChecked}
use Rattle.checked_laws.proofs.StateReads.{reads_are_of_states}

-- All numbers of a list are below `n`.
abbrev pub AreBelow : ℕ → List ℕ → Type 0
AreBelow n [] = Unit {0}
AreBelow n (x ∷ xs) = (x < n) × AreBelow n xs

module _ (n : ℕ) where
  all_below : (xs : List ℕ) → All (λ x. x < n) xs → AreBelow n xs
  all_below [] h = tt
  all_below (x ∷ xs) h = (All-head (λ y. y < n) x xs h, all_below xs (All-tail (λ y. y < n) x xs h))

  front_below : (xs ys : List ℕ) → AreBelow n (xs ++ ys) → AreBelow n xs
  front_below [] ys h = tt
  front_below (x ∷ xs) ys h = (h.0, front_below xs ys h.1)

  back_below : (xs ys : List ℕ) → AreBelow n (xs ++ ys) → AreBelow n ys
  back_below [] ys h = h
  back_below (x ∷ xs) ys h = back_below xs ys h.1

  both_below : (xs ys : List ℕ) → AreBelow n xs → AreBelow n ys → AreBelow n (xs ++ ys)
  both_below [] ys h g = g
  both_below (x ∷ xs) ys h g = (h.0, both_below xs ys h.1 g)

  -- The own reads of a call are among its reads.
  pub own_below : (t : GroupForest) → AreBelow n (asks t) → AreBelow n (asks (own_part t))
  own_below End h = tt
  own_below (Read x rest) h = (h.0, own_below rest h.1)
  own_below (Group site number (Call f vs) inside rest) h = own_below rest (back_below (asks inside) (asks rest) h)
  own_below (Group site number (Node kind attributes) inside rest) h =
      both_below (asks (own_part inside)) (asks (own_part rest))
      (own_below inside (front_below (asks inside) (asks rest) h))
      (own_below rest (back_below (asks inside) (asks rest) h))
  own_below (Group site number (Key v) inside rest) h =
      both_below (asks (own_part inside)) (asks (own_part rest))
      (own_below inside (front_below (asks inside) (asks rest) h))
      (own_below rest (back_below (asks inside) (asks rest) h))
  own_below (Group site number (Cell ks v) inside rest) h =
      both_below (asks (own_part inside)) (asks (own_part rest))
      (own_below inside (front_below (asks inside) (asks rest) h))
      (own_below rest (back_below (asks inside) (asks rest) h))

  choice_below : (s : GroupKey) (b : Bool) (k : ℕ) (found : Found) (rest : GroupForest) → AreBelow n (asks found.inside)
      → ((i : ℕ) → AreBelow n (asks (inside_of (matching_sibling s i rest)))) →
      AreBelow n (asks (inside_of (if b then nth k found (λ i. matching_sibling s i rest)
      else matching_sibling s k rest)))
  choice_below s true zero found rest here later = here
  choice_below s true (suc k) found rest here later = later k
  choice_below s false k found rest here later = later k

  found_below : (s : GroupKey) (k : ℕ) (t : GroupForest) → AreBelow n (asks t)
      → AreBelow n (asks (inside_of (matching_sibling s k t)))
  found_below s k End h = tt
  found_below s k (Read x rest) h = found_below s k rest h.1
  found_below s k (Group site number what inside rest) h =
      choice_below s (same_sibling (sibling site what) s) k (record { number = number; what = what; inside = inside })
      rest (front_below (asks inside) (asks rest) h)
      (λ i. found_below s i rest (back_below (asks inside) (asks rest) h))

  -- The reads inside the group at a path are among all reads.
  pub path_below : (path : Path) (t : GroupForest) → AreBelow n (asks t)
      → AreBelow n (asks (inside_of (at_path path t)))
  path_below [] t h = tt
  path_below (s ∷ []) t h = found_below s.of s.occurrence t h
  path_below (s ∷ (r ∷ path)) t h =
      path_below (r ∷ path) (inside_of (matching_sibling s.of s.occurrence t)) (found_below s.of s.occurrence t h)

-- The reads of a forest that a checked program made are of its states.
pub kept_below : (p : Program) (m : Map) (t : GroupForest) → IsChecked (program_view p)
    → without_numbers t ≡ forest (functions_of p) (root_of p) m → AreBelow (length p.states.items) (asks t)
kept_below p m t checked made =
    subst (λ (xs : List ℕ). AreBelow (length p.states.items) xs) (sym (sym (asks-without_numbers t) ∙ ap asks made))
    (all_below (length p.states.items) (asks (forest (functions_of p) (root_of p) m))
    (reads_are_of_states (program_view p) (root_of p) m checked.fine))
