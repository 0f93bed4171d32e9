-- Forests at other offsets.
use Rattle.std.proofs.Common.{◌≡◌, ℕ, suc, ◌+◌, ◌<◌, ◌≤◌, ◌==◌, nat_lt, Bool, true, false, ◌&&◌, List, [], ◌∷◌, ◌++◌, length, refl, ap, ◌∙◌, cond, if◌then◌else◌, arith, length-append, inl, inr, lt-ltb, codes}
use Rattle.std.proofs.lemmas.Bool.{ltb-true, and_parts as both}
use Rattle.std.proofs.lemmas.Bool.Decides.{eqb_tells}
use Rattle.std.specs.Str.{bytes_eq}
use Rattle.rt_values.specs.Limits.{most_items}
use Rattle.rt_values.specs.Values.{escape_all}
use Rattle.sexp_text.specs.Forest.{Forest, empty, atom, text, list, list_nesting, without_offsets}
use Rattle.sexp_text.specs.Grammar.{Spelling, nothing, blank, comment, word, quoted, parens, spelling_bytes, is_blank, is_comment, is_name, is_well_spelled, forest_at}
use Rattle.sexp_text.specs.Layout.{CanBeSpelled}
use Rattle.lang_ast.specs.Sizes.{offset_if}
use Rattle.lang_limits.specs.Tokens.{is_oversized_atom, is_oversized_string, is_oversized_list, tree_count, oversized_offsets, is_do, program_trees, script_trees}
use Rattle.lang_ast.proofs.Limits.{none_in}
use Rattle.text_laws.specs.OtherOffsets.{placed_forest}

-- Offsets within the bytes of a spelling.

some_byte : (name : List ℕ) → is_name name ≡ true → 0 < length name
some_byte [] e = absurd cc
some_byte (b ∷ bs) e = omega arith

-- A first tree at its place, and the trees after it at theirs.
atom_placed : (g : ℕ → ℕ) (at bt : ℕ) (a b : List ℕ) (f r : Forest) → g at ≡ bt → a ≡ b → placed_forest g f ≡ r
    → placed_forest g (atom at a f) ≡ atom bt b r
atom_placed g at bt a b f r here same later =
    ap (λ k. atom k a (placed_forest g f)) here ∙ ap (λ n. atom bt n (placed_forest g f)) same ∙ ap (atom bt b) later

text_placed : (g : ℕ → ℕ) (at bt : ℕ) (a b : List ℕ) (f r : Forest) → g at ≡ bt → a ≡ b → placed_forest g f ≡ r
    → placed_forest g (text at a f) ≡ text bt b r
text_placed g at bt a b f r here same later =
    ap (λ k. text k a (placed_forest g f)) here ∙ ap (λ n. text bt n (placed_forest g f)) same ∙ ap (text bt b) later

list_placed : (g : ℕ → ℕ) (at bt : ℕ) (i j f r : Forest) → g at ≡ bt → placed_forest g i ≡ j → placed_forest g f ≡ r
    → placed_forest g (list at i f) ≡ list bt j r
list_placed g at bt i j f r here deep later =
    ap (λ k. list k (placed_forest g i) (placed_forest g f)) here ∙ ap (λ k. list bt k (placed_forest g f)) deep
    ∙ ap (list bt j) later

-- Two functions agree on the offsets of a spelling that begins at `at`.
abbrev Agree : (ℕ → ℕ) → (ℕ → ℕ) → ℕ → Spelling → Type 0
Agree g h at s = (x : ℕ) → at ≤ x → x < at + length (spelling_bytes s) → g x ≡ h x

same_placed : (s : Spelling) (at : ℕ) (g h : ℕ → ℕ) → is_well_spelled s ≡ true → Agree g h at s
    → placed_forest g (forest_at at s) ≡ placed_forest h (forest_at at s)
same_placed nothing at g h w agree = refl
same_placed (blank b s) at g h w agree =
    same_placed s (at + 1) g h (both (is_blank b) _ w).1
    (λ x low high. agree x (omega (arith, low)) (omega (arith, high)))
same_placed (comment cs s) at g h w agree =
    let long = length-append cs (10 ∷ spelling_bytes s) in
    same_placed s (at + length cs + 2) g h (both (is_comment cs) _ w).1
    (λ x low high. agree x (omega (arith, low)) (omega (arith, high, long)))
same_placed (word name s) at g h w agree =
    let long = length-append name (spelling_bytes s) in
    let parts = both (is_name name && _) _ w in
    let some = some_byte name (both (is_name name) _ parts.0).0 in
    atom_placed g at (h at) name name (forest_at (at + length name) s) (placed_forest h (forest_at (at + length name) s))
    (agree at (omega arith) (omega (arith, long, some))) refl
    (same_placed s (at + length name) g h parts.1
    (λ x low high. agree x (omega (arith, low)) (omega (arith, high, long))))
same_placed (quoted cs s) at g h w agree =
    let long = length-append (escape_all cs) (34 ∷ spelling_bytes s) in
    let next = at + length (escape_all cs) + 2 in
    text_placed g at (h at) cs cs (forest_at next s) (placed_forest h (forest_at next s))
    (agree at (omega arith) (omega (arith, long))) refl
    (same_placed s (at + length (escape_all cs) + 2) g h (both _ (is_well_spelled s) w).1
    (λ x low high. agree x (omega (arith, low)) (omega (arith, high, long))))
same_placed (parens inner s) at g h w agree =
    let long = length-append (spelling_bytes inner) (41 ∷ spelling_bytes s) in
    let parts = both (is_well_spelled inner) (is_well_spelled s) w in
    let next = at + length (spelling_bytes inner) + 2 in
    list_placed g at (h at) (forest_at (at + 1) inner) (placed_forest h (forest_at (at + 1) inner)) (forest_at next s)
    (placed_forest h (forest_at next s)) (agree at (omega arith) (omega (arith, long)))
    (same_placed inner (at + 1) g h parts.0
    (λ x low high. agree x (omega (arith, low)) (omega (arith, high, long))))
    (same_placed s (at + length (spelling_bytes inner) + 2) g h parts.1
    (λ x low high. agree x (omega (arith, low)) (omega (arith, high, long))))

-- One offset has another place.
abbrev with_place : ℕ → ℕ → (ℕ → ℕ) → ℕ → ℕ
with_place at p g x = if at == x then p else g x

-- The offsets before `split` have the places of one function, the others those of another.
abbrev split_places : ℕ → (ℕ → ℕ) → (ℕ → ℕ) → ℕ → ℕ
split_places split g h x = if nat_lt x split then g x else h x

its_place : (at p : ℕ) (g : ℕ → ℕ) → with_place at p g at ≡ p
its_place at p g = elim (eqb_tells at at) [ inl e ↦ ap (λ b. cond b p (g at)) e.0 | inr e ↦ absurd (e.1 refl) ]

other_place : (at p : ℕ) (g : ℕ → ℕ) (x : ℕ) → at < x → with_place at p g x ≡ g x
other_place at p g x past = elim (eqb_tells at x) [
  | inl e ↦ absurd (omega (arith, e.1, past))
  | inr e ↦ ap (λ b. cond b p (g x)) e.0
]

first_places : (split : ℕ) (g h : ℕ → ℕ) (x : ℕ) → x < split → split_places split g h x ≡ g x
first_places split g h x under = ap (λ b. cond b (g x) (h x)) (lt-ltb x split under)

-- The test of an order that does not hold.
not_under : (x split : ℕ) → split ≤ x → nat_lt x split ≡ false
not_under x split past = by (nat_lt x split) refl
  where
    by : (b : Bool) → nat_lt x split ≡ b → b ≡ false
    by true e = absurd (omega (arith, past, ltb-true x split e))
    by false e = refl

last_places : (split : ℕ) (g h : ℕ → ℕ) (x : ℕ) → split ≤ x → split_places split g h x ≡ h x
last_places split g h x past = ap (λ b. cond b (g x) (h x)) (not_under x split past)

-- Each forest with the same trees as a spelled one is the spelled one at other offsets.

pub record Placed (f r : Forest) : Type 0 where
  pub places : ℕ → ℕ
  pub is : placed_forest places f ≡ r

pub place_spelled : (s : Spelling) (at : ℕ) (r : Forest) → is_well_spelled s ≡ true
    → without_offsets (forest_at at s) ≡ without_offsets r → Placed (forest_at at s) r
place_spelled nothing at empty w e = record { places = λ x. x; is = refl }
place_spelled nothing at (atom bt b r) w e = absurd cc
place_spelled nothing at (text bt b r) w e = absurd cc
place_spelled nothing at (list bt j r) w e = absurd cc
place_spelled (blank b s) at r w e = place_spelled s (at + 1) r (both (is_blank b) _ w).1 e
place_spelled (comment cs s) at r w e = place_spelled s (at + length cs + 2) r (both (is_comment cs) _ w).1 e
place_spelled (word name s) at empty w e = absurd cc
place_spelled (word name s) at (atom bt b r) w e =
    let same : name ≡ b = cc in
    let rest : without_offsets (forest_at (at + length name) s) ≡ without_offsets r = cc in
    let parts = both (is_name name && _) _ w in
    let some = some_byte name (both (is_name name) _ parts.0).0 in
    let later = place_spelled s (at + length name) r parts.1 rest in
    let g = with_place at bt later.places in
    record {
      places = g;
      is = atom_placed g at bt name b (forest_at (at + length name) s) r (its_place at bt later.places) same
          (same_placed s (at + length name) g later.places parts.1
          (λ x low high. other_place at bt later.places x (omega (arith, low, some))) ∙ later.is);
    }
place_spelled (word name s) at (text bt b r) w e = absurd cc
place_spelled (word name s) at (list bt j r) w e = absurd cc
place_spelled (quoted cs s) at empty w e = absurd cc
place_spelled (quoted cs s) at (atom bt b r) w e = absurd cc
place_spelled (quoted cs s) at (text bt b r) w e =
    let same : cs ≡ b = cc in
    let next = at + length (escape_all cs) + 2 in
    let rest : without_offsets (forest_at (at + length (escape_all cs) + 2) s) ≡ without_offsets r = cc in
    let good = (both _ (is_well_spelled s) w).1 in
    let later = place_spelled s (at + length (escape_all cs) + 2) r good rest in
    let g = with_place at bt later.places in
    record {
      places = g;
      is = text_placed g at bt cs b (forest_at next s) r (its_place at bt later.places) same
          (same_placed s next g later.places good
          (λ x low high. other_place at bt later.places x (omega (arith, low))) ∙ later.is);
    }
place_spelled (quoted cs s) at (list bt j r) w e = absurd cc
place_spelled (parens inner s) at empty w e = absurd cc
place_spelled (parens inner s) at (atom bt b r) w e = absurd cc
place_spelled (parens inner s) at (text bt b r) w e = absurd cc
place_spelled (parens inner s) at (list bt j r) w e =
    let next = at + length (spelling_bytes inner) + 2 in
    let deep : without_offsets (forest_at (at + 1) inner) ≡ without_offsets j = cc in
    let rest : without_offsets (forest_at (at + length (spelling_bytes inner) + 2) s) ≡ without_offsets r = cc in
    let parts = both (is_well_spelled inner) (is_well_spelled s) w in
    let one = place_spelled inner (at + 1) j parts.0 deep in
    let two = place_spelled s (at + length (spelling_bytes inner) + 2) r parts.1 rest in
    let h = split_places next one.places two.places in
    let g = with_place at bt h in
    record {
      places = g;
      is = list_placed g at bt (forest_at (at + 1) inner) j (forest_at next s) r (its_place at bt h)
          (same_placed inner (at + 1) g one.places parts.0
          (λ x low high. other_place at bt h x (omega (arith, low))
          ∙ first_places next one.places two.places x (omega (arith, high))) ∙ one.is)
          (same_placed s next g two.places parts.1
          (λ x low high. other_place at bt h x (omega (arith, low))
          ∙ last_places next one.places two.places x low) ∙ two.is);
    }

-- What does not depend on offsets.

pub can_without : (f : Forest) → CanBeSpelled f → CanBeSpelled (without_offsets f)
can_without empty h = tt
can_without (atom at a f) h = (h.0, can_without f h.1)
can_without (text at s f) h = (h.0, h.1, can_without f h.2)
can_without (list at i f) h = (can_without i h.0, can_without f h.1)

pub without_twice : (f : Forest) → without_offsets (without_offsets f) ≡ without_offsets f
without_twice empty = refl
without_twice (atom at a f) = ap (atom 0 a) (without_twice f)
without_twice (text at s f) = ap (text 0 s) (without_twice f)
without_twice (list at i f) = ap (λ j. list 0 j (without_offsets (without_offsets f))) (without_twice i)
    ∙ ap (list 0 (without_offsets i)) (without_twice f)

pub nesting-without : (f : Forest) → list_nesting (without_offsets f) ≡ list_nesting f
nesting-without empty = refl
nesting-without (atom at a f) = nesting-without f
nesting-without (text at s f) = nesting-without f
nesting-without (list at i f) = omega (arith, nesting-without i, nesting-without f)

-- Limits of tokens.

pub join_none : {A : Type 0} (xs ys : List A) → xs ≡ [] → ys ≡ [] → xs ++ ys ≡ []
join_none xs ys e f = ap (λ l. l ++ ys) e ∙ f

pub no_offset : (b c : Bool) (at bt : ℕ) → c ≡ b → offset_if b at ≡ [] → offset_if c bt ≡ []
no_offset true c at bt e h = absurd cc
no_offset false c at bt e h = ap (λ t. offset_if t bt) e

module _ (g : ℕ → ℕ) where
  tree_count-placed : (f : Forest) → tree_count (placed_forest g f) ≡ tree_count f
  tree_count-placed empty = refl
  tree_count-placed (atom at a f) = ap (λ n. suc n) (tree_count-placed f)
  tree_count-placed (text at s f) = ap (λ n. suc n) (tree_count-placed f)
  tree_count-placed (list at i f) = ap (λ n. suc n) (tree_count-placed f)

  oversized_list-placed : (f : Forest) → is_oversized_list (placed_forest g f) ≡ is_oversized_list f
  oversized_list-placed empty = refl
  oversized_list-placed (atom at a f) = ap (λ n. bytes_eq a (codes "ints") && nat_lt most_items n) (tree_count-placed f)
  oversized_list-placed (text at s f) = refl
  oversized_list-placed (list at i f) = refl

  pub oversized-placed : (f : Forest) → oversized_offsets f ≡ [] → oversized_offsets (placed_forest g f) ≡ []
  oversized-placed empty h = refl
  oversized-placed (atom at a f) h =
      let parts = none_in (offset_if (is_oversized_atom a) at) (oversized_offsets f) h in
      join_none _ _ (no_offset (is_oversized_atom a) (is_oversized_atom a) at (g at) refl parts.0)
      (oversized-placed f parts.1)
  oversized-placed (text at s f) h =
      let parts = none_in (offset_if (is_oversized_string s) at) (oversized_offsets f) h in
      join_none _ _ (no_offset (is_oversized_string s) (is_oversized_string s) at (g at) refl parts.0)
      (oversized-placed f parts.1)
  oversized-placed (list at i f) h =
      let front = none_in (offset_if (is_oversized_list i) at ++ oversized_offsets i) (oversized_offsets f) h in
      let parts = none_in (offset_if (is_oversized_list i) at) (oversized_offsets i) front.0 in
      join_none _ _ (join_none _ _ (no_offset (is_oversized_list i) (is_oversized_list (placed_forest g i)) at (g at)
      (oversized_list-placed i) parts.0) (oversized-placed i parts.1)) (oversized-placed f front.1)

  is_do-placed : (i : Forest) → is_do (placed_forest g i) ≡ is_do i
  is_do-placed empty = refl
  is_do-placed (atom at a f) = refl
  is_do-placed (text at s f) = refl
  is_do-placed (list at i f) = refl

  pub program_trees-placed : (f : Forest) → program_trees (placed_forest g f) ≡ placed_forest g (program_trees f)
  program_trees-placed empty = refl
  program_trees-placed (atom at a f) = ap (atom (g at) a) (program_trees-placed f)
  program_trees-placed (text at s f) = ap (text (g at) s) (program_trees-placed f)
  program_trees-placed (list at i f) =
      ap (λ b. if b then empty else list (g at) (placed_forest g i) (program_trees (placed_forest g f))) (is_do-placed i)
      ∙ by (is_do i) (program_trees-placed f)
    where
      by : (b : Bool) → program_trees (placed_forest g f) ≡ placed_forest g (program_trees f)
          → (if b then empty else list (g at) (placed_forest g i) (program_trees (placed_forest g f)))
          ≡ placed_forest g (if b then empty else list at i (program_trees f))
      by true e = refl
      by false e = ap (list (g at) (placed_forest g i)) e

  pub script_trees-placed : (f : Forest) → script_trees (placed_forest g f) ≡ placed_forest g (script_trees f)
  script_trees-placed empty = refl
  script_trees-placed (atom at a f) = script_trees-placed f
  script_trees-placed (text at s f) = script_trees-placed f
  script_trees-placed (list at i f) =
      ap (λ b. if b then list (g at) (placed_forest g i) (placed_forest g f) else script_trees (placed_forest g f))
      (is_do-placed i)
      ∙ by (is_do i) (script_trees-placed f)
    where
      by : (b : Bool) → script_trees (placed_forest g f) ≡ placed_forest g (script_trees f)
          → (if b then list (g at) (placed_forest g i) (placed_forest g f) else script_trees (placed_forest g f))
          ≡ placed_forest g (if b then list at i f else script_trees f)
      by true e = refl
      by false e = e
